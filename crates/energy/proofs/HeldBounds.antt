-- Laws of bounds that stand in an array: how many intervals they make, the length of each, and that the lengths add up to
-- the last bound less the first, at most the latest deadline allowed; so too a band's cycles and what idling draws.
-- Assumes nothing.
use mathlib.Core.Path.{◌≡◌, sym}
use mathlib.Core.Logic.{◌⊎◌, inl, inr}
use mathlib.Core.List.{List}
use Prim.Native.Nat.{ℕ, suc, ◌+◌, ◌-◌, ◌*◌, ◌<◌, ◌≤◌, min}
use native.Mathlib.Nat.{eq-zero-or-pos, mul-le-mul_right}
use native.Mathlib.Numerals.{add-one}
use native.Mathlib.Omega.{arith}
use lib.ListN.{length, get_or, take, length-take, get_or-eq_default}
use lib.Seq.{get_or-take}
use Rattle.model.specs.Limits.{max_deadline}
use Rattle.model.specs.Sum.{sum}
use Rattle.model.specs.Intervals.{interval_count, length_of}
use Rattle.model.proofs.Numbers.{lt_or_le}
use Rattle.model.proofs.Sum.{sum_mono, sum_mul_right, sum_telescopes, sum_next}
use Rattle.intervals.specs.Times.{SmallBounds}
use Rattle.energy.specs.Figures.{cycles_in, band_total_of, idle_of}

module _ (bounds : ℕ) (times : List ℕ) (small : SmallBounds bounds times) where
  -- The array is long enough for its bounds: past its end there are zeros, which do not rise.
  held_intervals : interval_count (take bounds times) ≡ bounds - 1
  held_intervals = go (lt_or_le (length times) bounds) (lt_or_le 1 bounds)
    where
      go : (length times < bounds) ⊎ (bounds ≤ length times) → (1 < bounds) ⊎ (bounds ≤ 1) → interval_count (take bounds times) ≡ bounds - 1
      go (inl short) (inl two) =
          let place : suc (bounds - 2) ≡ bounds - 1 = omega arith in
          let zero-there : get_or times (bounds - 1) 0 ≡ 0 = get_or-eq_default times 0 (omega arith) in
          let rises : get_or times (bounds - 2) 0 < get_or times (bounds - 1) 0 = rw place at (small.rising.rises (bounds - 2) (omega arith)) in
          absurd (omega arith)
      go (inl short) (inr one) = rw length-take (omega arith)
      go (inr enough) number = rw length-take (omega arith)

  pub bound_rises : (i : ℕ) → i + 1 < bounds → get_or times i 0 < get_or times (i + 1) 0
  bound_rises i below = rw (add-one i) (small.rising.rises i (omega arith))

  held_length : (i : ℕ) → i + 1 < bounds → length_of (take bounds times) i ≡ get_or times (i + 1) 0 - get_or times i 0
  unfolding length_of
  held_length i below = rw (get_or-take bounds times i 0 (omega arith), get_or-take bounds times (suc i) 0 (omega arith), add-one i)

  -- the lengths of the first intervals
  lengths_reach : (k : ℕ) → k ≤ bounds - 1 → get_or times 0 0 + sum k (length_of (take bounds times)) ≡ get_or times k 0
  lengths_reach k within =
      sum_telescopes k (λ i. get_or times i 0) (length_of (take bounds times))
      (λ i below. rw (held_length i (omega arith), add-one i) (omega (arith, small.rising.rises i (omega arith))))

  lengths_few : (k : ℕ) → k ≤ bounds - 1 → sum k (length_of (take bounds times)) ≤ max_deadline
  unfolding sum
  lengths_few k within = go (eq-zero-or-pos bounds)
    where
      go : (bounds ≡ 0) ⊎ (0 < bounds) → sum k (length_of (take bounds times)) ≤ max_deadline
      go (inl nothing) = let start : k ≡ 0 = omega arith in rw start (omega arith)
      go (inr some_bound) = omega (arith, lengths_reach k within, small.last k (omega arith))

  pub first_below_last : get_or times 0 0 ≤ get_or times (bounds - 1) 0
  first_below_last = omega (arith, lengths_reach (bounds - 1) (omega arith))

  pub length_few : (i : ℕ) → i + 1 < bounds → get_or times (i + 1) 0 - get_or times i 0 ≤ max_deadline
  length_few i below = omega (arith, small.last (i + 1) below)

  -- a band's cycles
  module _ (loads : List ℕ) (lower gap : ℕ) where
    pub cycles_few : (k : ℕ) → k ≤ bounds - 1 → sum k (cycles_in (take bounds times) loads lower gap) ≤ max_deadline * gap
    cycles_few k within =
        omega (
          arith,
          sum_mono k {f = cycles_in (take bounds times) loads lower gap} {g = λ i. length_of (take bounds times) i * gap} (λ i below. omega arith),
          sum_mul_right k gap (length_of (take bounds times)),
          mul-le-mul_right gap (lengths_few k within),
        )

    pub total_few : band_total_of (take bounds times) loads lower gap ≤ max_deadline * gap
    unfolding band_total_of
    total_few = rw held_intervals (cycles_few (bounds - 1) (omega arith))

    -- one interval more
    pub cycles_more : (i total cycles : ℕ) → i + 1 < bounds → total ≡ sum i (cycles_in (take bounds times) loads lower gap)
        → cycles ≡ min ((get_or times (i + 1) 0 - get_or times i 0) * gap) (get_or loads i 0 - (get_or times (i + 1) 0 - get_or times i 0) * lower)
        → total + cycles ≡ sum (i + 1) (cycles_in (take bounds times) loads lower gap)
    cycles_more i total cycles below before found =
        let here : cycles ≡ cycles_in (take bounds times) loads lower gap i = rw (held_length i below) found in
        omega (arith, sum_next i (cycles_in (take bounds times) loads lower gap))

    -- after the last
    pub cycles_all : (i total : ℕ) → i ≤ bounds - 1 → bounds ≤ i + 1 → total ≡ sum i (cycles_in (take bounds times) loads lower gap)
        → total ≡ band_total_of (take bounds times) loads lower gap
    unfolding band_total_of
    cycles_all i total within past e = let all : interval_count (take bounds times) ≡ i = omega (arith, held_intervals) in rw all e

  -- what idling draws
  module _ (power : ℕ) where
    pub idle_few : idle_of (take bounds times) power ≤ max_deadline * power
    unfolding idle_of
    idle_few =
        rw (held_intervals, sum_mul_right (bounds - 1) power (length_of (take bounds times)))
        (mul-le-mul_right power (lengths_few (bounds - 1) (omega arith)))

    pub idle_none : bounds ≡ 0 → 0 ≡ idle_of (take bounds times) power
    unfolding idle_of sum
    idle_none nothing = let no_intervals : interval_count (take bounds times) ≡ 0 = omega (arith, held_intervals) in rw no_intervals

    pub idle_whole : (get_or times (bounds - 1) 0 - get_or times 0 0) * power ≡ idle_of (take bounds times) power
    unfolding idle_of
    idle_whole =
        let whole : get_or times (bounds - 1) 0 - get_or times 0 0 ≡ sum (bounds - 1) (length_of (take bounds times)) =
        omega (arith, lengths_reach (bounds - 1) (omega arith)) in
        rw (held_intervals, whole) (sym (sum_mul_right (bounds - 1) power (length_of (take bounds times))))
