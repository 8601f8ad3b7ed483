-- A stretch of time on two speeds, each tick cut into q slots: the upper speed for extra / gap ticks, first, and the lower one for
-- the remaining time. Where gap divides q the switch falls between two slots, and where the speeds divide q too, no slot
-- crosses a multiple of q in what is delivered.
-- Assumes nothing.
use mathlib.Core.Path.{◌≡◌, ◌∙◌, ap}
use mathlib.Core.Bool.{cond}
use mathlib.Core.Logic.{◌⊎◌, inl, inr}
use Prim.Native.Nat.{ℕ, suc, ◌+◌, ◌-◌, ◌*◌, ◌<◌, ◌≤◌, ◌∣◌}
use native.Mathlib.Nat.{mul-le-mul_right, mul-lt-mul_of_pos_right, dvd-mul_left, dvd-mul_right_of_dvd, dvd-add}
use native.Mathlib.Omega.{arith}
use lib.Dec.{ltb}
use borrow.Author.Tests.{lt-ltb, le-ltb}
use Rattle.model.specs.Sum.{sum}
use Rattle.model.proofs.Numbers.{lt_or_le}
use Rattle.model.proofs.Sum.{sum_cong, sum_const}
use Rattle.model.proofs.SumMore.{sum_two_stretches}
use Rattle.model.proofs.Divides.{multiples_apart}

-- the one value while slot u lies in the first extra / gap ticks, the other one after that
abbrev pub switched : (q gap extra first second u : ℕ) → ℕ
switched q gap extra first second u = cond (ltb (u * gap) (q * extra)) first second

module _ (q gap extra part : ℕ) (positive : 0 < gap) (cut : gap * part ≡ q) where
  before_switch : (first second u : ℕ) → u < part * extra → switched q gap extra first second u ≡ first
  before_switch first second u early =
      let e : u * gap < q * extra = omega (arith, mul-lt-mul_of_pos_right early positive, ap (λ (x : ℕ). x * extra) cut) in
      rw (lt-ltb (u * gap) (q * extra) e)

  after_switch : (first second u : ℕ) → part * extra ≤ u → switched q gap extra first second u ≡ second
  after_switch first second u late =
      let e : q * extra ≤ u * gap = omega (arith, mul-le-mul_right gap late, ap (λ (x : ℕ). x * extra) cut) in
      rw (le-ltb (u * gap) (q * extra) e)

  -- a sum over all slots
  pub switched_sum : (ticks rest : ℕ) → extra + rest ≡ ticks * gap → (first second : ℕ)
      → gap * sum (q * ticks) (switched q gap extra first second) ≡ q * (extra * first + rest * second)
  switched_sum ticks rest whole first second =
      let slots : q * ticks ≡ part * extra + part * rest =
      omega (arith, ap (λ (x : ℕ). part * x) whole, ap (λ (x : ℕ). x * ticks) cut) in
      rw (
        slots,
        sum_two_stretches (part * extra) (part * rest) first second (switched q gap extra first second)
            (before_switch first second) (after_switch first second),
        ← cut,
      )
      (omega arith)

  -- what is delivered before slot u, up to the switch and after it
  delivered_early : (low u : ℕ) → u ≤ part * extra → sum u (switched q gap extra (low + gap) low) ≡ u * (low + gap)
  delivered_early low u early =
      sum_cong u (λ v below. before_switch (low + gap) low v (omega arith)) ∙ sum_const u (low + gap)

  delivered_late : (low u : ℕ) → part * extra ≤ u → sum u (switched q gap extra (low + gap) low) ≡ q * extra + u * low
  delivered_late low u late =
      let e : part * extra + (u - part * extra) ≡ u = omega arith in
      let all : sum u (switched q gap extra (low + gap) low) ≡ part * extra * (low + gap) + (u - part * extra) * low =
      rw e at (sum_two_stretches (part * extra) (u - part * extra) (low + gap) low (switched q gap extra (low + gap) low)
      (before_switch (low + gap) low) (after_switch (low + gap) low)) in
      omega (arith, ap (λ (x : ℕ). x * low) e, ap (λ (x : ℕ). x * extra) cut)

  -- where each slot delivers its speed, no slot crosses a multiple of q
  pub switched_uncrossed : (low : ℕ) → low + gap ∣ q → (low ≡ 0) ⊎ (low ∣ q) → (u cycles : ℕ)
      → sum u (switched q gap extra (low + gap) low) < q * cycles → sum (suc u) (switched q gap extra (low + gap) low) ≤ q * cycles
  unfolding sum
  switched_uncrossed low upper lower u cycles less = go (lt_or_le u (part * extra)) lower
    where
      go : (u < part * extra) ⊎ (part * extra ≤ u) → (low ≡ 0) ⊎ (low ∣ q)
          → sum u (switched q gap extra (low + gap) low) + switched q gap extra (low + gap) low u ≤ q * cycles
      go (inl early) either =
          rw (before_switch (low + gap) low u early)
          (multiples_apart (low + gap) _ _ (rw (delivered_early low u (omega arith)) (dvd-mul_left (low + gap) u))
          (dvd-mul_right_of_dvd (low + gap) upper cycles) less)
      go (inr late) (inl none) = rw (after_switch (low + gap) low u late) (omega arith)
      go (inr late) (inr divides) =
          rw (after_switch (low + gap) low u late)
          (multiples_apart low _ _ (rw (delivered_late low u late) (dvd-add low (dvd-mul_right_of_dvd low divides extra) (dvd-mul_left low u)))
          (dvd-mul_right_of_dvd low divides cycles) less)
