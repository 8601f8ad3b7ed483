-- Laws of the loops over ends: the least of some numbers so far, and the least spares lowered so far.
-- Assumes nothing.
use mathlib.Core.Path.{◌≡◌, refl, sym, ◌∙◌}
use mathlib.Core.Logic.{◌⊎◌, inl, inr}
use mathlib.Core.List.{List}
use Prim.Native.Nat.{ℕ, zero, suc, ◌+◌, ◌-◌, ◌<◌, ◌≤◌, min}
use native.Mathlib.Decide.{ℕ_discrete}
use native.Mathlib.Numerals.{add-one}
use native.Mathlib.Omega.{arith}
use lib.ListN.{length, get_or, set, length-set}
use lib.Seq.{get_or-set_same, get_or-set_other}
use Rattle.model.specs.Limits.{max_bounds}
use Rattle.model.proofs.Numbers.{lt_or_le}
use Rattle.job_rooms.specs.Spares.{CanLower, spare_to, Lowered, LeastAmong}

-- The least of the numbers from a place up to, not including, another.
pub record LeastSoFar (numbers : List ℕ) (first next least : ℕ) : Type 0 where
  pub past : first < next
  pub lowest : (i : ℕ) → first ≤ i → i < next → least ≤ get_or numbers i 0
  pub met : (i : ℕ) × (first ≤ i) × (i < next) × (get_or numbers i 0 ≡ least)

module _ (numbers : List ℕ) (first : ℕ) where
  pub so_far_first : (least : ℕ) → least ≡ get_or numbers first 0 → LeastSoFar numbers first (first + 1) least
  so_far_first least is =
      record {
        past = omega arith;
        lowest = λ i low high. let same : i ≡ first = omega arith in rw same (omega (arith, is));
        met = (first, omega arith, omega arith, sym is);
      }

  module _ (next least : ℕ) (so_far : LeastSoFar numbers first next least) where
    -- one number more
    step : (least' : ℕ) → least' ≤ least → least' ≤ get_or numbers next 0
        → (i : ℕ) × (first ≤ i) × (i < next + 1) × (get_or numbers i 0 ≡ least') → LeastSoFar numbers first (next + 1) least'
    step least' low here met = record { past = omega (arith, so_far.past); lowest = λ i from to. each i from to (lt_or_eq i to); met = met }
      where
        lt_or_eq : (i : ℕ) → i < next + 1 → (i < next) ⊎ (i ≡ next)
        lt_or_eq i to = go (ℕ_discrete i next)
          where
            go : Dec (i ≡ next) → (i < next) ⊎ (i ≡ next)
            go (yes e) = inr e
            go (no other) = inl (omega (arith, other))

        each : (i : ℕ) → first ≤ i → i < next + 1 → (i < next) ⊎ (i ≡ next) → least' ≤ get_or numbers i 0
        each i from to (inl before) = omega (arith, so_far.lowest i from before)
        each i from to (inr same) = rw same here

    pub so_far_next : LeastSoFar numbers first (next + 1) (min least (get_or numbers next 0))
    so_far_next = step (min least (get_or numbers next 0)) (omega arith) (omega arith) (which (lt_or_le (get_or numbers next 0) least))
      where
        which : (get_or numbers next 0 < least) ⊎ (least ≤ get_or numbers next 0)
            → (i : ℕ) × (first ≤ i) × (i < next + 1) × (get_or numbers i 0 ≡ min least (get_or numbers next 0))
        which (inl less) = (next, omega (arith, so_far.past), omega arith, omega arith)
        which (inr more) = let (i, from, to, is) = so_far.met in (i, from, omega arith, omega (arith, is))

    pub so_far_done : (last : ℕ) → next ≡ last + 1 → LeastAmong numbers first last least
    so_far_done last done =
        let (i, from, to, is) = so_far.met in
        record { lowest = λ i from to. so_far.lowest i from (omega arith); met = (i, from, omega arith, is) }

-- The spares of the ends before one are lowered, and the sum has what the jobs inside need up to the end before it.
pub record Lowering (need : ℕ → ℕ) (capacity : List ℕ) (intervals start : ℕ) (before list : List ℕ) (total end : ℕ) : Type 0 where
  pub past : start < end
  pub within : end ≤ intervals + 1
  pub size : length list ≡ length before
  pub total_is : (last : ℕ) → suc last ≡ end → total ≡ get_or capacity start 0 + need last
  pub lowered : (e : ℕ) → start < e → e < end → get_or list e 0 ≡ min (get_or before e 0) (spare_to need capacity start e)
  pub left : (e : ℕ) → end ≤ e → get_or list e 0 ≡ get_or before e 0

module _ {need : ℕ → ℕ} {capacity due : List ℕ} {intervals start : ℕ} (can : CanLower need capacity due intervals start) (before : List ℕ) where
  pub lowering_first : Lowering need capacity intervals start before before (get_or capacity start 0) (start + 1)
  lowering_first =
      record {
        past = omega arith;
        within = omega (arith, can.inside);
        size = refl;
        total_is = λ last is. let same : last ≡ start = omega (arith, is, add-one start) in rw same (omega (arith, can.need_none));
        lowered = λ e low high. absurd (omega arith);
        left = λ e past. refl;
      }

  module _ (list : List ℕ) (total end : ℕ) (so_far : Lowering need capacity intervals start before list total end) (inside : end ≤ intervals) where
    -- the sum with what is due at the end
    pub total_next : total + get_or due end 0 ≡ get_or capacity start 0 + need end
    total_next = go end refl
      where
        go : (e : ℕ) → e ≡ end → total + get_or due end 0 ≡ get_or capacity start 0 + need end
        go zero is = absurd (omega (arith, so_far.past))
        go (suc last) is =
            rw (← is) (omega (arith, so_far.total_is last is, can.need_next last (omega (arith, so_far.past)) (omega arith)))

    pub end_small : end < max_bounds
    end_small = omega (arith, can.few)

    pub total_fits : total + get_or due end 0 ≤ get_or capacity end 0
    total_fits = omega (arith, total_next, can.fits end so_far.past inside)

    module _ (total' : ℕ) (is-total : total' ≡ total + get_or due end 0) (least : ℕ)
        (is_least : least ≡ min (get_or list end 0) (get_or capacity end 0 - total')) (room : end < length list) where
      here : get_or (set list end least) end 0 ≡ min (get_or before end 0) (spare_to need capacity start end)
      here = get_or-set_same list end least 0 room ∙ is_least ∙ rw (is-total ∙ total_next, so_far.left end (omega arith))

      pub lowering_next : Lowering need capacity intervals start before (set list end least) total' (end + 1)
      lowering_next =
          record {
            past = omega (arith, so_far.past);
            within = omega arith;
            size = length-set list end least ∙ so_far.size;
            total_is = λ last is. let same : last ≡ end = omega (arith, is, add-one end) in rw same (is-total ∙ total_next);
            lowered = λ e low high. each e low high (ℕ_discrete e end);
            left = λ e past. get_or-set_other list end e least 0 (λ same. omega arith) ∙ so_far.left e (omega arith);
          }
        where
          each : (e : ℕ) → start < e → e < end + 1 → Dec (e ≡ end) → get_or (set list end least) e 0 ≡ min (get_or before e 0) (spare_to need capacity start e)
          each e low high (yes same) = rw same here
          each e low high (no different) = get_or-set_other list end e least 0 different ∙ so_far.lowered e low (omega (arith, different))

  pub lowering_done : (list : List ℕ) (total end : ℕ) → Lowering need capacity intervals start before list total end → end ≡ intervals + 1
      → Lowered need capacity intervals start before list
  lowering_done list total end so_far done = record { size = so_far.size; lowered = λ e low high. so_far.lowered e low (omega arith) }
