-- The slots of a whole schedule, interval by interval, each tick cut into q slots: slot u of interval i is slot
-- q × (bound i − bound 0) + u of the whole, every slot is one of these, and its tick lies in that interval.
-- Assumes nothing.
use mathlib.Core.Path.{◌≡◌, sym}
use mathlib.Core.List.{List}
use Prim.Native.Nat.{ℕ, suc, ◌+◌, ◌-◌, ◌*◌, ◌/◌, ◌<◌, ◌≤◌}
use native.Mathlib.Nat.{le_trans, mul-add-div, div-lt_iff_lt-mul, mul-le-mul_left}
use native.Mathlib.Omega.{arith}
use lib.Dec.{ltb}
use borrow.Author.Tests.{lt-ltb, le-ltb}
use Rattle.model.specs.declared.Job.{Job}
use Rattle.model.specs.Sum.{sum}
use Rattle.model.specs.Search.{first_below}
use Rattle.model.specs.Intervals.{interval_count, bound_at, length_of, Bounds}
use Rattle.model.specs.Schedules.{horizon}
use Rattle.model.proofs.Search.{first_below_is}
use Rattle.model.proofs.Sum.{sum_stretches}
use Rattle.model.proofs.Intervals.{stretch_of, bounds_mono, length_reaches}

-- the first slot of interval i, of q slots a tick
abbrev pub first_slot : (q : ℕ) (bounds : List ℕ) (interval : ℕ) → ℕ
first_slot q bounds i = q * (bound_at bounds i - bound_at bounds 0)

module _ {jobs : List Job} {bounds : List ℕ} (B : Bounds jobs bounds) (q : ℕ) where
  -- an interval's slots end where those of the next begin
  next_slots : (i : ℕ) → i < interval_count bounds → first_slot q bounds (suc i) ≡ first_slot q bounds i + q * length_of bounds i
  next_slots i below =
      let ticks : bound_at bounds (suc i) - bound_at bounds 0 ≡ bound_at bounds i - bound_at bounds 0 + length_of bounds i =
      omega (arith, bounds_mono B 0 i (omega arith) (omega arith), length_reaches B i below) in
      rw ticks (omega arith)

  -- the slots of all intervals are those from earliest release to latest deadline
  pub all_slots : first_slot q bounds (interval_count bounds) ≡ q * horizon jobs
  unfolding horizon
  all_slots = rw (B.first, B.last)

  none_before : first_slot q bounds 0 ≡ 0
  none_before = let e : bound_at bounds 0 - bound_at bounds 0 ≡ 0 = omega arith in rw e (omega arith)

  pub sum_of_slots : (f : ℕ → ℕ)
      → sum (q * horizon jobs) f ≡ sum (interval_count bounds) (λ i. sum (q * length_of bounds i) (λ u. f (first_slot q bounds i + u)))
  sum_of_slots f =
      rw (← all_slots) (sym (sum_stretches (interval_count bounds) (first_slot q bounds) f none_before (λ i. q * length_of bounds i) next_slots))

  pub slot_in_interval : (s : ℕ) → s < q * horizon jobs
      → (i : ℕ) × (i < interval_count bounds) × ((u : ℕ) × (u < q * length_of bounds i) × (first_slot q bounds i + u ≡ s))
  slot_in_interval s below =
      let (i, inside, low, high) =
      stretch_of (interval_count bounds) (first_slot q bounds) s (omega (arith, none_before)) (rw all_slots below) in
      (i, inside, (s - first_slot q bounds i, omega (arith, next_slots i inside), omega arith))

  module _ (i u : ℕ) (inside : i < interval_count bounds) (below : u < q * length_of bounds i) where
    pub slot_below : first_slot q bounds i + u < q * horizon jobs
    slot_below =
        let ticks : bound_at bounds (suc i) - bound_at bounds 0 ≤ bound_at bounds (interval_count bounds) - bound_at bounds 0 =
        omega (arith, bounds_mono B (suc i) (interval_count bounds) inside (omega arith)) in
        omega (arith, next_slots i inside, all_slots, mul-le-mul_left q ticks)

    module _ (positive : 0 < q) where
      -- the tick of a slot lies in the slot's interval
      pub slot_tick : (bound_at bounds i ≤ bound_at bounds 0 + (first_slot q bounds i + u) / q)
          × (bound_at bounds 0 + (first_slot q bounds i + u) / q < bound_at bounds (suc i))
      slot_tick =
          let few : u < length_of bounds i * q = omega arith in
          rw (mul-add-div positive (bound_at bounds i - bound_at bounds 0) u)
          (omega (arith, bounds_mono B 0 i (omega arith) (omega arith), length_reaches B i inside, (div-lt_iff_lt-mul positive).1 few))

      -- it is the first interval that ends after that tick
      pub interval_found : first_below (interval_count bounds) (λ k. ltb (bound_at bounds 0 + (first_slot q bounds i + u) / q) (bound_at bounds (suc k))) ≡ i
      interval_found =
          first_below_is (interval_count bounds) (λ k. ltb (bound_at bounds 0 + (first_slot q bounds i + u) / q) (bound_at bounds (suc k))) i inside
          (λ k before. le-ltb _ _ (le_trans (bounds_mono B (suc k) i before (omega arith)) slot_tick.0)) (lt-ltb _ _ slot_tick.1)
