-- Laws of bounds that stand in an array: the bounds one by one, the length of an interval, and which jobs are open in it.
-- Assumes nothing.
use mathlib.Core.Path.{◌≡◌}
use mathlib.Core.List.{List}
use Prim.Native.Nat.{ℕ, suc, ◌+◌, ◌-◌, ◌*◌, ◌<◌, ◌≤◌}
use native.Mathlib.Nat.{mul-le-mul}
use native.Mathlib.Numerals.{add-one}
use native.Mathlib.Omega.{arith}
use lib.ListN.{length, get_or}
use Rattle.model.specs.declared.Job.{Job}
use Rattle.model.specs.Limits.{max_deadline, max_frequency}
use Rattle.model.specs.Intervals.{interval_count, bound_at, length_of, is_open}
use Rattle.model.proofs.Entries.{length_list_of, get_d_list_of}
use Rattle.intervals.specs.Times.{SmallBounds}
use Rattle.job_records.specs.TestedJobs.{open_between}
use Rattle.fitting.specs.FirstHalf.{bounds_in}

module _ (count : ℕ) (times : List ℕ) where
  pub length_bounds_in : length (bounds_in count times) ≡ count
  unfolding bounds_in
  length_bounds_in = length_list_of count _

  pub intervals_in : interval_count (bounds_in count times) ≡ count - 1
  intervals_in = rw length_bounds_in

  pub bound_in : (i : ℕ) → i < count → bound_at (bounds_in count times) i ≡ get_or times i 0
  unfolding bounds_in
  bound_in i below = get_d_list_of count _ i 0 below

  -- interval i ends at bound i + 1
  pub end_in : (i : ℕ) → i + 1 < count → bound_at (bounds_in count times) (suc i) ≡ get_or times (i + 1) 0
  end_in i below = rw (← add-one i) (bound_in (i + 1) below)

  pub length_in : (i : ℕ) → i + 1 < count → length_of (bounds_in count times) i ≡ get_or times (i + 1) 0 - get_or times i 0
  unfolding length_of
  length_in i below = rw (end_in i below, bound_in i (omega arith))

  pub open_in : (job : Job) (i : ℕ) → i + 1 < count
      → is_open (bounds_in count times) job i ≡ open_between job.release job.deadline times i
  unfolding is_open
  open_in job i below = rw (end_in i below, bound_in i (omega arith))

  module _ (small : SmallBounds count times) (i : ℕ) (below : i + 1 < count) where
    pub bounds_rise : get_or times i 0 < get_or times (i + 1) 0
    bounds_rise = rw (add-one i) (small.rising.rises i (rw (add-one i) at below))

    pub length_small : get_or times (i + 1) 0 - get_or times i 0 ≤ max_deadline
    length_small = omega (arith, small.last (i + 1) below)

    -- what a frequency gives in an interval
    pub capacity_small : (frequency : ℕ) → frequency ≤ max_frequency
        → (get_or times (i + 1) 0 - get_or times i 0) * frequency ≤ max_deadline * max_frequency
    capacity_small frequency high = mul-le-mul length_small high
