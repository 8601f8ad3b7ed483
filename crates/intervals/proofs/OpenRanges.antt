-- The bounds of valid jobs, in an array: they are small, the bound that is a time is found by its number, and where the jobs stand in
-- arrays and the numbers of their bounds are found, the open sets that are made of these numbers have the jobs that are open.
-- Assumes nothing.
use mathlib.Core.Path.{◌≡◌, sym, ◌∙◌, ap}
use mathlib.Core.List.{List}
use Prim.Native.Nat.{ℕ, ◌<◌, ◌≤◌}
use native.Mathlib.Omega.{arith}
use lib.ListN.{length, get_or, take}
use borrow.Author.Tests.{le-leb, lt-leb}
use Rattle.model.specs.declared.Job.{Job}
use Rattle.model.specs.Limits.{max_jobs, max_bounds, max_intervals}
use Rattle.model.specs.Jobs.{job_of, ValidJobs}
use Rattle.model.specs.Intervals.{bound_at, Bounds, OpenRange}
use Rattle.model.proofs.Search.{first_below_is}
use Rattle.model.proofs.Intervals.{open_range, bounds_rise}
use Rattle.reading.specs.Column.{column_of}
use Rattle.reading.proofs.Column.{column_at}
use Rattle.job_tables.specs.Tables.{jobs_in}
use Rattle.job_tables.proofs.Read.{length_jobs_in, job-in}
use Rattle.intervals.specs.Times.{HoldsTimes, SmallBounds, number_of}
use Rattle.intervals.specs.OpenSets.{open_sets, HoldsOpen}
use Rattle.intervals.proofs.OpenSets.{open_held}
use Rattle.intervals.proofs.Padded.{take_padded, holds_first}
use Rattle.intervals.proofs.SmallBounds.{small-bounds}

-- bounds of valid jobs, in an array
module _ {jobs : List Job} {bounds times : List ℕ} {count : ℕ}
    (cuts : Bounds jobs bounds) (valid : ValidJobs jobs) (few : length bounds ≤ max_bounds) (holds : HoldsTimes times count bounds) where
  -- they rise, and none is above the latest deadline allowed
  pub bounds_small : SmallBounds count times
  bounds_small = rw (holds.counted, holds.array) (small-bounds cuts valid few _ (take_padded bounds few))

  pub bounds_held : take count times ≡ bounds
  bounds_held = holds_first holds bounds_small.rising.few

  pub time_at : (i : ℕ) → i < length bounds → get_or times i 0 ≡ bound_at bounds i
  time_at i below = ap (λ (array : List ℕ). get_or array i 0) holds.array ∙ column_at max_bounds _ _ i (omega arith) below

  -- the bound that is a time is found by its number
  pub number_found : (i time : ℕ) → i < length bounds → bound_at bounds i ≡ time → number_of count times time ≡ i
  number_found i time below same =
      first_below_is count _ i (omega (arith, holds.counted))
      (λ k before. lt-leb time (get_or times k 0) (omega (arith, time_at k (omega arith), bounds_rise cuts k i before below)))
      (le-leb time (get_or times i 0) (omega (arith, time_at i below)))

  -- the jobs stand in arrays, and for each job the numbers of the bounds that are its release and its deadline were found
  module _ (n : ℕ) (releases deadlines cycles : List ℕ) {first last : List ℕ}
      (jobs_are : jobs_in n releases deadlines cycles ≡ jobs)
      (first-are : first ≡ column_of max_jobs n (λ j. number_of count times (get_or releases j 0)))
      (last-are : last ≡ column_of max_jobs n (λ j. number_of count times (get_or deadlines j 0))) where
    counted : n ≡ length jobs
    counted = rw (← jobs_are) (sym (length_jobs_in n releases deadlines cycles))

    own_job : (j : ℕ) → j < n → job_of jobs j ≡ record { release = get_or releases j 0; deadline = get_or deadlines j 0; cycles = get_or cycles j 0 }
    own_job j below = rw (← jobs_are) (job-in n releases deadlines cycles j below)

    pub range_at : (j : ℕ) → j < length jobs → OpenRange jobs bounds j (get_or first j 0) (get_or last j 0)
    range_at j below = go (open_range cuts j below (valid.release_before_deadline j below))
      where
        here : j < n
        here = omega (arith, counted)

        number_at : (numbers moments : List ℕ) (i : ℕ) → numbers ≡ column_of max_jobs n (λ j. number_of count times (get_or moments j 0))
            → i < length bounds → bound_at bounds i ≡ get_or moments j 0 → get_or numbers j 0 ≡ i
        number_at numbers moments i are inside same =
            rw are (column_at max_jobs _ n j (omega (arith, counted, valid.few)) here ∙ number_found i (get_or moments j 0) inside same)

        go : (lo : ℕ) × (hi : ℕ) × OpenRange jobs bounds j lo hi → OpenRange jobs bounds j (get_or first j 0) (get_or last j 0)
        go (lo, hi, range) =
            let some = range.nonempty in
            let within = range.within in
            let starts : get_or first j 0 ≡ lo =
            number_at first releases lo first-are (omega arith) (range.starts ∙ ap (λ (job : Job). job.release) (own_job j here)) in
            let ends : get_or last j 0 ≡ hi =
            number_at last deadlines hi last-are (omega arith) (range.ends ∙ ap (λ (job : Job). job.deadline) (own_job j here)) in
            rw (starts, ends) range

    -- no number is past the last interval
    pub numbers_few : (j : ℕ) → j < n → (get_or first j 0 ≤ max_intervals) × (get_or last j 0 ≤ max_intervals)
    numbers_few j below =
        let range = range_at j (omega (arith, counted)) in
        (omega (arith, range.nonempty, range.within, few), omega (arith, range.within, few))

    -- the open sets have the jobs that are open
    pub open_in_arrays : HoldsOpen jobs bounds (open_sets n first last)
    open_in_arrays = rw counted (open_held first last valid.few (omega arith) range_at)
