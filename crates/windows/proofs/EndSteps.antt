-- Laws of the windows from one start, as the end moves on: what holds while none is overfull, and what the test of the sum says.
-- Assumes nothing.
use mathlib.Core.Path.{◌≡◌, sym, ◌∙◌}
use mathlib.Core.Bool.{true, false}
use mathlib.Core.Logic.{◌⊎◌, inl, inr}
use mathlib.Core.List.{List}
use Prim.Native.Nat.{ℕ, suc, ◌+◌, ◌-◌, ◌*◌, ◌^◌, ◌<◌, ◌≤◌}
use native.Mathlib.Nat.{le_trans, mul-le-mul_right}
use native.Mathlib.Numerals.{add-one}
use native.Mathlib.Omega.{arith}
use lib.ListN.{length, get_or}
use lib.Dec.{leb}
use borrow.Author.Tests.{ltb-false, le-ltb, lt-ltb}
use Rattle.model.specs.declared.Job.{Job}
use Rattle.model.specs.Limits.{max_jobs, max_cycles, max_deadline}
use Rattle.model.specs.Jobs.{job_of, ValidJobs}
use Rattle.model.specs.Intervals.{bound_at}
use Rattle.model.specs.Windows.{is_inside, cycles_inside, is_overfull}
use Rattle.model.proofs.Numbers.{lt_or_le, both_true}
use Rattle.model.proofs.Sum.{sum_mono, sum_const}
use Rattle.model.proofs.SumMore.{only_if_le, only_if_mono}
use Rattle.model.proofs.Intervals.{bounds_mono}
use Rattle.job_sets.specs.declared.JobSet.{JobSet}
use Rattle.job_sets.specs.JobSets.{is_empty, member_count}
use Rattle.windows.specs.Additions.{released_from}
use Rattle.windows.specs.RunningSums.{RunningSum, jobs_inside, total_over}
use Rattle.windows.specs.WindowTests.{TestArrays, HasReleasedFrom, FirstOverfull, NoneOverfull}
use Rattle.windows.proofs.InsideSums.{total_none, total_whole}
use Rattle.windows.proofs.SetTotals.{total_empty, count_empty}
use Rattle.windows.proofs.SumSteps.{ended_with, sum_next, comes_in, rises}

-- at the start no job is inside, and nothing is added
pub sum_none : (jobs : List Job) (start : ℕ) → ValidJobs jobs → RunningSum jobs start start 0 0
unfolding cycles_inside jobs_inside
sum_none jobs start valid =
    record { cycles-inside = sym (total_none jobs (λ j. (job_of jobs j).cycles) start valid); added_once = sym (total_none jobs (λ j. 1) start valid) }

-- the sum at the end, and that no window up to it is overfull
pub record Moving (top : ℕ) (jobs : List Job) (bounds : List ℕ) (start last total added : ℕ) : Type 0 where
  pub running : RunningSum jobs (bound_at bounds start) (bound_at bounds last) total added
  pub fits : (i : ℕ) → start ≤ i → i ≤ last → is_overfull top jobs (bound_at bounds start) (bound_at bounds i) ≡ false

-- what the sum says of the window
module _ {jobs : List Job} {start end total added : ℕ} (top : ℕ) (running : RunningSum jobs start end total added) where
  sum_fits : total ≤ (end - start) * top → is_overfull top jobs start end ≡ false
  unfolding is_overfull
  sum_fits small = le-ltb ((end - start) * top) (cycles_inside jobs start end) (omega (arith, running.cycles-inside))

  fitting_sum : is_overfull top jobs start end ≡ false → total ≤ (end - start) * top
  unfolding is_overfull
  fitting_sum fits = omega (arith, running.cycles-inside, ltb-false ((end - start) * top) (cycles_inside jobs start end) fits)

  sum_overfull : (end - start) * top < total → is_overfull top jobs start end ≡ true
  unfolding is_overfull
  sum_overfull large = lt-ltb ((end - start) * top) (cycles_inside jobs start end) (omega (arith, running.cycles-inside))

  -- no job is added that is released before the start
  added_few : added ≤ released_from jobs start
  unfolding jobs_inside released_from
  added_few =
      let most =
      sum_mono (length jobs)
      (λ j below. only_if_mono (is_inside start end (job_of jobs j)) (leb start (job_of jobs j).release) 1 (λ in_window. (both_true _ _ in_window).0)) in
      omega (arith, running.added_once, most)

  -- no sum is larger than all cycles
  sum_small : ValidJobs jobs → (total < 2 ^ 64) × (added < 2 ^ 64)
  unfolding cycles_inside jobs_inside
  sum_small valid =
      let most =
      sum_mono (length jobs) {g = λ j. max_cycles}
      (λ j below. le_trans (only_if_le (is_inside start end (job_of jobs j)) (job_of jobs j).cycles) (valid.cycles_high j below)) in
      let few = sum_mono (length jobs) {g = λ j. 1} (λ j below. only_if_le (is_inside start end (job_of jobs j)) 1) in
      let all : length jobs * max_cycles ≤ max_jobs * max_cycles = mul-le-mul_right max_cycles valid.few in (
        omega (arith, running.cycles-inside, most, sum_const (length jobs) max_cycles),
        omega (arith, running.added_once, few, sum_const (length jobs) 1, valid.few),
      )

module _ {jobs : List Job} {bounds times cycles sets : List ℕ} {intervals : ℕ} (arrays : TestArrays jobs bounds times cycles sets intervals)
    (top start : ℕ) where
  pub moving_start : Moving top jobs bounds start start 0 0
  moving_start =
      let none = sum_none jobs (bound_at bounds start) arrays.valid in
      record { running = none; fits = λ i low high. let same : i ≡ start = omega arith in rw same (sum_fits top none (omega arith)) }

  -- all windows are tested
  pub moving_done : {last total added : ℕ} → last ≡ intervals → Moving top jobs bounds start last total added
      → NoneOverfull top jobs bounds start added
  unfolding jobs_inside released_from
  moving_done {last} {total} {added} whole moving =
      record {
        fits = λ i low high. moving.fits i low (omega (arith, arrays.counted));
        added_all = moving.running.added_once ∙ total_whole jobs (λ j. 1) (bound_at bounds start) (bound_at bounds last) ends;
      }
    where
      ends : (j : ℕ) → j < length jobs → (job_of jobs j).deadline ≤ bound_at bounds last
      ends j below =
          let (k, number, is) = arrays.bounds-of.deadline_found j below in
          omega (arith, is, bounds_mono arrays.bounds-of k last (omega (arith, arrays.counted)) (omega (arith, arrays.counted)))

  module _ (from : JobSet) (last : ℕ) (released : HasReleasedFrom jobs bounds from start) (inside : last < intervals) (total added : ℕ)
      (moving : Moving top jobs bounds start last total added) where
    -- one window more
    longer : (total' added' : ℕ) → RunningSum jobs (bound_at bounds start) (bound_at bounds (suc last)) total' added'
        → total' ≤ (bound_at bounds (suc last) - bound_at bounds start) * top → Moving top jobs bounds start (suc last) total' added'
    longer total' added' next small = record { running = next; fits = λ i low high. step i low high (lt_or_le last i) }
      where
        step : (i : ℕ) → start ≤ i → i ≤ suc last → (last < i) ⊎ (i ≤ last) → is_overfull top jobs (bound_at bounds start) (bound_at bounds i) ≡ false
        step i low high (inl later) = let same : i ≡ suc last = omega arith in rw same (sum_fits top next small)
        step i low high (inr earlier) = moving.fits i low earlier

    -- the sum with the jobs that end there
    sum_there : RunningSum jobs (bound_at bounds start) (bound_at bounds (suc last))
        (total + total_over (ended_with sets intervals from last) cycles) (added + member_count (ended_with sets intervals from last))
    sum_there = sum_next arrays from start last released inside moving.running

    pub sum_there_small : (total + total_over (ended_with sets intervals from last) cycles < 2 ^ 64)
        × (added + member_count (ended_with sets intervals from last) < 2 ^ 64)
    sum_there_small = sum_small top sum_there arrays.valid

    -- the times of the window, where some job ends with it
    pub window_times : start ≤ last → is_empty (ended_with sets intervals from last) ≡ false
        → (get_or times (last + 1) 0 ≡ bound_at bounds (suc last)) × (get_or times start 0 ≡ bound_at bounds start)
        × (bound_at bounds start ≤ bound_at bounds (suc last)) × (bound_at bounds (suc last) ≤ max_deadline)
    window_times begun some =
        let (k, below, ends) = comes_in arrays from start last released inside some in (
          rw (add-one last) (arrays.times_are (suc last) (omega (arith, arrays.counted))),
          arrays.times_are start (omega (arith, arrays.counted)),
          bounds_mono arrays.bounds-of start (suc last) (omega arith) (omega (arith, arrays.counted)),
          omega (arith, ends, arrays.valid.deadline_high k below),
        )

    -- no job ends there
    pub moving_on : start ≤ last → is_empty (ended_with sets intervals from last) ≡ true → Moving top jobs bounds start (suc last) total added
    moving_on begun empty =
        let none = total_empty (ended_with sets intervals from last) cycles empty in
        let no-jobs = count_empty (ended_with sets intervals from last) empty in
        let wider : bound_at bounds last - bound_at bounds start ≤ bound_at bounds (suc last) - bound_at bounds start =
        omega (arith, rises arrays from start last released inside) in
        longer total added
        (record {
          cycles-inside = omega (arith, none, sum_there.cycles-inside);
          added_once = omega (arith, no-jobs, sum_there.added_once);
        })
        (omega (arith, fitting_sum top moving.running (moving.fits last begun (omega arith)), mul-le-mul_right top wider))

    -- some job ends there, and the window is not overfull
    module _ (total' added' : ℕ) (adds : total' ≡ total + total_over (ended_with sets intervals from last) cycles)
        (counts : added' ≡ added + member_count (ended_with sets intervals from last)) where
      added_there : RunningSum jobs (bound_at bounds start) (bound_at bounds (suc last)) total' added'
      added_there = rw (adds, counts) sum_there

      pub moving_fits : total' ≤ (bound_at bounds (suc last) - bound_at bounds start) * top → Moving top jobs bounds start (suc last) total' added'
      moving_fits = longer total' added' added_there

      -- or it is
      pub moving_hit : start ≤ last → is_empty (ended_with sets intervals from last) ≡ false
          → (bound_at bounds (suc last) - bound_at bounds start) * top < total' → FirstOverfull top jobs bounds start (last + 1) added'
      moving_hit begun some large =
          rw (add-one last)
          (record {
            overfull = sum_overfull top added_there large;
            inside = (omega arith, omega (arith, arrays.counted));
            deadline = comes_in arrays from start last released inside some;
            fits_before = λ i low below. moving.fits i low (omega arith);
            added_most = added_few top added_there;
            added_inside = added_there.added_once;
          })
