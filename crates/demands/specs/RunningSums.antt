-- A running sum in the window test, over the calls of the test. Document 02, Change 4: "However it is done now, planning must not
-- add up the same jobs again for each pair of release and deadline. Keep the sum as the end moves on; at every end it is proved to
-- be the cycles of the jobs inside. Inside, the test also counts its additions: for a fitting set exactly one for each distinct
-- release and each job released at or after it. Every answer, and the window named by 11, is the same." Proved in
-- proofs/RunningSums.antt. What planning answers is stated as it was, in ThreeDemands.
use Rattle.std.specs.Prelude.{ℕ, suc, ◌+◌, ◌<◌, ◌≤◌, ◌≡◌, false, List, Some, None}
use Rattle.std.proofs.Math.Option.{some}
use Rattle.model.specs.declared.Job.{Job}
use Rattle.model.specs.Jobs.{ValidJobs}
use Rattle.model.specs.Intervals.{bound_at}
use Rattle.model.specs.Windows.{is_overfull, earliest_overfull}
use Rattle.job_sets.specs.declared.JobSet.{JobSet}
use Rattle.job_sets.specs.JobSets.{member_count, in_both}
use Rattle.job_sets.specs.IntervalSets.{leaving_set}
use Rattle.windows.specs.declared.overfull.WindowTest.{WindowTest}
use Rattle.windows.specs.Additions.{additions_before, additions}
use Rattle.windows.specs.RunningSums.{RunningSum, jobs_inside, total_over}
use Rattle.windows.specs.WindowTests.{TestArrays, HasReleasedFrom, Tested}

-- One call of the window test: the top frequency and the jobs that it was lent, and its answer, with the contract that holds of every
-- call.
pub record TestCall : Type 0 where
  pub top : ℕ
  pub jobs : List Job
  pub valid : ValidJobs jobs
  pub answered : WindowTest
  pub contract : Tested top jobs answered

-- A fitting set: no window at all is overfull.
abbrev pub Fitting : TestCall → Type 0
Fitting call = (start end : ℕ) → is_overfull call.top call.jobs start end ≡ false

pub record RunningSums : Type 0 where
  -- at the start no job is inside, and nothing is added
  pub sum_begins : (jobs : List Job) (start : ℕ) → ValidJobs jobs → RunningSum jobs start start 0 0
  -- "Keep the sum as the end moves on; at every end it is proved to be the cycles of the jobs inside": of the jobs released at or after
  -- the start those that end with the next interval are added, and no other
  pub sum_moves_on : {jobs : List Job} {bounds times cycles sets : List ℕ} {intervals : ℕ} → TestArrays jobs bounds times cycles sets intervals
      → (from : JobSet) (start last : ℕ) → HasReleasedFrom jobs bounds from start → last < intervals
      → (total added : ℕ) → RunningSum jobs (bound_at bounds start) (bound_at bounds last) total added
      → RunningSum jobs (bound_at bounds start) (bound_at bounds (suc last))
      (total + total_over (in_both (leaving_set intervals sets last) from) cycles) (added + member_count (in_both (leaving_set intervals sets last) from))
  -- "for a fitting set exactly one for each distinct release and each job released at or after it"
  pub exactly : (call : TestCall) → Fitting call → (call.answered.found ≡ None) × (call.answered.additions ≡ additions call.jobs)
  -- and for no set more
  pub never_more : (call : TestCall) → call.answered.additions ≤ additions call.jobs
  -- where a window is named the test stopped there: one for each distinct release before the window's start and each job released at or
  -- after that release, and one for each job inside the window
  pub until_the_window : (call : TestCall) (start end : ℕ) → call.answered.found ≡ Some (record { start = start; end = end })
      → call.answered.additions ≡ additions_before call.jobs start + jobs_inside call.jobs start end
  -- "the window named by 11, is the same": the earliest start that has an overfull window, and then its earliest end
  pub window_named : (call : TestCall) (start end : ℕ) → call.answered.found ≡ Some (record { start = start; end = end })
      → earliest_overfull call.top call.jobs ≡ some (record { start = start; end = end })
  -- and where none is named the set is a fitting one
  pub none_named : (call : TestCall) → call.answered.found ≡ None → Fitting call
  -- every call is one of these, whatever jobs it was lent
  pub every_call : (top : ℕ) (jobs : List Job) (answered : WindowTest) → ValidJobs jobs → Tested top jobs answered
      → (call : TestCall) × (call.top ≡ top) × (call.jobs ≡ jobs) × (call.answered ≡ answered)
