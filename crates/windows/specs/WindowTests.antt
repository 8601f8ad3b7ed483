-- The window test: what it is lent, and what it answers.
use Rattle.std.specs.Prelude.{ℕ, ◌+◌, ◌<◌, ◌≤◌, ◌≡◌, true, false, List, length, get_or, leb, Option, Some, None}
use Rattle.std.proofs.Math.Option.{none, some}
use Rattle.model.specs.declared.Job.{Job}
use Rattle.model.specs.Limits.{max_bounds}
use Rattle.model.specs.Jobs.{job_of, ValidJobs}
use Rattle.model.specs.Intervals.{interval_count, bound_at, Bounds}
use Rattle.model.specs.Windows.{Window, is_overfull, earliest_overfull}
use Rattle.job_sets.specs.declared.JobSet.{JobSet}
use Rattle.job_sets.specs.JobSets.{is_member}
use Rattle.intervals.specs.OpenSets.{HoldsOpen}
use Rattle.windows.specs.declared.overfull.WindowTest.{WindowTest}
use Rattle.windows.specs.Answers.{overfull_answer}
use Rattle.windows.specs.Additions.{released_from, additions_before, additions}
use Rattle.windows.specs.RunningSums.{jobs_inside}

-- Jobs and their bounds in arrays: the bounds' times, the jobs' cycles, and for each interval the set of the jobs open there.
pub record TestArrays (jobs : List Job) (bounds times cycles sets : List ℕ) (intervals : ℕ) : Type 0 where
  pub valid : ValidJobs jobs
  pub bounds-of : Bounds jobs bounds
  pub few : length bounds ≤ max_bounds
  pub counted : intervals ≡ interval_count bounds
  pub times_are : (i : ℕ) → i < length bounds → get_or times i 0 ≡ bound_at bounds i
  pub cycles_are : (j : ℕ) → j < length jobs → get_or cycles j 0 ≡ (job_of jobs j).cycles
  pub open_are : HoldsOpen jobs bounds sets

-- A set has the jobs released at or after a bound.
abbrev pub HasReleasedFrom : (jobs : List Job) → (bounds : List ℕ) → (set : JobSet) → (start : ℕ) → Type 0
HasReleasedFrom jobs bounds set start = (j : ℕ) → j < length jobs → is_member set j ≡ leb (bound_at bounds start) (job_of jobs j).release

-- The first overfull window from a bound, by the number of its end. The test has added the jobs inside that window, each once.
pub record FirstOverfull (top : ℕ) (jobs : List Job) (bounds : List ℕ) (start end added : ℕ) : Type 0 where
  pub overfull : is_overfull top jobs (bound_at bounds start) (bound_at bounds end) ≡ true
  pub inside : (start < end) × (end ≤ interval_count bounds)
  pub deadline : (k : ℕ) × (k < length jobs) × ((job_of jobs k).deadline ≡ bound_at bounds end)
  pub fits_before : (i : ℕ) → start ≤ i → i < end → is_overfull top jobs (bound_at bounds start) (bound_at bounds i) ≡ false
  pub added_most : added ≤ released_from jobs (bound_at bounds start)
  pub added_inside : added ≡ jobs_inside jobs (bound_at bounds start) (bound_at bounds end)

-- No window from a bound is overfull. The test has added each job released at or after the start.
pub record NoneOverfull (top : ℕ) (jobs : List Job) (bounds : List ℕ) (start added : ℕ) : Type 0 where
  pub fits : (i : ℕ) → start ≤ i → i ≤ interval_count bounds → is_overfull top jobs (bound_at bounds start) (bound_at bounds i) ≡ false
  pub added_all : added ≡ released_from jobs (bound_at bounds start)

-- Of the windows from a bound the test found the first that is overfull, by the number of its end, or that none is.
abbrev pub EndTested : (top : ℕ) → (jobs : List Job) → (bounds : List ℕ) → (start : ℕ) → (end : Option ℕ) → (added : ℕ) → Type 0
EndTested top jobs bounds start None added = NoneOverfull top jobs bounds start added
EndTested top jobs bounds start (Some end) added = FirstOverfull top jobs bounds start end added

-- What the window test answers: the earliest overfull window, or that the jobs fit; and how often it added a job's cycles to a sum,
-- which for a fitting set is exactly one for each distinct release and each job released at or after it. Where a window is overfull the
-- test stops there: one for each distinct release before the window's start and each job released at or after that release, and one for
-- each job inside the window.
pub record Tested (top : ℕ) (jobs : List Job) (test : WindowTest) : Type 0 where
  pub found_is : test.found ≡ overfull_answer (earliest_overfull top jobs)
  pub additions_most : test.additions ≤ additions jobs
  pub additions_are : earliest_overfull top jobs ≡ none → test.additions ≡ additions jobs
  pub additions_until : (w : Window) → earliest_overfull top jobs ≡ some w
      → test.additions ≡ additions_before jobs w.start + jobs_inside jobs w.start w.end
