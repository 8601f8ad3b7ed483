-- The room of each job, in plain arrays.
use Rattle.std.specs.Prelude.{ℕ, ◌+◌, ◌^◌, ◌<◌, ◌≤◌, ◌≡◌, true, false, List, length, get_or, eqb}
use Rattle.model.specs.declared.Job.{Job}
use Rattle.model.specs.Limits.{max_jobs, max_intervals, max_bounds}
use Rattle.model.specs.Sum.{sum, only_if}
use Rattle.model.specs.Jobs.{job_of}
use Rattle.model.specs.Intervals.{bound_at}
use Rattle.job_sets.specs.declared.JobSet.{JobSet}
use Rattle.job_sets.specs.JobSets.{is_member}
use Rattle.windows.specs.WindowTests.{TestArrays}
use Rattle.job_rooms.specs.Spares.{LeastAmong}

-- Jobs in arrays as the window test is lent them, and for each job the number of the bound that is its deadline.
pub record RoomArrays (jobs : List Job) (bounds times cycles sets last : List ℕ) (count intervals : ℕ) : Type 0 where
  pub tests : TestArrays jobs bounds times cycles sets intervals
  pub counted : count ≡ length jobs
  pub ends_few : (j : ℕ) → j < length jobs → get_or last j 0 ≤ intervals
  pub ends_are : (j : ℕ) → j < length jobs → bound_at bounds (get_or last j 0) ≡ (job_of jobs j).deadline

-- The cycles of the first `count` jobs that are in a set and due at a bound.
unfoldable pub due_in : (count : ℕ) → JobSet → (last cycles : List ℕ) → (bound : ℕ) → ℕ
due_in count set last cycles b = sum count (λ j. only_if (is_member set j) (only_if (eqb (get_or last j 0) b) (get_or cycles j 0)))

-- The jobs of a set are due at bounds of the intervals, where an array has at least their cycles.
pub record CanSettle (released : JobSet) (last cycles : List ℕ) (intervals : ℕ) (due : List ℕ) : Type 0 where
  pub few : intervals ≤ max_intervals
  pub ends_few : (j : ℕ) → is_member released j ≡ true → get_or last j 0 ≤ intervals
  pub cycles_small : (j : ℕ) → is_member released j ≡ true → get_or cycles j 0 < 2 ^ 32
  pub due_holds : (b : ℕ) → due_in max_jobs released last cycles b ≤ get_or due b 0

-- Their rooms are settled: each is the least of the spares from the job's deadline on. Their cycles are no longer due, and all other rooms
-- stay.
pub record Settled (released : JobSet) (last cycles : List ℕ) (intervals : ℕ) (spares due_before rooms_before due_after rooms_after : List ℕ)
    : Type 0 where
  pub due_size : length due_after ≡ max_bounds
  pub rooms_size : length rooms_after ≡ max_jobs
  pub due_left : (b : ℕ) → get_or due_after b 0 + due_in max_jobs released last cycles b ≡ get_or due_before b 0
  pub settled : (j : ℕ) → is_member released j ≡ true → LeastAmong spares (get_or last j 0) intervals (get_or rooms_after j 0)
  pub kept : (j : ℕ) → is_member released j ≡ false → get_or rooms_after j 0 ≡ get_or rooms_before j 0
