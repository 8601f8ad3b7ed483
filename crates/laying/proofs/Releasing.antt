-- The tasks that release their jobs at one tick, one after another: the invariant, and a task that releases a job or none.
-- Assumes nothing.
use mathlib.Core.Path.{◌≡◌, ◌∙◌}
use mathlib.Core.List.{List, [], ◌∷◌, ◌++◌}
use Prim.Native.Nat.{ℕ, ◌+◌, ◌<◌, ◌≤◌}
use native.Mathlib.Omega.{arith}
use lib.ListN.{length, get_or, set}
use Rattle.model.specs.declared.Job.{Job}
use Rattle.model.specs.Entries.{joined}
use Rattle.tasks.specs.declared.Task.{Task}
use Rattle.tasks.specs.Tasks.{max_tasks, task_of}
use Rattle.tasks.specs.LaidOut.{job_released, released_by, jobs_at}
use Rattle.laying.specs.NextReleases.{NextReleases}
use Rattle.laying.specs.ListedJobs.{JobArrays, ListedJobs, AddedJob}
use Rattle.task_tables.proofs.TaskReading.{RoundTask}
use Rattle.laying.proofs.NextReleases.{MovedOn, moved_none, moved_all, moved_released, moved_kept, released_here, nothing_here}
use Rattle.laying.proofs.ListedJobs.{listed_start, listed_one, listed_nothing, listed_tick}

module _ (tasks : List Task) (tick first : ℕ) (releases₀ deadlines₀ cycles₀ : List ℕ) where
  -- The first `i` tasks have released what they release at the tick, and their next releases come later. `first` jobs were
  -- listed before.
  pub record Releasing (i : ℕ) (next releases deadlines cycles : List ℕ) (jobs : ℕ) : Type 0 where
    pub few : jobs ≤ first + i
    pub moved : MovedOn tasks tick i next
    pub arrays : JobArrays releases deadlines cycles
    pub listed : (before : List Job) → ListedJobs before first releases₀ deadlines₀ cycles₀
        → ListedJobs (before ++ joined i (λ k. released_by (task_of tasks k) tick)) jobs releases deadlines cycles

  pub releasing_none : (next : List ℕ) → NextReleases tasks tick next → JobArrays releases₀ deadlines₀ cycles₀
      → Releasing 0 next releases₀ deadlines₀ cycles₀ first
  releasing_none next h arrays =
      record {
        few = omega arith;
        moved = moved_none tasks tick next h;
        arrays = arrays;
        listed = λ before listed. listed_start before first (λ k. released_by (task_of tasks k) tick) releases₀ deadlines₀ cycles₀ listed;
      }

  module _ (i : ℕ) (next releases deadlines cycles : List ℕ) (jobs : ℕ) (h : Releasing i next releases deadlines cycles jobs) where
    pub releasing_one : (task : Task) → RoundTask tasks i task → i < max_tasks → get_or next i 0 ≡ tick
        → (releases' deadlines' cycles' : List ℕ) → AddedJob (job_released task tick) jobs releases deadlines cycles releases' deadlines' cycles'
        → Releasing (i + 1) (set next i (tick + task.period)) releases' deadlines' cycles' (jobs + 1)
    releasing_one task turn inside now releases' deadlines' cycles' added =
        let here : released_by (task_of tasks i) tick ≡ job_released (task_of tasks i) tick ∷ [] =
        released_here (task_of tasks i) tick (get_or next i 0) (h.moved.others i (omega arith) turn.known) now in
        let same : job_released (task_of tasks i) tick ∷ [] ≡ job_released task tick ∷ [] = rw (← turn.is) in
        record {
          few = omega (arith, h.few);
          moved = moved_released tasks tick i next h.moved turn.known task turn.is inside now turn.some;
          arrays = added.arrays;
          listed = λ before listed.
              listed_one before jobs i (λ k. released_by (task_of tasks k) tick) releases deadlines cycles (h.listed before listed)
              (job_released task tick) (here ∙ same) releases' deadlines' cycles' added;
        }

    pub releasing_kept : i < length tasks → (get_or next i 0 ≡ tick → ⊥) → Releasing (i + 1) next releases deadlines cycles jobs
    releasing_kept known other =
        record {
          few = omega (arith, h.few);
          moved = moved_kept tasks tick i next h.moved known other;
          arrays = h.arrays;
          listed = λ before listed.
              listed_nothing before jobs i (λ k. released_by (task_of tasks k) tick) releases deadlines cycles (h.listed before listed)
              (nothing_here (task_of tasks i) tick (get_or next i 0) (h.moved.others i (omega arith) known) other);
        }

    -- all tasks have
    module _ (all : i ≡ length tasks) where
      pub releasing_next : NextReleases tasks (tick + 1) next
      releasing_next = moved_all tasks tick next (rw all at h.moved)

      pub releasing_listed : (before : List Job) → ListedJobs before first releases₀ deadlines₀ cycles₀
          → ListedJobs (before ++ jobs_at tasks tick) jobs releases deadlines cycles
      releasing_listed before listed =
          listed_tick before tasks tick jobs releases deadlines cycles (rw all at (h.listed before listed))
