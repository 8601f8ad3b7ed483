-- The jobs that tasks release, laid out over a number of ticks (document 02, Change 1).
use Rattle.std.specs.Prelude.{ℕ, ◌+◌, ◌-◌, ◌*◌, ◌%◌, ◌<◌, ◌≡◌, ◌⊎◌, Bool, cond, ◌&&◌, List, [], ◌∷◌, length, leb, eqb}
use Rattle.model.specs.declared.Job.{Job}
use Rattle.model.specs.Entries.{joined}
use Rattle.model.specs.Jobs.{job_of}
use Rattle.tasks.specs.declared.Task.{Task}
use Rattle.tasks.specs.Tasks.{task_of, ValidTasks}

-- A task releases a job at its phase and every period after it.
unfoldable pub releases_at : Task → (tick : ℕ) → Bool
releases_at task tick = leb task.phase tick && eqb ((tick - task.phase) % task.period) 0

-- The job of a task that is released at a tick. The task's deadline counts from there.
abbrev pub job_released : Task → (tick : ℕ) → Job
job_released task tick = record { release = tick; deadline = tick + task.deadline; cycles = task.cycles }

-- What one task releases at a tick: a job, or none.
unfoldable pub released_by : Task → (tick : ℕ) → List Job
released_by task tick = cond (releases_at task tick) (job_released task tick ∷ []) []

-- What all tasks release at a tick, by task number.
unfoldable pub jobs_at : List Task → (tick : ℕ) → List Job
jobs_at tasks tick = joined (length tasks) (λ i. released_by (task_of tasks i) tick)

-- "Jobs are laid out .. by release, then task number": going through the ticks from 0, and at each through the tasks.
unfoldable pub lay_out : List Task → (ticks : ℕ) → List Job
lay_out tasks ticks = joined ticks (jobs_at tasks)

-- What the laid-out jobs are, without going through the ticks: exactly the jobs that the tasks release before tick number
-- `ticks`, by release and then task number.
pub record LaidOut (tasks : List Task) (ticks : ℕ) (jobs : List Job) : Type 0 where
  -- the task that each job is of, and which of its releases it is
  pub task : ℕ → ℕ
  pub turn : ℕ → ℕ
  pub task_there : (j : ℕ) → j < length jobs → task j < length tasks
  pub release : (j : ℕ) → j < length jobs
      → (job_of jobs j).release ≡ (task_of tasks (task j)).phase + turn j * (task_of tasks (task j)).period
  pub inside : (j : ℕ) → j < length jobs → (job_of jobs j).release < ticks
  pub deadline : (j : ℕ) → j < length jobs → (job_of jobs j).deadline ≡ (job_of jobs j).release + (task_of tasks (task j)).deadline
  pub cycles : (j : ℕ) → j < length jobs → (job_of jobs j).cycles ≡ (task_of tasks (task j)).cycles
  -- every release before the end has its job
  pub complete : (i k : ℕ) → i < length tasks → (task_of tasks i).phase + k * (task_of tasks i).period < ticks
      → (j : ℕ) × (j < length jobs) × (task j ≡ i) × (turn j ≡ k)
  -- by release, then task number
  pub ordered : (j k : ℕ) → j < k → k < length jobs
      → ((job_of jobs j).release < (job_of jobs k).release) ⊎ (((job_of jobs j).release ≡ (job_of jobs k).release) × (task j < task k))

-- Proved in proofs/LaidOut.antt.
abbrev pub JobsAsReleased : Type 0
JobsAsReleased = (tasks : List Task) → ValidTasks tasks → (ticks : ℕ) → LaidOut tasks ticks (lay_out tasks ticks)
