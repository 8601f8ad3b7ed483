-- What the functions below reading are lent: the bytes of a task table.
use Rattle.std.specs.Prelude.{ℕ, ◌+◌, ◌*◌, ◌≤◌, ◌≡◌, List, length}
use Rattle.model.specs.Outcome.{answer}
use Rattle.tasks.specs.Tasks.{max_tasks, task_count, task_entries, read_tasks, ValidTasks}
use Rattle.tasks.specs.Multiples.{max_multiple, LeastCommonMultiple}

-- Bytes as long as their number of tasks asks for.
pub record TaskBytes (bytes : List ℕ) (count : ℕ) : Type 0 where
  pub few : count ≤ max_tasks
  pub counted : count ≡ task_count bytes
  pub whole : length bytes ≡ 2 + 16 * count

-- A table that was read: none of its tasks has a fault.
pub record TasksRead (bytes : List ℕ) (count : ℕ) : Type 0 where
  pub table : TaskBytes bytes count
  pub read : read_tasks bytes ≡ answer (task_entries bytes)
  pub valid : ValidTasks (task_entries bytes)

-- A table that was read, with the multiple of its periods, which is not above the limit.
pub record RoundRead (bytes : List ℕ) (count multiple : ℕ) : Type 0 where
  pub tasks_read : TasksRead bytes count
  pub least : LeastCommonMultiple (task_entries bytes) multiple
  pub small : multiple ≤ max_multiple
