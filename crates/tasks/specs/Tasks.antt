-- The task table: reading it, what makes it valid, and how it is encoded (document 02, Change 1).
use Rattle.std.specs.Prelude.{ℕ, ◌+◌, ◌*◌, ◌^◌, ◌<◌, ◌≤◌, ◌≡◌, ◌↔◌, Bool, not, cond, ◌||◌, ◌&&◌, List, ◌++◌, length, get_or, ltb, leb, eqb}
use Rattle.model.specs.Limits.{max_cycles}
use Rattle.model.specs.Outcome.{Outcome, answer, refuse_when, by_entry}
use Rattle.model.specs.Bytes.{IsBytes, number16, number32, bytes16, bytes32}
use Rattle.model.specs.Entries.{list_of, encode_each}
use Rattle.tasks.specs.declared.Task.{Task}

-- "up to 16 tasks"
abbrev pub max_tasks : ℕ
max_tasks = 16

-- What stands at a number that no task has.
abbrev pub no_task : Task
no_task = record { phase = 0; period = 0; deadline = 0; cycles = 0 }

-- Task number i of a table, counted from 0.
abbrev pub task_of : List Task → ℕ → Task
task_of tasks i = get_or tasks i no_task

-- "The table has its size (16 bits, up to 16 tasks), then two arrays: phase and period; deadline and cycles, all 32 bits."
abbrev pub task_count : List ℕ → ℕ
task_count bytes = number16 bytes 0

unfoldable pub task_at : List ℕ → ℕ → Task
task_at bytes i = record {
  phase = number32 bytes (2 + 8 * i);
  period = number32 bytes (2 + 8 * i + 4);
  deadline = number32 bytes (2 + 8 * task_count bytes + 8 * i);
  cycles = number32 bytes (2 + 8 * task_count bytes + 8 * i + 4);
}

-- All entries that the size announces, as the bytes have them.
abbrev pub task_entries : List ℕ → List Task
task_entries bytes = list_of (task_count bytes) (task_at bytes)

-- 28, by entry: "a zero period or deadline, phase + deadline above the period, or cycles out of range".
abbrev pub wrong_task : Task → Bool
wrong_task task =
    eqb task.period 0 || (eqb task.deadline 0 || (ltb task.period (task.phase + task.deadline)
    || not (leb 1 task.cycles && leb task.cycles max_cycles)))

-- 28, or 0 for a task without fault.
unfoldable pub fault_of_task : Task → ℕ
fault_of_task task = cond (wrong_task task) 28 0

-- The fault at entry i.
abbrev pub task_fault : List Task → ℕ → ℕ
task_fault tasks i = fault_of_task (task_of tasks i)

-- Reading tasks. 28: "a malformed table (under 2 bytes, over 16 tasks, or length not 2 + 16 × their number)", with place 0;
-- or by entry.
unfoldable pub read_tasks : List ℕ → Outcome (List Task)
read_tasks bytes =
    refuse_when (ltb (length bytes) 2) 28
    (refuse_when (ltb max_tasks (task_count bytes)) 28
    (refuse_when (not (eqb (length bytes) (2 + 16 * task_count bytes))) 28
    (by_entry (task_count bytes) (task_fault (task_entries bytes))
    (answer (task_entries bytes)))))

-- Limits: 0 to 16 tasks; a deadline above 0 that comes, after the phase, within the first period; cycles 1 to 1,000,000,000.
pub record ValidTasks (tasks : List Task) : Type 0 where
  pub few : length tasks ≤ max_tasks
  pub some_deadline : (i : ℕ) → i < length tasks → 1 ≤ (task_of tasks i).deadline
  pub within_period : (i : ℕ) → i < length tasks → (task_of tasks i).phase + (task_of tasks i).deadline ≤ (task_of tasks i).period
  pub cycles_low : (i : ℕ) → i < length tasks → 1 ≤ (task_of tasks i).cycles
  pub cycles_high : (i : ℕ) → i < length tasks → (task_of tasks i).cycles ≤ max_cycles

unfoldable pub encode_tasks : List Task → List ℕ
encode_tasks tasks =
    bytes16 (length tasks)
    ++ (encode_each (λ task. bytes32 task.phase ++ bytes32 task.period) tasks
    ++ encode_each (λ task. bytes32 task.deadline ++ bytes32 task.cycles) tasks)

-- "all 32 bits": of a valid task only its period can be too large, since phase and deadline are at most that.
abbrev pub PeriodsFit : List Task → Type 0
PeriodsFit tasks = (i : ℕ) → i < length tasks → (task_of tasks i).period < 2 ^ 32

-- The law of the task table, proved in proofs/Tasks.antt: a reading answers entries exactly when the bytes encode a valid
-- table whose periods fit 32 bits, and then they are the encoded ones.
abbrev pub TasksReadBack : Type 0
TasksReadBack =
    (bytes : List ℕ) (tasks : List Task) → IsBytes bytes
    → (read_tasks bytes ≡ answer tasks) ↔ (ValidTasks tasks × PeriodsFit tasks × (bytes ≡ encode_tasks tasks))
