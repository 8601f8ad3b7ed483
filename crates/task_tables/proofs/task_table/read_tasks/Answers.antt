-- `task_table::read_tasks` meets its contract. Each way out rests on the tests that led there (proofs/TaskReading.antt).
-- Assumes nothing.
use mathlib.Core.Path.{◌∙◌, ap}
use native.Mathlib.Omega.{arith}
use Rattle.std.specs.Prelude.{Err}
use Rattle.reading.specs.Tables.{returned_count}
use Rattle.task_tables.proofs.TaskReading.{tasks_short, tasks_many, tasks_cut, checked_all}
use Rattle.task_tables.proofs.task_table.read_tasks.Goals as goal

pub returns-then-bytes-lt2 : goal.returns-then-bytes-lt2
returns-then-bytes-lt2 c = ap Err c.at.ensures ∙ ap returned_count (tasks_short _ (omega arith))

pub returns-then-count-gt-MAX_TASKS : goal.returns-then-count-gt-MAX_TASKS
returns-then-count-gt-MAX_TASKS c = ap Err c.at-then-count-gt-MAX_TASKS.ensures ∙ ap returned_count (tasks_many _ (omega arith) (omega arith))

pub returns-then-bytes-count : goal.returns-then-bytes-count
returns-then-bytes-count c = ap Err c.at-then-bytes-count.ensures ∙ ap returned_count (tasks_cut _ (omega arith) (omega arith) (λ e. omega arith))

pub returns : goal.returns
returns c =
    checked_all _ _
    (record { few = omega arith; counted = c.number16-count.ensures.0; whole = omega arith }) c.check_tasks.ensures
