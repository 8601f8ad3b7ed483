-- `task_table::check_tasks` meets its contract. The loop's invariant: no entry passed has a fault. Assumes nothing.
use mathlib.Core.Path.{◌≡◌}
use Prim.Native.Nat.{ℕ, ◌<◌, ◌≤◌}
use Rattle.tasks.specs.Tasks.{task_entries, task_fault}
use Rattle.task_tables.proofs.task_table.check_tasks.Given as goal

abbrev pub invariant-loop-i : goal.invariant-loop-i
invariant-loop-i l = (l.i ≤ l.count) × ((k : ℕ) → k < l.i → task_fault (task_entries l.bytes) k ≡ 0)
