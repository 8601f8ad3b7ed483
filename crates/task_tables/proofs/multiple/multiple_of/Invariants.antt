-- `multiple::multiple_of` meets its contract. The loop's invariant: the multiple of the first `i` periods was found
-- (proofs/FoundMultiples.antt). Assumes nothing.
use Prim.Native.Nat.{◌≤◌}
use Rattle.tasks.specs.Tasks.{task_entries}
use Rattle.task_tables.proofs.FoundMultiples.{MultipleSoFar}
use Rattle.task_tables.proofs.multiple.multiple_of.Given as goal

abbrev pub invariant-loop-i : goal.invariant-loop-i
invariant-loop-i l = (l.i ≤ l.count) × MultipleSoFar (task_entries l.bytes) l.i l.multiple
