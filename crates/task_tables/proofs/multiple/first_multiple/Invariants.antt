-- `multiple::first_multiple` meets its contract. The loop's invariant: no smaller multiple of the step is divided
-- (proofs/FoundMultiples.antt). Assumes nothing.
use Prim.Native.Nat.{◌+◌, ◌-◌}
use Rattle.tasks.specs.Multiples.{max_multiple}
use Rattle.task_tables.proofs.FoundMultiples.{Candidate}
use Rattle.task_tables.proofs.multiple.first_multiple.Given as goal

abbrev pub invariant-loop-multiple : goal.invariant-loop-multiple
invariant-loop-multiple l = Candidate l.step l.divisor l.multiple

abbrev pub decreases-loop-multiple : goal.decreases-loop-multiple
decreases-loop-multiple l = max_multiple + l.step - l.multiple
