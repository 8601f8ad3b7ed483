-- `laying::release_at` meets its contract. The loop's invariant: the first `i` tasks have released what they release at the
-- tick (proofs/Releasing.antt). Assumes nothing.
use Prim.Native.Nat.{◌≤◌}
use Rattle.tasks.specs.Tasks.{task_entries}
use Rattle.laying.proofs.Releasing.{Releasing}
use Rattle.laying.proofs.laying.release_at.Given as goal

abbrev pub invariant-loop-i : goal.invariant-loop-i
invariant-loop-i l =
    (l.i ≤ l.count) × Releasing (task_entries l.bytes) l.tick l.listed l.initial.releases l.initial.deadlines l.initial.cycles l.i l.next l.releases l.deadlines l.cycles l.jobs
