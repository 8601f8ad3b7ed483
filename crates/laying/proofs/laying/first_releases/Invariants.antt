-- `laying::first_releases` meets its contract. The loop's invariant: the first `i` tasks have their phase as next release.
-- Assumes nothing.
use Prim.Native.Nat.{◌≤◌}
use Rattle.tasks.specs.Tasks.{task_entries}
use Rattle.laying.proofs.NextReleases.{FirstReleases}
use Rattle.laying.proofs.laying.first_releases.Given as goal

abbrev pub invariant-loop-i : goal.invariant-loop-i
invariant-loop-i l = (l.i ≤ l.count) × FirstReleases (task_entries l.bytes) l.i l.next
