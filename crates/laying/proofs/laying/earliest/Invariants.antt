-- `laying::earliest` meets its contract. The loop's invariant: the earliest of the next releases so far and of the end was
-- found. Assumes nothing.
use Prim.Native.Nat.{◌≤◌}
use Rattle.laying.specs.NextReleases.{Earliest}
use Rattle.laying.proofs.laying.earliest.Given as goal

abbrev pub invariant-loop-release : goal.invariant-loop-release
invariant-loop-release l = (l.release-index ≤ l.count) × Earliest l.next l.release-index l.end l.least
