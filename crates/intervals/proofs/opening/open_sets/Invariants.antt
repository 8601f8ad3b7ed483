-- `opening::open_sets` meets its contract. The loop's invariant: the sets have the first `j` jobs where they are open
-- (proofs/OpenSets.antt). Assumes nothing.
use mathlib.Core.Path.{◌≡◌}
use Prim.Native.Nat.{◌≤◌}
use Rattle.intervals.specs.OpenSets.{open_sets}
use Rattle.intervals.proofs.opening.open_sets.Given as goal

abbrev pub invariant-loop-j : goal.invariant-loop-j
invariant-loop-j l = (l.j ≤ l.jobs) × (l.sets ≡ open_sets l.j l.first l.last)
