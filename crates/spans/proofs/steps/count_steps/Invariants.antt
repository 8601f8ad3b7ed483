-- `steps::count_steps` meets its contract. The loop's invariant: the steps are the cells of the first `i` intervals. Assumes nothing.
use mathlib.Core.Path.{◌≡◌}
use Prim.Native.Nat.{◌≤◌}
use lib.ListN.{length}
use Rattle.spans.specs.TouchedIn.{cells_within}
use Rattle.spans.proofs.steps.count_steps.Given as goal

abbrev pub invariant-loop-i : goal.invariant-loop-i
invariant-loop-i l = (l.i ≤ l.intervals) × (l.steps ≡ length (cells_within l.times l.cells l.i l.start l.end))
