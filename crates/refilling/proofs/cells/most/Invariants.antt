-- `cells::most` meets its contract. Assumes nothing.
use Prim.Native.Nat.{◌+◌, ◌≤◌}
use Rattle.workloads.specs.Arrays.{numbers_in}
use Rattle.refilling.specs.Cells.{Most}
use Rattle.refilling.proofs.cells.most.Given as goal

abbrev pub invariant-loop-crossing : goal.invariant-loop-crossing
invariant-loop-crossing l =
    (l.interval + 1 + l.crossing-index ≤ l.last) × Most (numbers_in l.cross) l.left l.interval (l.interval + 1 + l.crossing-index) l.amount
