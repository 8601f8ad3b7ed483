-- `clearing::clear` meets its contract. The loop's invariant: the intervals so far have no shares, the others are as they were.
-- Assumes nothing.
use Prim.Native.Nat.{◌≤◌}
use Rattle.refilling.proofs.ClearSteps.{ClearedTo}
use Rattle.refilling.proofs.clearing.clear.Given as goal

abbrev pub invariant-loop-interval : goal.invariant-loop-interval
invariant-loop-interval l = (l.interval ≤ l.intervals) × ClearedTo l.jobs l.intervals l.interval l.initial.shares l.shares
