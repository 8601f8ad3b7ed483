-- `window::fill_range` meets its contract. The loop's invariant: the job is being placed, with `left` of its cycles left.
-- Assumes nothing.
use Prim.Native.Nat.{◌≤◌}
use Rattle.filling.specs.OwnWindows.{RangeFilled}
use Rattle.filling.proofs.window.fill_range.Given as goal

abbrev pub invariant-loop-interval : goal.invariant-loop-interval
invariant-loop-interval l =
    (l.start ≤ l.interval) × RangeFilled l.initial.shares l.initial.room l.initial.holders l.shares l.room l.holders l.turn l.start l.end l.left
