-- `marks::insert_marks` meets its contract. The loop's invariant: the array holds the times with as many of the last marks put in
-- as were passed, at most one more for each (proofs/MarkedTimes.antt). Assumes nothing.
use Prim.Native.Nat.{◌+◌, ◌-◌, ◌≤◌}
use lib.ListN.{length, take, drop}
use Rattle.model.specs.Marks.{insert_marks}
use Rattle.mark_tables.specs.Tables.{marks_in}
use Rattle.intervals.specs.Times.{HoldsTimes}
use Rattle.marked_bounds.proofs.marks.insert_marks.Given as goal

abbrev pub invariant-loop-mark : goal.invariant-loop-mark
invariant-loop-mark l =
    (length l.yielded ≤ l.mark_count)
    × (l.bounds ≤ l.count + length l.yielded)
    × HoldsTimes l.times l.bounds (insert_marks l.first l.last (drop (l.mark_count - length l.yielded) (marks_in l.mark_count l.marks)) (take l.count l.initial.times))
