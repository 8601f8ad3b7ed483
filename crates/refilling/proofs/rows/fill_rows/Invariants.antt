-- `rows::fill_rows` meets its contract. The loop's invariant: the intervals before `interval` are filled. Assumes nothing.
use Prim.Native.Nat.{◌≤◌}
use Rattle.job_sets.specs.JobSets.{no_jobs}
use Rattle.refilling.specs.RefillTables.{RowsFilled}
use Rattle.refilling.proofs.rows.fill_rows.Given as goal

abbrev pub invariant-loop-interval : goal.invariant-loop-interval
invariant-loop-interval l =
    (l.interval ≤ l.intervals)
    × RowsFilled l.jobs l.intervals l.last l.open l.initial.shares l.initial.holders l.initial.left l.initial.cross l.initial.next l.shares l.holders l.left l.cross l.next 0 l.intervals no_jobs l.interval l.uncrossed l.finished
