-- `rows::fill_row` meets its contract. The loop's invariant: the interval is filled up to some job. Assumes nothing.
use Rattle.job_sets.specs.JobSets.{member_count}
use Rattle.refilling.specs.RefillTables.{RowFilled}
use Rattle.refilling.proofs.rows.fill_row.Given as goal

abbrev pub invariant-loop-shares : goal.invariant-loop-shares
invariant-loop-shares l =
    RowFilled l.jobs l.intervals l.last l.open l.initial.shares l.initial.holders l.initial.left l.initial.cross l.initial.next l.shares l.holders l.left l.cross l.next l.interval l.initial.row l.row

abbrev pub decreases-loop-shares : goal.decreases-loop-shares
decreases-loop-shares l = member_count l.row.rest
