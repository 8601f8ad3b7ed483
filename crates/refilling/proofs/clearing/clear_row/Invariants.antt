-- `clearing::clear_row` meets its contract. The loop's invariant: the shares of the members that are not in the rest are 0.
-- Assumes nothing.
use Rattle.job_sets.specs.JobSets.{member_count}
use Rattle.refilling.proofs.ClearSteps.{RowClearing}
use Rattle.refilling.proofs.clearing.clear_row.Given as goal

abbrev pub invariant-loop-rest : goal.invariant-loop-rest
invariant-loop-rest l = RowClearing l.jobs l.interval l.initial.rest l.rest l.initial.shares l.shares

abbrev pub decreases-loop-rest : goal.decreases-loop-rest
decreases-loop-rest l = member_count l.rest
