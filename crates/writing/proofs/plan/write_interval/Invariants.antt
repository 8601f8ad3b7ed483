-- `plan::write_interval` meets its contract. The loop's invariant: the steps of the jobs before the least of the rest are
-- written (proofs/MemberSteps.antt). Assumes nothing.
use Rattle.model.specs.Plans.{shares_in}
use Rattle.job_sets.specs.JobSets.{member_count}
use Rattle.writing.specs.StepList.{step_of}
use Rattle.writing.proofs.MemberSteps.{MembersPut}
use Rattle.writing.proofs.plan.write_interval.Given as goal

abbrev pub invariant-loop-rest : goal.invariant-loop-rest
invariant-loop-rest l =
    MembersPut l.count l.first (λ j. step_of l.interval j (shares_in l.jobs l.shares l.interval j)) l.initial.plan l.jobs l.initial.rest l.rest l.next l.plan

abbrev pub decreases-loop-rest : goal.decreases-loop-rest
decreases-loop-rest l = member_count l.rest
