-- `plan::write_steps` meets its contract. The loop's invariant: the steps of the first intervals are written
-- (proofs/PlanStores.antt). Assumes nothing.
use Prim.Native.Nat.{◌≤◌}
use Rattle.model.specs.Plans.{shares_in}
use Rattle.writing.specs.StepList.{steps_in}
use Rattle.writing.proofs.PlanStores.{StepsPut}
use Rattle.writing.proofs.plan.write_steps.Given as goal

abbrev pub invariant-loop-interval : goal.invariant-loop-interval
invariant-loop-interval l =
    (l.interval ≤ l.intervals) × StepsPut l.count 0 (steps_in l.jobs (shares_in l.jobs l.shares)) l.initial.plan l.interval l.next l.plan
