-- `plan::write_plan` meets its contract. The members of the sets are as many as the steps (proofs/HeldShares.antt), and
-- counts and steps make the whole plan (proofs/PlanStores.antt). Assumes nothing.
use mathlib.Core.Path.{◌≡◌, ◌∙◌}
use native.Mathlib.Omega.{arith}
use lib.ListN.{length}
use Rattle.model.specs.Plans.{shares_in}
use Rattle.writing.specs.StepList.{steps_of}
use Rattle.writing.proofs.HeldShares.{members_are_steps}
use Rattle.writing.proofs.PlanStores.{whole_plan}
use Rattle.writing.proofs.plan.write_plan.Goals as goal

-- the count is the number of steps
pub write_steps-requires : goal.write_steps-requires
write_steps-requires c =
    let a = c.args in
    let pre = c.requires in
    let counted : c.count_all-count.result ≡ length (steps_of a.jobs a.intervals (shares_in a.jobs a.shares.now)) =
    c.count_all-count.ensures ∙ members_are_steps _ _ _ _ pre.jobs_le_max_jobs.0 pre.by_index in
    record { jobs_le_max_jobs = pre.jobs_le_max_jobs; by_index = pre.by_index; count_value = (counted, omega arith) }

pub returns : goal.returns
returns c =
    let a = c.args in
    let counted : c.count_all-count.result ≡ length (steps_of a.jobs a.intervals (shares_in a.jobs a.shares.now)) =
    c.count_all-count.ensures ∙ members_are_steps _ _ _ _ c.requires.jobs_le_max_jobs.0 c.requires.by_index in
    record {
      value = counted;
      plan_after = whole_plan _ _ _ counted _ _ _ _ (omega arith)
          c.put16.ensures
          c.put16-2.ensures
          c.write_steps.ensures;
    }
