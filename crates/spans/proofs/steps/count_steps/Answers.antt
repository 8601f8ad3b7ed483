use mathlib.Core.Path.{◌∙◌, ap}
use Prim.Native.Nat.{◌*◌, ◌≤◌}
use native.Mathlib.Omega.{arith}
use Rattle.model.specs.Limits.{max_jobs}
use Rattle.job_sets.specs.JobSets.{member_count}
use Rattle.job_sets.proofs.JobSets.{count_most}
use Rattle.spans.proofs.StepLists.{cells_none, cells_more, cells_whole, cells_few}
use Rattle.spans.proofs.steps.count_steps.Goals as goal
use Rattle.spans.proofs.steps.count_steps.Goals.{At-loop-i}

-- the steps so far are few
few : (c : At-loop-i) → c.loop-i.steps ≤ c.loop-i.i * max_jobs
few c =
    let a = c.args in
    omega (arith, c.loop-i.invariant.1, cells_few a.times.now a.cells.now a.start a.end c.loop-i.i)

pub loop-i-init : goal.loop-i-init
loop-i-init c = let a = c.args in (omega arith, rw (cells_none a.times.now a.cells.now a.start a.end))

pub overflow_add-steps : goal.overflow_add-steps
overflow_add-steps c =
    omega (arith, few (goal.at.overflow_add-steps c).At-loop-i, count_most c.set_within.result, c.count-steps.ensures)

pub loop-i-preserved : goal.loop-i-preserved
loop-i-preserved c =
    let counted = c.count-steps.ensures ∙ ap member_count c.set_within.ensures in
    (omega arith, cells_more _ _ _ _ _ _ _ c.loop-i.invariant.1 counted)

pub returns : goal.returns
returns c =
    record { value = cells_whole _ _ _ _ _ _ _ c.loop-i.invariant.0 c.loop-i-test.false c.loop-i.invariant.1; upper_bound = omega (arith, few (goal.at.returns c).At-loop-i) }
