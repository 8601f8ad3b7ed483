use mathlib.Core.Path.{refl, ◌∙◌, ap}
use native.Mathlib.Omega.{arith}
use Rattle.model.proofs.Sum.{sum_none, sum_more, sum_whole}
use Rattle.job_sets.specs.JobSets.{member_count}
use Rattle.job_sets.proofs.JobSets.{count_most}
use Rattle.job_sets.proofs.by_interval.count_all.Goals as goal

pub loop-i-init : goal.loop-i-init
loop-i-init c = (sum_none _, omega arith, omega arith)

pub set_at-requires : goal.set_at-requires
set_at-requires c = omega arith

pub overflow_add-members : goal.overflow_add-members
overflow_add-members c = omega (arith, count_most c.set_at.result, c.count-members.ensures)

pub loop-i-smaller : goal.loop-i-smaller
loop-i-smaller c = omega arith

pub loop-i-preserved : goal.loop-i-preserved
loop-i-preserved c =
    let counted = c.count-members.ensures ∙ ap member_count c.set_at.ensures in
    (sum_more _ _ _ _ c.loop-i.invariant.0 counted, omega arith, omega (arith, count_most c.set_at.result, c.count-members.ensures))

pub returns : goal.returns
returns c = sum_whole _ _ _ _ c.loop-i.invariant.1 c.loop-i-test.false refl _ c.loop-i.invariant.0
