use mathlib.Core.Path.{◌≡◌, sym, ◌∙◌, ap}
use native.Mathlib.Omega.{arith}
use Rattle.job_sets.specs.declared.JobSet.{JobSet}
use Rattle.job_sets.specs.JobSets.{with_job}
use Rattle.job_sets.proofs.JobSets.{below_none, below_more, below_same}
use Rattle.spans.proofs.jobs.members_where.Goals as goal
use Rattle.spans.proofs.jobs.members_where.Goals.{then-test, else-test}

pub loop-j-init : goal.loop-j-init
loop-j-init g c = (omega arith, λ passes agree. c.none-set.ensures ∙ below_none passes)

pub loop-j-preserved : goal.loop-j-preserved
loop-j-preserved g c = (
  omega arith,
  λ passes agree.
      let before = c.loop-j.invariant.1 passes agree in
      let answer = agree c.loop-j.j c.test.result c.loop-j-test.true c.test.ensures in
      elim c.if-test.branch [
        | then-test w ↦ w.set-is ∙ (w.with-set.ensures ∙ (ap (λ (s : JobSet). with_job s c.loop-j.j) before ∙ below_more passes c.loop-j.j (sym answer ∙ w.if-test.true)))
        | else-test w ↦ w.set-is ∙ (before ∙ below_same passes c.loop-j.j (sym answer ∙ w.if-test.false))
      ],
)

pub returns : goal.returns
returns g c passes agree = let all : c.loop-j.j ≡ c.args.count = omega arith in rw (← all) (c.loop-j.invariant.1 passes agree)
