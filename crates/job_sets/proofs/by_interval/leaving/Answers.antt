-- `by_interval::leaving` meets its contract. Assumes nothing.
use mathlib.Core.Path.{sym, ◌∙◌, ap}
use native.Mathlib.Numerals.{add-one}
use native.Mathlib.Omega.{arith}
use Rattle.job_sets.specs.declared.JobSet.{JobSet}
use Rattle.job_sets.specs.JobSets.{in_first_only}
use Rattle.job_sets.specs.IntervalSets.{set_in}
use Rattle.job_sets.proofs.IntervalSets.{leaving_next, leaving_last}
use Rattle.job_sets.proofs.by_interval.leaving.Goals as goal

pub returns-then-interval-intervals : goal.returns-then-interval-intervals
returns-then-interval-intervals c =
    let sets = c.args.sets.now in
    let interval = c.args.interval in
    let next = c.set_at.ensures ∙ ap (set_in sets) (add-one interval) in
    c.less.ensures
    ∙ (ap (λ (set : JobSet). in_first_only set c.set_at.result) c.set_at-here.ensures
    ∙ (ap (in_first_only (set_in sets interval)) next ∙ sym (leaving_next c.args.intervals sets interval (omega arith))))

pub returns : goal.returns
returns c = c.set_at-here.ensures ∙ sym (leaving_last _ _ _ (omega arith))
