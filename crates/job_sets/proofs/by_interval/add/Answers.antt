-- `by_interval::add` meets its contract. Assumes nothing.
use mathlib.Core.Path.{◌∙◌, ap}
use Rattle.job_sets.specs.declared.JobSet.{JobSet}
use Rattle.job_sets.specs.JobSets.{with_job}
use Rattle.job_sets.proofs.IntervalSets.{stored_more}
use Rattle.job_sets.proofs.by_interval.add.Goals as goal

pub returns : goal.returns
returns c =
    let job = c.args.job in
    stored_more _ _ _ c.requires.2 c.requires.0 _
    (c.with-set.ensures ∙ ap (λ (set : JobSet). with_job set job) c.set_at.ensures)
