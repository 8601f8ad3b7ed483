-- `by_interval::remove` meets its contract. Assumes nothing.
use mathlib.Core.Path.{◌∙◌, ap}
use Rattle.job_sets.specs.declared.JobSet.{JobSet}
use Rattle.job_sets.specs.JobSets.{without_job}
use Rattle.job_sets.proofs.IntervalSets.{stored_less}
use Rattle.job_sets.proofs.by_interval.remove.Goals as goal

pub returns : goal.returns
returns c =
    let job = c.args.job in
    stored_less _ _ _ c.requires.2 c.requires.0 _
    (c.without-set.ensures ∙ ap (λ (set : JobSet). without_job set job) c.set_at.ensures)
