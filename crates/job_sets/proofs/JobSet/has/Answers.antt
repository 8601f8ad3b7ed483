-- `JobSet::has` meets its contract. Assumes nothing.
use borrow.Author.Tests.{lt-ltb}
use Rattle.model.specs.Limits.{max_jobs}
use Rattle.job_sets.specs.JobSets.{is_member}
use Rattle.job_sets.proofs.JobSet.has.Goals as goal

pub returns : goal.returns
unfolding is_member
returns c = rw (lt-ltb c.args.job max_jobs c.requires)
