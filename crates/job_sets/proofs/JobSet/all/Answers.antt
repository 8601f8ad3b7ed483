-- `JobSet::all` meets its contract. Assumes nothing.
use borrow.Author.Rules.{rules}
use Rattle.model.specs.Sum.{sum}
use Rattle.job_sets.specs.JobSets.{set_of}
use Rattle.job_sets.proofs.JobSet.all.Goals as goal

pub returns : goal.returns
unfolding set_of sum
returns c = search rules
