-- `by_interval::set_at` meets its contract. Assumes nothing.
use borrow.Author.Rules.{rules}
use Rattle.job_sets.specs.IntervalSets.{set_in}
use Rattle.job_sets.proofs.by_interval.set_at.Goals as goal

pub returns : goal.returns
unfolding set_in
returns c = search rules
