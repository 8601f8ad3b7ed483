-- `by_interval::holds` meets its contract. Assumes nothing.
use Rattle.job_sets.proofs.by_interval.holds.Goals as goal

pub returns : goal.returns
returns c = cc
