-- `JobSet::both` meets its contract. Assumes nothing.
use native.Mathlib.Omega.{arith}
use Rattle.job_sets.proofs.SetWords.{both_word}
use Rattle.job_sets.proofs.JobSet.both.Goals as goal

pub returns : goal.returns
returns c = both_word _ (omega arith) _ (omega arith)
