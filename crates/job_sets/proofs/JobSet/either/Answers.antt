-- `JobSet::either` meets its contract. Assumes nothing.
use native.Mathlib.Omega.{arith}
use Rattle.job_sets.proofs.SetWords.{either_word}
use Rattle.job_sets.proofs.JobSet.either.Goals as goal

pub returns : goal.returns
returns c = either_word _ (omega arith) _ (omega arith)
