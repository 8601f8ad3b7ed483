-- `JobSet::less` meets its contract. Assumes nothing.
use native.Mathlib.Omega.{arith}
use Rattle.job_sets.proofs.SetWords.{less_word}
use Rattle.job_sets.proofs.JobSet.less.Goals as goal

pub returns : goal.returns
returns c = less_word _ (omega arith) _ (omega arith)
