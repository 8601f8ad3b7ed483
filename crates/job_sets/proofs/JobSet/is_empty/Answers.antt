-- `JobSet::is_empty` meets its contract. Assumes nothing.
use native.Mathlib.Omega.{arith}
use Rattle.job_sets.proofs.SetWords.{empty_word}
use Rattle.job_sets.proofs.JobSet.is_empty.Goals as goal

pub returns : goal.returns
returns c = empty_word c.args.self (omega arith)
