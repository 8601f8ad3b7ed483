-- `JobSet::least` meets its contract. Assumes nothing.
use native.Mathlib.Omega.{arith}
use lib.Count.{trailing_le}
use Rattle.job_sets.proofs.SetWords.{least_word}
use Rattle.job_sets.proofs.JobSet.least.Goals as goal

pub overflow_cast-result : goal.overflow_cast-result
overflow_cast-result c = omega (arith, trailing_le 64 c.args.self.word)

pub returns : goal.returns
returns c = least_word c.args.self
