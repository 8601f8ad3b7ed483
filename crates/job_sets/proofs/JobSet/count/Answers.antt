-- `JobSet::count` meets its contract. Assumes nothing.
use native.Mathlib.Omega.{arith}
use lib.Count.{ones-le}
use Rattle.job_sets.proofs.SetWords.{count_word}
use Rattle.job_sets.proofs.JobSet.count.Goals as goal

pub overflow_cast-result : goal.overflow_cast-result
overflow_cast-result c = omega (arith, ones-le 64 c.args.self.word (omega arith))

pub returns : goal.returns
returns c = count_word c.args.self (omega arith)
