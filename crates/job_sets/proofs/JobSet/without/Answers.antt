-- `JobSet::without` meets its contract. Assumes nothing.
use native.Mathlib.Omega.{arith}
use Rattle.model.proofs.OpenSets.{bit_shifted}
use Rattle.job_sets.proofs.SetWords.{without_word}
use Rattle.job_sets.proofs.JobSet.without.Goals as goal

pub returns : goal.returns
returns c =
    rw (bit_shifted c.args.job c.requires) (without_word c.args.self (omega arith) c.args.job c.requires)
