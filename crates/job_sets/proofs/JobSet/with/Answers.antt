-- `JobSet::with` meets its contract. Assumes nothing.
use native.Mathlib.Omega.{arith}
use Rattle.model.proofs.OpenSets.{bit_shifted}
use Rattle.job_sets.proofs.SetWords.{with_word}
use Rattle.job_sets.proofs.JobSet.with.Goals as goal

pub returns : goal.returns
returns c =
    rw (bit_shifted c.args.job c.requires) (with_word c.args.self (omega arith) c.args.job c.requires)
