-- `JobSet::count_below` meets its contract. Assumes nothing.
use Prim.Native.Nat.{◌-◌, ◌^◌}
use native.Mathlib.Omega.{arith}
use lib.Pow.{pow_pos, pow-lt}
use lib.Bits.{bit_and, and_lt}
use lib.Count.{ones-le}
use Rattle.model.proofs.OpenSets.{bit_shifted}
use Rattle.job_sets.proofs.SetWords.{count_below_word}
use Rattle.job_sets.proofs.JobSet.count_below.Goals as goal

pub overflow_sub-result : goal.overflow_sub-result
overflow_sub-result c = rw (bit_shifted c.args.job c.requires) (pow_pos c.args.job)

pub overflow_cast-result : goal.overflow_cast-result
overflow_cast-result c =
    let word = c.args.self.word in
    let job = c.args.job in
    rw (bit_shifted job c.requires)
    (omega (arith, ones-le 64 (bit_and word (2 ^ job - 1)) (and_lt 64 word (2 ^ job - 1) (omega arith) (omega (arith, pow-lt c.requires)))))

pub returns : goal.returns
returns c =
    rw (bit_shifted c.args.job c.requires) (count_below_word c.args.self (omega arith) c.args.job c.requires)
