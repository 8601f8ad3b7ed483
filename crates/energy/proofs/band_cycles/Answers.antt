-- `band_cycles` meets its contract. A length of at most 1,000,000 times a frequency of at most 1,000 is small.
-- Assumes nothing.
use native.Mathlib.Nat.{mul-le-mul}
use native.Mathlib.Omega.{arith}
use Rattle.energy.proofs.band_cycles.Goals as goal

pub overflow_mul-length : goal.overflow_mul-length
overflow_mul-length c = omega (arith, mul-le-mul c.requires.0 c.requires.1)

pub overflow_mul-length-2 : goal.overflow_mul-length-2
overflow_mul-length-2 c = let pre = c.requires in omega (arith, mul-le-mul pre.0 pre.2)
