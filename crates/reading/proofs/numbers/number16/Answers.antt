-- `numbers::number16` meets its contract. It rests on `wide`, whose bytes are below 256, and on the definition of a
-- number of two bytes. Assumes nothing.
use native.Mathlib.Omega.{arith}
use Rattle.model.specs.Bytes.{number_at}
use Rattle.reading.proofs.numbers.number16.Goals as goal

pub returns : goal.returns
unfolding number_at
returns c = omega arith
