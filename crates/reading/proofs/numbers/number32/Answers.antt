-- `numbers::number32` meets its contract. It rests on `number16`: four bytes are two numbers of two bytes.
-- Assumes nothing.
use mathlib.Core.Path.{◌≡◌}
use Prim.Native.Nat.{◌+◌}
use native.Mathlib.Omega.{arith}
use Rattle.model.specs.Bytes.{number_at}
use Rattle.reading.proofs.numbers.number32.Goals as goal

pub returns : goal.returns
unfolding number_at
returns c = let a = c.args in
    let second : a.place + 1 + 1 ≡ a.place + 2 = omega arith in
    let third : a.place + 1 + 1 + 1 ≡ a.place + 2 + 1 = omega arith in
    rw (third, second) (omega (arith, c.number16.ensures.0, c.number16-2.ensures.0))
