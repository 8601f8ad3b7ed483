-- `text::number` meets its contract. The loop's invariant: the value fits 32 bits. Assumes nothing.
use Prim.Native.Nat.{◌^◌, ◌<◌}
use Rattle.test_support.proofs.text.number.Given as goal

abbrev pub invariant-loop-i : goal.invariant-loop-i
invariant-loop-i l = l.value < 2 ^ 32
