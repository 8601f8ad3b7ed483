-- `encode::put` meets its contract. The loop's invariant: the slice keeps its length, and the place is within it.
-- Assumes nothing.
use mathlib.Core.Path.{◌≡◌}
use Prim.Native.Nat.{◌≤◌}
use lib.ListN.{length}
use Rattle.test_support.proofs.encode.put.Given as goal

abbrev pub invariant-loop : goal.invariant-loop
invariant-loop l =
    (length l.bytes ≡ length l.initial.bytes) × (l.at ≤ length l.bytes)
