-- `cells::lower` meets its contract. The loop's invariant: the crosses so far are lowered, the others are as they were.
-- Assumes nothing.
use mathlib.Core.Path.{◌≡◌}
use Prim.Native.Nat.{ℕ, ◌+◌, ◌<◌, ◌≤◌}
use lib.ListN.{length}
use Rattle.workloads.specs.Arrays.{numbers_in}
use Rattle.refilling.proofs.cells.lower.Given as goal

abbrev pub invariant-loop-crossing : goal.invariant-loop-crossing
invariant-loop-crossing l =
    ((k : ℕ) → k < l.crossing-index → numbers_in l.crossing-items k + l.amount ≡ numbers_in l.fn.cross (l.interval + 1 + k))
    × ((k : ℕ) → l.crossing-index ≤ k → k < length l.crossing-items → numbers_in l.crossing-items k ≡ numbers_in l.fn.cross (l.interval + 1 + k))
