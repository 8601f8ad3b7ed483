-- `ranges::raise` meets its contract. The loop's invariant: the prices so far are raised, the others are as they were.
-- Assumes nothing.
use mathlib.Core.Path.{◌≡◌}
use Prim.Native.Nat.{ℕ, ◌+◌, ◌<◌, ◌≤◌, max}
use lib.ListN.{length}
use Rattle.workloads.specs.Arrays.{numbers_in}
use Rattle.prices.proofs.ranges.raise.Given as goal

abbrev pub invariant-loop-here : goal.invariant-loop-here
invariant-loop-here l =
    ((k : ℕ) → k < l.here-index → numbers_in l.here-items k ≡ max (numbers_in l.fn.prices (l.start + k)) l.price)
    × ((k : ℕ) → l.here-index ≤ k → k < length l.here-items → numbers_in l.here-items k ≡ numbers_in l.fn.prices (l.start + k))
