-- `ranges::is_below` meets its contract. The loop's invariant: no price up to `i` is lower. Assumes nothing.
use Prim.Native.Nat.{ℕ, ◌<◌, ◌≤◌}
use Rattle.workloads.specs.Arrays.{numbers_in}
use Rattle.prices.proofs.ranges.is_below.Given as goal

abbrev pub invariant-loop-i : goal.invariant-loop-i
invariant-loop-i l = (l.start ≤ l.i) × ((k : ℕ) → l.start ≤ k → k < l.i → l.price ≤ numbers_in l.prices k)
