-- `smallest::least_prices` meets its contract. The loop's invariant: the prices before `i` are the least. Assumes nothing.
use mathlib.Core.Path.{◌≡◌}
use Prim.Native.Nat.{ℕ, ◌<◌, ◌≤◌}
use lib.ListN.{length}
use Rattle.model.specs.Limits.{max_intervals}
use Rattle.workloads.specs.Arrays.{numbers_in}
use Rattle.prices.specs.RisingPrices.{LeastBand}
use Rattle.prices.proofs.smallest.least_prices.Given as goal

abbrev pub invariant-loop-i : goal.invariant-loop-i
invariant-loop-i l =
    (l.i ≤ l.intervals)
    × (length l.prices ≡ max_intervals)
    × ((k : ℕ) → k < l.i → LeastBand (numbers_in l.frequency) l.bands (numbers_in l.size k) (numbers_in l.loads k) (numbers_in l.prices k))
