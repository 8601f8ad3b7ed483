-- `smallest::highest_prices` meets its contract. The loop's invariant: they are the highest prices up to `i`. Assumes nothing.
use Prim.Native.Nat.{◌≤◌}
use Rattle.prices.specs.RisingPrices.{HighestPrices}
use Rattle.prices.proofs.smallest.highest_prices.Given as goal

abbrev pub invariant-loop-i : goal.invariant-loop-i
invariant-loop-i l = (l.i ≤ l.intervals) × HighestPrices l.holders l.prices l.i l.highest
