-- `cheapest::priced_sets` meets its contract. The loop's invariant: the sets have the jobs that are open in the intervals
-- passed (proofs/PricedSets.antt). Assumes nothing.
use mathlib.Core.Path.{◌≡◌}
use Prim.Native.Nat.{◌-◌, ◌≤◌}
use Rattle.pricing.specs.SecondHalf.{priced_sets}
use Rattle.pricing.proofs.cheapest.priced_sets.Given as goal

abbrev pub invariant-loop-i : goal.invariant-loop-i
invariant-loop-i l = (l.i ≤ l.bounds - 1) × (l.priced ≡ priced_sets l.i l.sets l.numbers)
