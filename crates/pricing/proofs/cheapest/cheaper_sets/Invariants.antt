-- `cheapest::cheaper_sets` meets its contract. The loop's invariant: the sets of the prices passed are filled, and `union` has
-- the jobs of all of them (proofs/PricedSets.antt). Assumes nothing.
use mathlib.Core.Path.{◌≡◌}
use Prim.Native.Nat.{◌≤◌}
use Rattle.model.specs.Limits.{max_points}
use Rattle.model.specs.Entries.{list_of}
use Rattle.pricing.specs.SecondHalf.{cheaper_set}
use Rattle.pricing.proofs.PricedSets.{filled_to}
use Rattle.pricing.proofs.cheapest.cheaper_sets.Given as goal

abbrev pub invariant-loop-price : goal.invariant-loop-price
invariant-loop-price l =
    (l.price ≤ max_points) × (l.union ≡ cheaper_set l.priced l.price) × (l.cheaper ≡ list_of max_points (filled_to l.priced l.price))
