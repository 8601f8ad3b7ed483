-- `cheapest::check_cheapest` meets its contract. The loop's invariant: no step passed has a fault. Assumes nothing.
use mathlib.Core.Path.{◌≡◌}
use Prim.Native.Nat.{ℕ, ◌≤◌, ◌<◌}
use Rattle.pricing.specs.SecondHalf.{cheaper_fault_in}
use Rattle.pricing.proofs.cheapest.check_cheapest.Given as goal

abbrev pub invariant-loop-s : goal.invariant-loop-s
invariant-loop-s l = (l.s ≤ l.s-end) × ((k : ℕ) → k < l.s → cheaper_fault_in l.sets l.bounds l.numbers l.plan k ≡ 0)
