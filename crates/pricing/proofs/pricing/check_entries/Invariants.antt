-- `pricing::check_entries` meets its contract. The loop's invariant: no interval passed has a fault. Assumes nothing.
use mathlib.Core.Path.{◌≡◌}
use Prim.Native.Nat.{ℕ, ◌≤◌, ◌<◌}
use Rattle.pricing.specs.SecondHalf.{entry_fault_in}
use Rattle.pricing.proofs.pricing.check_entries.Given as goal

abbrev pub invariant-loop-i : goal.invariant-loop-i
invariant-loop-i l =
    (l.i ≤ l.intervals) × ((k : ℕ) → k < l.i → entry_fault_in l.bands l.times l.prices l.numbers k ≡ 0)
