-- `pricing::check_fits` meets its contract. The loop's invariant: no interval passed has a fault (proofs/PriceFaults.antt).
-- Assumes nothing.
use mathlib.Core.Path.{◌≡◌}
use Prim.Native.Nat.{ℕ, ◌-◌, ◌≤◌, ◌<◌}
use Rattle.levels.specs.PointTables.{points_of}
use Rattle.pricing.specs.SecondHalf.{price_fault_in}
use Rattle.pricing.proofs.pricing.check_fits.Given as goal

abbrev pub invariant-loop-i : goal.invariant-loop-i
invariant-loop-i l =
    (l.i ≤ l.bounds - 1) × ((k : ℕ) → k < l.i → price_fault_in (points_of l.working) l.times l.loads l.numbers k ≡ 0)
