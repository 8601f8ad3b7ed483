-- `fitting::check_loads` meets its contract. The loop's invariant: no interval passed has a fault. Assumes nothing.
use mathlib.Core.Path.{◌≡◌}
use Prim.Native.Nat.{ℕ, ◌-◌, ◌≤◌, ◌<◌}
use Rattle.fitting.specs.FirstHalf.{bounds_in, load_fault_in}
use Rattle.fitting.proofs.fitting.check_loads.Given as goal

abbrev pub invariant-loop-i : goal.invariant-loop-i
invariant-loop-i l =
    (l.i ≤ l.bounds - 1) × ((k : ℕ) → k < l.i → load_fault_in l.top (bounds_in l.bounds l.times) l.loads k ≡ 0)
