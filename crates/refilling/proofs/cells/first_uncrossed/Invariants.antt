-- `cells::first_uncrossed` meets its contract. The loop's invariant: each bound before `b` must be crossed. Assumes nothing.
use mathlib.Core.Path.{◌≡◌}
use Prim.Native.Nat.{ℕ, ◌-◌, ◌<◌}
use Rattle.model.specs.Limits.{max_bounds}
use Rattle.workloads.specs.Arrays.{numbers_in}
use Rattle.refilling.proofs.cells.first_uncrossed.Given as goal

abbrev pub invariant-loop-b : goal.invariant-loop-b
invariant-loop-b l = (l.interval < l.b) × ((k : ℕ) → k < l.b → l.interval < k → numbers_in l.cross k ≡ 0 → ⊥)

abbrev pub decreases-loop-b : goal.decreases-loop-b
decreases-loop-b l = max_bounds - l.b
