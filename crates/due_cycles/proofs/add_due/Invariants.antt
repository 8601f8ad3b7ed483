-- `add_due` meets its contract. The loop's invariant: for each bound the array has the cycles of the jobs so far
-- that are due there. Assumes nothing.
use mathlib.Core.Path.{◌≡◌}
use Prim.Native.Nat.{ℕ}
use lib.ListN.{length}
use Rattle.model.specs.Limits.{max_bounds}
use Rattle.workloads.specs.Arrays.{numbers_in}
use Rattle.due_cycles.specs.Due.{due_at}
use Rattle.due_cycles.proofs.add_due.Given as goal

abbrev pub invariant-loop-bound : goal.invariant-loop-bound
invariant-loop-bound l =
    (goal.iterator-loop-bound).can_next l.bound-iterator
    × (goal.iterator-loop-bound).is_finite l.bound-iterator
    × (length l.due ≡ max_bounds)
    × ((b : ℕ) → numbers_in l.due b ≡ due_at (length l.yielded) (numbers_in l.last) (numbers_in l.cycles) b)
