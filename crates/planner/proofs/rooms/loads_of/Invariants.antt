-- `rooms::loads_of` meets its contract. The loop's invariant: the loads of the first `i` intervals are stored. Assumes nothing.
use mathlib.Core.Path.{◌≡◌}
use Prim.Native.Nat.{ℕ, ◌+◌, ◌*◌, ◌<◌, ◌≤◌}
use lib.ListN.{length}
use Rattle.model.specs.Limits.{max_intervals}
use Rattle.workloads.specs.Arrays.{numbers_in}
use Rattle.planner.proofs.rooms.loads_of.Given as goal

abbrev pub invariant-loop-i : goal.invariant-loop-i
invariant-loop-i l =
    (l.i ≤ l.intervals)
    × (length l.room ≡ max_intervals)
    × ((k : ℕ) → k < l.i → numbers_in l.room k + numbers_in l.initial.room k ≡ numbers_in l.size k * l.frequency)
    × ((k : ℕ) → l.i ≤ k → numbers_in l.room k ≡ numbers_in l.initial.room k)
