-- `spares::capacities` meets its contract. The loop's invariant: what the top frequency gives before each bound so far stands in the array.
-- Assumes nothing.
use mathlib.Core.Path.{◌≡◌}
use Prim.Native.Nat.{ℕ, ◌+◌, ◌*◌, ◌<◌, ◌≤◌}
use lib.ListN.{length, get_or}
use Rattle.model.specs.Limits.{max_bounds}
use Rattle.job_rooms.proofs.spares.capacities.Given as goal

abbrev pub invariant-loop-i : goal.invariant-loop-i
invariant-loop-i l =
    (l.i ≤ l.intervals + 1) × (length l.capacity ≡ max_bounds) × ((k : ℕ) → k < l.i → get_or l.capacity k 0 ≡ get_or l.times k 0 * l.top)
