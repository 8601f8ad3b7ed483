-- `crosses::add_loads` meets its contract. The loop's invariant: up to `i` the array has what crosses each bound, past it
-- what is due there. Assumes nothing.
use Prim.Native.Nat.{ℕ, ◌≤◌}
use Rattle.refilling.specs.Crosses.{CanCross}
use Rattle.refilling.proofs.CrossSteps.{CrossedTo}
use Rattle.refilling.proofs.crosses.add_loads.Given as goal

abbrev pub invariant-loop-i : goal.invariant-loop-i
invariant-loop-i l =
    (l.i ≤ l.intervals)
    × ((jobs : ℕ) (last cycles : ℕ → ℕ) → CanCross jobs l.intervals last cycles l.loads l.initial.cross → CrossedTo jobs l.i last cycles l.loads l.cross l.rest)
