-- `spares::lower_spares` meets its contract. The loop's invariant: the spares of the ends so far are lowered, and the sum has what the jobs
-- inside need (proofs/SpareSteps.antt). Assumes nothing.
use Prim.Native.Nat.{ℕ, ◌+◌, ◌<◌, ◌≤◌}
use Rattle.job_rooms.specs.Spares.{CanLower}
use Rattle.job_rooms.proofs.SpareSteps.{Lowering}
use Rattle.job_rooms.proofs.spares.lower_spares.Given as goal

abbrev pub invariant-loop-end : goal.invariant-loop-end
invariant-loop-end l =
    (l.start < l.end) × (l.end ≤ l.intervals + 1)
    × ((needs : ℕ → ℕ) → CanLower needs l.capacity l.due l.intervals l.start → Lowering needs l.capacity l.intervals l.start l.initial.spares l.spares l.sum l.end)
