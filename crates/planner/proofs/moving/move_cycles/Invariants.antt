-- `moving::move_cycles` meets its contract. The loop's invariant: the job is being placed, with `left` of its cycles left
-- (proofs/PlaceSteps.antt). Assumes nothing.
use mathlib.Core.Path.{◌≡◌}
use Prim.Native.Nat.{ℕ, ◌*◌}
use lib.ListN.{length}
use Rattle.model.specs.Limits.{max_jobs}
use Rattle.workloads.specs.Workloads.{Workload}
use Rattle.workloads.specs.Arrays.{lent_windows, KeptPast}
use Rattle.paths.specs.FilledTargets.{PlacingTables}
use Rattle.planner.proofs.moving.move_cycles.Given as goal

abbrev pub invariant-loop-left : goal.invariant-loop-left
invariant-loop-left l =
    (length l.reached ≡ max_jobs)
    × (length l.source ≡ max_jobs)
    × ((work : Workload) (band : ℕ) (prices lefts : ℕ → ℕ)
    → PlacingTables (lent_windows work l.turn.jobs l.first l.last) l.initial.shares l.initial.room l.initial.holders prices lefts l.turn.job l.turn.left band
    → KeptPast (work.intervals * l.turn.jobs) l.initial.shares l.shares
    × PlacingTables (lent_windows work l.turn.jobs l.first l.last) l.shares l.room l.holders prices lefts l.turn.job l.left band)

abbrev pub decreases-loop-left : goal.decreases-loop-left
decreases-loop-left l = l.left
