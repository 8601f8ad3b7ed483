-- `placement::place` meets its contract. The loop's invariant: the bands before `band` are done (proofs/PlaceSteps.antt).
-- Assumes nothing.
use mathlib.Core.Path.{◌≡◌}
use Prim.Native.Nat.{◌*◌, ◌≤◌}
use lib.ListN.{length}
use Rattle.model.specs.Limits.{max_intervals}
use Rattle.workloads.specs.Arrays.{numbers_in, workload_with, KeptPast}
use Rattle.planner.specs.PlacedTables.{BandStart}
use Rattle.planner.proofs.placement.place.Given as goal

abbrev pub invariant-loop-band : goal.invariant-loop-band
invariant-loop-band l =
    (l.band ≤ l.bands)
    × KeptPast (l.intervals * l.jobs) l.initial.shares l.shares
    × (length l.prices ≡ max_intervals)
    × BandStart (workload_with l.cycles l.jobs l.intervals l.bands l.first l.last l.size l.frequency) l.shares l.loads l.holders l.left (numbers_in l.prices) l.band
