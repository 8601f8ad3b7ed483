-- `energy_figure` meets its contract. The loop's invariant: the figure is that of the bands passed, and small
-- (proofs/BandTables.antt). Assumes nothing.
use Prim.Native.Nat.{◌-◌, ◌≤◌}
use lib.ListN.{take}
use Rattle.levels.specs.PointTables.{points_of}
use Rattle.energy.proofs.BandTables.{FigureUpTo}
use Rattle.energy.proofs.energy_figure.Given as goal

abbrev pub invariant-loop-k : goal.invariant-loop-k
invariant-loop-k l =
    (l.k ≤ l.working.count - 1) × FigureUpTo (points_of l.working) (take l.bounds l.times) l.loads l.k l.figure
