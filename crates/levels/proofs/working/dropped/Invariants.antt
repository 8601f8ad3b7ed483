-- `working::dropped` meets its contract. The loop's invariant: no point below `a` drops point `b` with a higher one.
-- Assumes nothing.
use mathlib.Core.Path.{◌≡◌}
use mathlib.Core.Bool.{false}
use Prim.Native.Nat.{ℕ, ◌<◌, ◌≤◌}
use Rattle.levels.specs.PointTables.{table_of, points_of, dropped_from}
use Rattle.levels.proofs.working.dropped.Given as goal

abbrev pub invariant-loop-a : goal.invariant-loop-a
invariant-loop-a l =
    (l.a ≤ l.b) × ((k : ℕ) → k < l.a → dropped_from (points_of (table_of l.count l.frequencies l.powers)) k l.b ≡ false)
