-- `working::working_points` meets its contract. The loop's invariant: the table has, of the first `i` points, those that are
-- not dropped (proofs/Keeping.antt), and so at most `i`. Assumes nothing.
use mathlib.Core.Path.{◌≡◌}
use Prim.Native.Nat.{◌≤◌}
use Rattle.levels.specs.PointTables.{point_table, table_of, points_of}
use Rattle.levels.proofs.Keeping.{kept}
use Rattle.levels.proofs.working.working_points.Given as goal

abbrev pub invariant-loop-i : goal.invariant-loop-i
invariant-loop-i l =
    (l.i ≤ l.count) × (l.table.count ≤ l.i) × (l.table ≡ point_table (kept (points_of (table_of l.count l.frequencies l.powers)) l.i))
