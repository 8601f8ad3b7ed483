-- `points::all_points` meets its contract. The loop's invariant: the table has idling and the running levels before entry `i`
-- (proofs/Filling.antt). Assumes nothing.
use mathlib.Core.Path.{◌≡◌}
use Prim.Native.Nat.{suc, ◌+◌, ◌-◌, ◌≤◌}
use lib.ListN.{take}
use Rattle.model.specs.LevelTables.{idle_entries}
use Rattle.model.specs.Processors.{all_points, processor_of}
use Rattle.level_tables.specs.Tables.{levels_in}
use Rattle.levels.specs.PointTables.{point_table}
use Rattle.levels.proofs.points.all_points.Given as goal

abbrev pub invariant-loop-i : goal.invariant-loop-i
invariant-loop-i l =
    (idle_entries (levels_in l.count l.frequencies l.voltages) ≤ l.i)
    × (l.i ≤ l.count)
    × (l.count ≤ 8)
    × (l.table.count ≡ l.i - idle_entries (levels_in l.count l.frequencies l.voltages) + 1)
    × (l.table ≡ point_table (take (suc (l.i - idle_entries (levels_in l.count l.frequencies l.voltages))) (all_points (processor_of (levels_in l.count l.frequencies l.voltages)))))
