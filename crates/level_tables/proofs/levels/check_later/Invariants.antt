-- `levels::check_later` meets its contract. The loop's invariant: no entry passed has a fault, and `before` is the
-- entry before entry `i` (proofs/CheckedLevels.antt). What the reading then answers is in proofs/ByEntry.antt
-- of the crate reading. Assumes nothing.
use mathlib.Core.Path.{◌≡◌}
use Prim.Native.Nat.{ℕ, ◌-◌, ◌≤◌, ◌<◌}
use Rattle.model.specs.LevelTables.{table_fault}
use Rattle.level_tables.specs.Tables.{levels_in}
use Rattle.level_tables.proofs.CheckedLevels.{entry_in}
use Rattle.level_tables.proofs.levels.check_later.Given as goal

abbrev pub invariant-loop-i : goal.invariant-loop-i
invariant-loop-i l =
    (l.first < l.i)
    × (l.i ≤ l.count)
    × (l.before ≡ entry_in l.count l.frequencies l.voltages (l.i - 1))
    × ((k : ℕ) → k < l.i → table_fault (levels_in l.count l.frequencies l.voltages) k ≡ 0)
