-- `working::dropped_from` meets its contract. The loop's invariant: no point below `c` is higher than `b` and drops it with
-- point `a` (proofs/Dropping.antt). Assumes nothing.
use mathlib.Core.Path.{◌≡◌}
use mathlib.Core.Bool.{false}
use Prim.Native.Nat.{ℕ, ◌<◌, ◌≤◌}
use Rattle.levels.specs.PointTables.{table_of, points_of, dropped_by}
use Rattle.levels.proofs.working.dropped_from.Given as goal

abbrev pub invariant-loop-c : goal.invariant-loop-c
invariant-loop-c l =
    (l.b < l.c) × (l.c ≤ l.count) × ((k : ℕ) → k < l.c → dropped_by (points_of (table_of l.count l.frequencies l.powers)) l.a l.b k ≡ false)
