use mathlib.Core.Path.{◌≡◌, sym, ◌∙◌, ap}
use Prim.Native.Nat.{◌+◌, ◌<◌, ◌≤◌}
use native.Mathlib.Omega.{arith}
use lib.ListN.{length}
use Rattle.levels.specs.declared.points.PointTable.{PointTable}
use Rattle.levels.specs.PointTables.{point_table, table_of, points_of}
use Rattle.levels.proofs.PointTables.{length_points_of, point-in}
use Rattle.levels.proofs.Keeping.{kept, kept_none, kept_all, kept_count, kept_dropped, kept_point}
use Rattle.levels.proofs.working.working_points.Goals as goal
use Rattle.levels.proofs.working.working_points.Goals.{then-not-dropped, else-not-dropped, Joined-not-dropped, Start}

-- the table at hand
abbrev all : (c : Start) → PointTable
all c = table_of c.args.count c.args.frequencies.now c.args.powers.now

pub loop-i-init : goal.loop-i-init
loop-i-init c =
    let none : c.no_points-table.result ≡ point_table (kept (points_of (all (goal.at.loop-i-init c).Start)) 0) = c.no_points-table.ensures ∙ ap point_table (kept_none _) in
    (omega arith, kept_count _ _ _ (omega arith) none, none)

pub dropped-requires : goal.dropped-requires
dropped-requires c = record { small_points = c.requires; b_lt_count = omega arith }

-- what the table has after this turn
filled : (c : Joined-not-dropped)
    → c.if-not-dropped.table ≡ point_table (kept (points_of (all c.before.before.before.before.before)) (c.loop-i.i + 1))
filled c =
    let table = all c.before.before.before.before.before in
    let inside : c.loop-i.i < length (points_of table) = omega (arith, length_points_of table) in
    elim c.if-not-dropped.branch [
      | then-not-dropped w ↦
          w.table-is
          ∙ kept_point _ _ inside _ c.loop-i.invariant.2 _ (omega (arith, length_points_of table)) (sym (point-in table _ (omega arith)))
          (sym c.dropped.ensures ∙ w.if-not-dropped.true)
      | else-not-dropped w ↦ w.table-is ∙ kept_dropped _ _ inside _ c.loop-i.invariant.2 (sym c.dropped.ensures ∙ w.if-not-dropped.false)
    ]

pub loop-i-preserved : goal.loop-i-preserved
loop-i-preserved c =
    let inside : c.loop-i.i + 1 ≤ length (points_of (all (goal.at.loop-i-preserved c).Start)) =
    omega (arith, length_points_of (all (goal.at.loop-i-preserved c).Start)) in
    (omega arith, kept_count _ _ _ inside (filled (goal.at.loop-i-preserved c).Joined-not-dropped), filled (goal.at.loop-i-preserved c).Joined-not-dropped)

pub returns : goal.returns
returns c =
    c.loop-i.invariant.2
    ∙ ap point_table (kept_all _ _ (omega (arith, length_points_of (all (goal.at.returns c).Start))))
