use mathlib.Core.Path.{◌≡◌, sym, ◌∙◌}
use native.Mathlib.Omega.{arith}
use borrow.Author.Count.{below_more}
use borrow.Author.Tests.{le-ltb}
use Rattle.model.proofs.Search.{some_below_holds, some_below_fails}
use Rattle.levels.specs.declared.points.PointTable.{PointTable}
use Rattle.levels.specs.PointTables.{table_of, points_of, dropped_by}
use Rattle.levels.proofs.PointTables.{length_points_of}
use Rattle.levels.proofs.Dropping.{in_order, drop_test}
use Rattle.levels.proofs.working.dropped_from.Goals as goal
use Rattle.levels.proofs.working.dropped_from.Goals.{After-drops, Start}

pub loop-c-init : goal.loop-c-init
loop-c-init c = (omega arith, omega arith, λ k below. rw (le-ltb c.args.b k (omega arith)))

pub drops-requires : goal.drops-requires
drops-requires c =
    let order =
    in_order _ _ _ _ (omega arith) (omega arith) (omega arith) _ _ _
    c.point_at-lower.ensures c.point_at-point.ensures c.point_at.ensures c.requires.small_points in
    record { ordered = order.0; ordered_2 = order.1 }

-- the table at hand
abbrev all : (c : Start) → PointTable
all c = table_of c.args.count c.args.frequencies.now c.args.powers.now

-- what this turn's test answers
here : (c : After-drops)
    → c.drops.result ≡ dropped_by (points_of (table_of c.args.count c.args.frequencies.now c.args.powers.now)) c.args.a c.args.b c.loop-c.c
here c =
    drop_test (table_of c.args.count c.args.frequencies.now c.args.powers.now) c.args.a c.args.b c.loop-c.c (omega arith) (omega arith) (omega arith) _ _ _
    c.point_at-lower.ensures c.point_at-point.ensures c.point_at.ensures _ c.drops.ensures

pub returns-then-drops : goal.returns-then-drops
returns-then-drops c =
    sym (some_below_holds _ _ _ (omega (arith, length_points_of (all (goal.at.returns-then-drops c).Start))) (sym (here (goal.at.returns-then-drops c).After-drops) ∙ c.if-drops.true))

pub loop-c-preserved : goal.loop-c-preserved
loop-c-preserved c = (
  omega arith,
  omega arith,
  below_more _ _ c.loop-c.invariant.2 (sym (here (goal.at.loop-c-preserved c).After-drops) ∙ c.if-drops.false),
)

pub returns : goal.returns
returns c =
    sym (some_below_fails _ _ (λ k below. c.loop-c.invariant.2 k (omega (arith, length_points_of (all (goal.at.returns c).Start)))))
