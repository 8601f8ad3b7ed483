use mathlib.Core.Path.{refl}
use native.Mathlib.Nat.{mul-le-mul_right}
use native.Mathlib.Omega.{arith}
use Rattle.levels.specs.PointTables.{points_of}
use Rattle.listing_lines.specs.PlanText.{span_lines}
use Rattle.listing_lines.specs.Appending.{span_room}
use Rattle.listing_text.specs.ShownPlans.{prices_in}
use Rattle.listing_lines.proofs.AppendedText.{same_room, next_most, appended_as, pieces_none, pieces_next, pieces_whole}
use Rattle.listing_text.proofs.ShownSpans.{span_ready, span_shown}
use Rattle.listing_text.proofs.plan.put_spans.Goals as goal

pub loop-i-init : goal.loop-i-init
loop-i-init c = (omega arith, pieces_none _ _ _ span_room)

pub load_of-load-requires : goal.load_of-load-requires
load_of-load-requires c =
    let shown = c.requires.shown_plan in
    (shown.few_jobs, omega (arith, shown.share-room, mul-le-mul_right c.args.jobs c.loop-i-test.true))

pub put_span-next-requires : goal.put_span-next-requires
put_span-next-requires c =
    let shown = c.requires.shown_plan in
    let ready = span_ready shown _ c.loop-i-test.true _ c.load_of-load.ensures in
    record { from_lt_to = (ready.0, ready.1, omega (arith, next_most _ _ c.loop-i.invariant.1)); small_points = (shown.small, shown.curve, ready.2) }

pub loop-i-preserved : goal.loop-i-preserved
loop-i-preserved c =
    let a = c.args in
    let i = c.loop-i.i in
    let shown =
    span_shown (points_of a.working) a.times.now i _ _ (prices_in a.intervals a.prices.now i) c.load_of-load.ensures in (
      omega arith,
      pieces_next _ _ _ _ _ c.loop-i.invariant.1 (appended_as _ _ c.put_span-next.ensures _ _ shown (omega arith)),
    )

pub shape_of-text : goal.shape_of-text
shape_of-text c = same_room _ _ c.loop-i.invariant.1

pub returns : goal.returns
unfolding span_lines
returns c =
    let a = c.args in
    pieces_whole _ _ _ _ _ c.loop-i.invariant.1 a.intervals (omega arith) (omega arith) _ _ refl (omega arith)
