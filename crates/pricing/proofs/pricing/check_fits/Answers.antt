use mathlib.Core.Path.{◌≡◌, ap}
use mathlib.Core.Bool.{not}
use Prim.Native.Nat.{◌+◌, ◌-◌, ◌≤◌, ◌<◌}
use native.Mathlib.Omega.{arith}
use lib.ListN.{get_or}
use borrow.Author.Count.{below_none, below_more}
use Rattle.model.specs.Refusals.{fault_of}
use Rattle.model.specs.Prices.{fits_load}
use Rattle.levels.specs.PointTables.{points_of}
use Rattle.levels.proofs.Frequencies.{frequency_high}
use Rattle.fitting.proofs.BoundsIn.{bounds_rise, length_small}
use Rattle.fitting.proofs.Verdicts.{verdict_stops, verdict_passes}
use Rattle.pricing.proofs.PriceFaults.{outside_told, told_wrong, told_right}
use Rattle.pricing.proofs.pricing.check_fits.Goals as goal
use Rattle.pricing.proofs.pricing.check_fits.Goals.{In-loop-i, After-is_outside}

pub loop-i-init : goal.loop-i-init
loop-i-init c = (omega arith, below_none _)

pub overflow_add-i : goal.overflow_add-i
overflow_add-i c = omega (arith, c.requires.small_bounds.0.rising.few)

pub offset_bounds-numbers-i : goal.offset_bounds-numbers-i
offset_bounds-numbers-i c = omega (arith, c.requires.small_bounds.0.rising.few)

pub bounds-numbers-i : goal.bounds-numbers-i
bounds-numbers-i c = omega (arith, c.requires.small_bounds.0.rising.few)

-- the price of this turn's interval is the number of a band
banded : (c : In-loop-i)
    → c.loop-i.i + 1 < c.args.bounds
    → let a = c.args in
    let number = get_or a.numbers.now c.loop-i.i 0 in
    (1 ≤ number) × (number < a.working.count) × (number < 9)
banded c test =
    let i = c.loop-i.i in
    let numbered = c.requires.small_bounds.1 in
    let low = numbered.low i (omega arith) in
    let high = numbered.high i (omega arith) in
    (low, omega (arith, low, high), omega (arith, low, high, c.requires.small_points.0.few))

pub overflow_sub-low : goal.overflow_sub-low
overflow_sub-low c = omega (arith, banded (goal.at.overflow_sub-low c).In-loop-i (omega arith))

pub offset_bounds-working-k : goal.offset_bounds-working-k
offset_bounds-working-k c = omega (arith, banded (goal.at.offset_bounds-working-k c).In-loop-i (omega arith))

pub bounds-working-k : goal.bounds-working-k
bounds-working-k c = omega (arith, banded (goal.at.bounds-working-k c).In-loop-i (omega arith))

pub offset_bounds-working-k-in-loop-i : goal.offset_bounds-working-k-in-loop-i
offset_bounds-working-k-in-loop-i c = omega (arith, banded (goal.at.offset_bounds-working-k-in-loop-i c).In-loop-i (omega arith))

pub bounds-working-k-in-loop-i : goal.bounds-working-k-in-loop-i
bounds-working-k-in-loop-i c = omega (arith, banded (goal.at.bounds-working-k-in-loop-i c).In-loop-i (omega arith))

pub offset_bounds-times-i : goal.offset_bounds-times-i
offset_bounds-times-i c = omega (arith, c.requires.small_bounds.0.rising.few)

pub bounds-times-i : goal.bounds-times-i
bounds-times-i c = omega (arith, c.requires.small_bounds.0.rising.few)

pub offset_bounds-times-i-in-loop-i : goal.offset_bounds-times-i-in-loop-i
offset_bounds-times-i-in-loop-i c = omega (arith, c.requires.small_bounds.0.rising.few)

pub bounds-times-i-in-loop-i : goal.bounds-times-i-in-loop-i
bounds-times-i-in-loop-i c = omega (arith, c.requires.small_bounds.0.rising.few)

pub overflow_sub-times : goal.overflow_sub-times
overflow_sub-times c =
    omega (arith, bounds_rise _ _ c.requires.small_bounds.0 c.loop-i.i (omega arith))

pub offset_bounds-loads-i : goal.offset_bounds-loads-i
offset_bounds-loads-i c = omega (arith, c.requires.small_bounds.0.rising.few)

pub bounds-loads-i : goal.bounds-loads-i
bounds-loads-i c = omega (arith, c.requires.small_bounds.0.rising.few)

pub is_outside-requires : goal.is_outside-requires
is_outside-requires c =
    let small = c.requires.small_points.0 in
    let number = banded (goal.at.is_outside-requires c).In-loop-i (omega arith) in (
      length_small _ _ c.requires.small_bounds.0 c.loop-i.i (omega arith),
      frequency_high _ small _ (omega (arith, number)),
      frequency_high _ small _ number.1,
    )

-- what was told of this turn's interval is whether it has a fault
here : (c : After-is_outside)
    → let number = get_or c.args.numbers.now c.loop-i.i 0 in
    (1 ≤ number) × (number < c.args.working.count) × (number < 9)
    → let a = c.args in
    let i = c.loop-i.i in
    c.is_outside.result
    ≡ not (fits_load (points_of a.working) (get_or a.times.now (i + 1) 0 - get_or a.times.now i 0) (get_or a.loads.now i 0) number)
here c number =
    let some = bounds_rise _ _ c.requires.small_bounds.0 c.loop-i.i (omega arith) in
    outside_told c.args.working c.requires.small_points.1 _ _ _ (omega (arith, some)) number.0 number.1 _ c.is_outside.ensures

pub returns-then-is_outside : goal.returns-then-is_outside
returns-then-is_outside c =
    rw c.at.ensures
    (verdict_stops _ _ _ _ c.loop-i.invariant.1 (omega arith)
    (ap fault_of (told_wrong _ _ (here (goal.at.returns-then-is_outside c).After-is_outside (banded (goal.at.returns-then-is_outside c).In-loop-i (omega arith))) 23 c.if-is_outside.true)))

pub loop-i-preserved : goal.loop-i-preserved
loop-i-preserved c =
    (omega arith, below_more _ _ c.loop-i.invariant.1 (told_right _ _ (here (goal.at.loop-i-preserved c).After-is_outside (banded (goal.at.loop-i-preserved c).In-loop-i (omega arith))) 23 c.if-is_outside.false))

pub returns : goal.returns
returns c = verdict_passes _ _ (λ k below. c.loop-i.invariant.1 k (omega arith))
