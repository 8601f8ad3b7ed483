use mathlib.Core.Path.{◌≡◌, ◌∙◌}
use Prim.Native.Nat.{◌<◌}
use native.Mathlib.Omega.{arith}
use lib.ListN.{length, length-set}
use borrow.Author.Count.{below_none}
use Rattle.model.specs.Limits.{max_intervals}
use Rattle.workloads.specs.Arrays.{numbers_in}
use Rattle.workloads.proofs.StoredNumbers.{stored_more}
use Rattle.prices.specs.RisingPrices.{LeastBand}
use Rattle.prices.proofs.smallest.least_prices.Goals as goal
use Rattle.prices.proofs.smallest.least_prices.Goals.{In-loop-i}

pub loop-i-init : goal.loop-i-init
loop-i-init c = (omega arith, c.requires.intervals_le_max_intervals.2, below_none _)

-- the interval's number fits the arrays
below : (c : In-loop-i) → c.loop-i.i < max_intervals
below c = omega arith

pub offset_bounds-size-i : goal.offset_bounds-size-i
offset_bounds-size-i c = omega (arith, below (goal.at.offset_bounds-size-i c).In-loop-i)

pub bounds-size-i : goal.bounds-size-i
bounds-size-i c = below (goal.at.bounds-size-i c).In-loop-i

pub offset_bounds-loads-i : goal.offset_bounds-loads-i
offset_bounds-loads-i c = omega (arith, below (goal.at.offset_bounds-loads-i c).In-loop-i)

pub bounds-loads-i : goal.bounds-loads-i
bounds-loads-i c = below (goal.at.bounds-loads-i c).In-loop-i

pub least_band-band-requires : goal.least_band-band-requires
least_band-band-requires c =
    let pre = c.requires in
    (pre.intervals_le_max_intervals.1, pre.by_index.0 _ c.loop-i-test.true, pre.by_index.1)

pub overflow_cast-prices : goal.overflow_cast-prices
overflow_cast-prices c = omega (arith, c.least_band-band.ensures.0, c.requires.intervals_le_max_intervals.1)

pub bounds-prices-i : goal.bounds-prices-i
bounds-prices-i c = below (goal.at.bounds-prices-i c).In-loop-i

pub loop-i-preserved : goal.loop-i-preserved
loop-i-preserved c =
    let a = c.args in
    let prices = c.loop-i.prices in
    let i = c.loop-i.i in
    let inv = c.loop-i.invariant in
    let inside : i < length prices = omega (arith, below (goal.at.loop-i-preserved c).In-loop-i, inv.1) in (
      omega (arith, c.loop-i-test.true),
      length-set prices i _ ∙ inv.1,
      stored_more (λ k band. LeastBand (numbers_in a.frequency.now) a.bands (numbers_in a.size.now k) (numbers_in a.loads.now k) band)
          prices i _ inside inv.2 c.least_band-band.ensures.1,
    )

pub returns : goal.returns
returns c =
    let all : c.loop-i.i ≡ c.args.intervals = omega arith in
    (c.loop-i.invariant.1, rw all at c.loop-i.invariant.2)
