use mathlib.Core.Path.{◌≡◌}
use Prim.Native.Nat.{◌-◌}
use native.Mathlib.Omega.{arith}
use Rattle.pricing.proofs.PricedSets.{priced_none, priced_more}
use Rattle.pricing.proofs.cheapest.priced_sets.Goals as goal

pub loop-i-init : goal.loop-i-init
loop-i-init c = (omega arith, rw c.none-nobody.ensures (priced_none c.args.sets.now c.args.numbers.now))

pub offset_bounds-priced-price : goal.offset_bounds-priced-price
offset_bounds-priced-price c = omega (arith, c.requires.1 c.loop-i.i (omega arith))

pub bounds-priced-price : goal.bounds-priced-price
bounds-priced-price c = c.requires.1 c.loop-i.i (omega arith)

pub offset_bounds-priced-price-in-loop-i : goal.offset_bounds-priced-price-in-loop-i
offset_bounds-priced-price-in-loop-i c = omega (arith, c.requires.1 c.loop-i.i (omega arith))

pub bounds-priced-price-in-loop-i : goal.bounds-priced-price-in-loop-i
bounds-priced-price-in-loop-i c = c.requires.1 c.loop-i.i (omega arith)

pub loop-i-preserved : goal.loop-i-preserved
loop-i-preserved c =
    let a = c.args in (
      omega arith,
      rw (c.either.ensures, c.set_at.ensures)
          (priced_more a.sets.now a.numbers.now _ _ _ c.loop-i.invariant.1 (c.requires.1 c.loop-i.i (omega arith))),
    )

pub returns : goal.returns
returns c = let last : c.args.bounds - 1 ≡ c.loop-i.i = omega arith in rw last c.loop-i.invariant.1
