use mathlib.Core.Path.{◌∙◌}
use native.Mathlib.Omega.{arith}
use Rattle.pricing.proofs.PricedSets.{cheaper_none, cheaper_more, filled_none, filled_more, filled_all}
use Rattle.pricing.proofs.cheapest.cheaper_sets.Goals as goal

pub loop-price-init : goal.loop-price-init
loop-price-init c = (omega arith, c.none-union.ensures ∙ cheaper_none c.args.priced, rw c.none-union.ensures (filled_none c.args.priced))

pub loop-price-preserved : goal.loop-price-preserved
loop-price-preserved c =
    let inv = c.loop-price.invariant in
    let priced = c.args.priced in (
      omega arith,
      c.either-union.ensures ∙ rw inv.1 (cheaper_more priced c.loop-price.price _ (omega (arith, c.well_formed.0))),
      filled_more priced _ _ _ inv.2 inv.1 (omega arith),
    )

pub returns : goal.returns
returns c = filled_all c.args.priced _ _ c.loop-price.invariant.2 c.loop-price-test.false
