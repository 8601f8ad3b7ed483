use mathlib.Core.Path.{sym}
use native.Mathlib.Omega.{arith}
use Rattle.model.proofs.Numbers.{true≢false}
use Rattle.prices.proofs.PriceRanges.{range_more}
use Rattle.prices.proofs.ranges.is_below.Goals as goal

pub loop-i-init : goal.loop-i-init
loop-i-init c = (omega arith, λ k from to. absurd (omega arith))

pub returns-then-prices-i : goal.returns-then-prices-i
returns-then-prices-i c =
    let found = c.loop-i in
    record {
      found = λ e. (found.i, found.invariant.0, c.loop-i-test.true, c.if-prices-i.true);
      none = λ e. absurd (true≢false e);
    }

pub loop-i-preserved : goal.loop-i-preserved
loop-i-preserved c = let inv = c.loop-i.invariant in (omega arith, range_more _ _ _ inv.1 c.if-prices-i.false)

pub returns : goal.returns
returns c =
    record {
      found = λ e. absurd (true≢false (sym e));
      none = λ e i from to. c.loop-i.invariant.1 i from (omega (arith, c.loop-i-test.false));
    }
