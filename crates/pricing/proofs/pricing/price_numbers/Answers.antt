use mathlib.Core.Path.{refl}
use native.Mathlib.Omega.{arith}
use Rattle.model.specs.Limits.{max_intervals}
use Rattle.reading.proofs.Column.{column_none, column_more, column_whole}
use Rattle.pricing.proofs.pricing.price_numbers.Goals as goal

pub loop-i-init : goal.loop-i-init
loop-i-init c = (omega arith, column_none max_intervals _)

pub loop-i-preserved : goal.loop-i-preserved
loop-i-preserved c = (omega arith, column_more max_intervals _ _ _ _ (omega arith) c.loop-i.invariant.1 refl)

pub returns : goal.returns
returns c = column_whole max_intervals _ _ _ _ c.loop-i.invariant.0 c.loop-i-test.false c.loop-i.invariant.1
