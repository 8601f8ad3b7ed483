-- `pricing::wrong_price_length` meets its contract. Each way out rests on the tests that led there. Assumes nothing.
use mathlib.Core.Path.{sym, ◌∙◌}
use borrow.Author.Tests.{lt-ltb, le-ltb, eq-eqb, ne_eqb}
use Rattle.pricing.proofs.pricing.wrong_price_length.Goals as goal

pub returns-then-prices-lt2 : goal.returns-then-prices-lt2
returns-then-prices-lt2 c = rw (lt-ltb _ _ c.if-prices-lt2.true)

pub returns-then-number16-intervals : goal.returns-then-number16-intervals
returns-then-number16-intervals c = rw (le-ltb _ _ c.if-prices-lt2.false, ne_eqb _ _ (λ e. c.if-number16-intervals.true (c.number16.ensures.0 ∙ e)))

pub returns : goal.returns
returns c = rw (le-ltb _ _ c.if-prices-lt2.false, eq-eqb _ _ (sym c.number16.ensures.0 ∙ c.if-number16-intervals.false))
