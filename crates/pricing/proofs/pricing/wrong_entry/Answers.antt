-- `pricing::wrong_entry` meets its contract. Each way out rests on the tests that led there. Assumes nothing.
use borrow.Author.Tests.{eq-eqb, ne_eqb, lt-leb, le-leb}
use Rattle.pricing.proofs.pricing.wrong_entry.Goals as goal

pub returns-then-end-bound : goal.returns-then-end-bound
returns-then-end-bound c = rw (ne_eqb _ _ c.if-end-bound.true)

pub returns-then-number-lt1 : goal.returns-then-number-lt1
returns-then-number-lt1 c = rw (eq-eqb _ _ c.if-end-bound.false, lt-leb _ _ c.if-number-lt1.true)

pub returns-then-number-bands : goal.returns-then-number-bands
returns-then-number-bands c = rw (eq-eqb _ _ c.if-end-bound.false, le-leb _ _ c.if-number-lt1.false, lt-leb _ _ c.if-number-bands.true)

pub returns : goal.returns
returns c = rw (eq-eqb _ _ c.if-end-bound.false, le-leb _ _ c.if-number-lt1.false, le-leb _ _ c.if-number-bands.false)
