-- `steps::wrong_length` meets its contract. Each way out rests on the test that led there and on `number16`. Assumes nothing.
use borrow.Author.Tests.{lt-ltb, le-ltb}
use Rattle.walking.proofs.steps.wrong_length.Goals as goal

pub returns-then-plan-lt4 : goal.returns-then-plan-lt4
returns-then-plan-lt4 c = rw (lt-ltb _ _ c.if-plan-lt4.true)

pub returns : goal.returns
returns c = rw (le-ltb _ _ c.if-plan-lt4.false, c.number16.ensures.0)
