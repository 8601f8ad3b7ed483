-- `window::cycles_if_inside` meets its contract. Each way out rests on the tests that led there. Assumes nothing.
use native.Mathlib.Omega.{arith}
use borrow.Author.Tests.{lt-leb, le-leb}
use Rattle.spare.proofs.window.cycles_if_inside.Goals as goal

pub returns-then-release-start : goal.returns-then-release-start
returns-then-release-start c = (rw (lt-leb _ _ c.if-release-start.true), omega arith)

pub returns-then-deadline-end : goal.returns-then-deadline-end
returns-then-deadline-end c = (rw (le-leb _ _ c.if-release-start.false, lt-leb _ _ c.if-deadline-end.true), omega arith)

pub returns : goal.returns
returns c = (rw (le-leb _ _ c.if-release-start.false, le-leb _ _ c.if-deadline-end.false), omega arith)
