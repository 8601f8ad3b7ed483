-- `rows::due_by` meets its contract. Assumes nothing.
use mathlib.Core.Path.{◌∙◌}
use borrow.Author.Tests.{lt-ltb, le-ltb}
use Rattle.refilling.proofs.rows.due_by.Goals as goal

pub returns-then-bound-intervals : goal.returns-then-bound-intervals
returns-then-bound-intervals c = rw (lt-ltb _ _ c.if-bound-intervals.true) (c.less.ensures ∙ rw c.set_at.ensures)

pub returns : goal.returns
returns c = rw (le-ltb _ _ c.if-bound-intervals.false)
