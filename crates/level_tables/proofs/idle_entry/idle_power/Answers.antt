-- `idle_entry::idle_power` meets its contract. Each way out rests on the test that led there. Assumes nothing.
use borrow.Author.Tests.{eq-eqb, ne_eqb}
use Rattle.level_tables.proofs.idle_entry.idle_power.Goals as goal

pub returns-then-first-eq0 : goal.returns-then-first-eq0
returns-then-first-eq0 c = rw (eq-eqb _ _ c.if-first-eq0.true)

pub returns : goal.returns
returns c = rw (ne_eqb _ _ c.if-first-eq0.false)
