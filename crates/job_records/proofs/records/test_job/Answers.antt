-- `records::test_job` meets its contract. Each way out rests on the tests that led there. Assumes nothing.
use mathlib.Core.Bool.{and-false}
use borrow.Author.Tests.{eq-eqb, ne_eqb}
use Rattle.job_records.proofs.records.test_job.Goals as goal

pub returns-then-summed-j : goal.returns-then-summed-j
returns-then-summed-j c = record { opened = c.add_open.ensures; added = rw (ne_eqb _ _ c.if-summed-j.true) }

pub returns-then-sums-j : goal.returns-then-sums-j
returns-then-sums-j c = record { opened = c.add_open.ensures; added = rw (ne_eqb _ _ c.if-sums-j.true, and-false) }

pub returns : goal.returns
returns c = record {
  opened = c.add_open.ensures;
  added = rw (eq-eqb _ _ c.if-summed-j.false, eq-eqb _ _ c.if-sums-j.false);
}
