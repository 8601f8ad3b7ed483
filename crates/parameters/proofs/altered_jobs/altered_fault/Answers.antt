-- `altered_jobs::altered_fault` meets its contract: each way out is one of the tests. Assumes nothing.
use native.Mathlib.Omega.{arith}
use borrow.Author.Tests.{le-leb, lt-leb, lt-ltb, le-ltb}
use Rattle.model.specs.Limits.{max_cycles}
use Rattle.model.specs.SiteParameters.{altered_fault}
use Rattle.parameters.proofs.altered_jobs.altered_fault.Goals as goal

pub returns-then-deadline-release : goal.returns-then-deadline-release
unfolding altered_fault
returns-then-deadline-release c =
    let a = c.args in
    rw (le-leb a.deadline a.release (omega arith))

pub returns-then-cycles-gt-MAX_CYCLES : goal.returns-then-cycles-gt-MAX_CYCLES
unfolding altered_fault
returns-then-cycles-gt-MAX_CYCLES c =
    let a = c.args in
    rw (lt-leb a.deadline a.release (omega arith), lt-ltb max_cycles a.cycles c.if-cycles-gt-MAX_CYCLES.true)

pub returns : goal.returns
unfolding altered_fault
returns c =
    let a = c.args in
    rw (lt-leb a.deadline a.release (omega arith), le-ltb max_cycles a.cycles (omega arith))
