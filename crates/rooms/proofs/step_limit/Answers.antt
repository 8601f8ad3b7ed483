-- `step_limit` meets its contract: without jobs there are no pairs, and otherwise the smaller number is found.
-- Assumes nothing.
use native.Mathlib.Omega.{arith}
use Rattle.rooms.proofs.step_limit.Goals as goal

pub returns-then-jobs-eq0 : goal.returns-then-jobs-eq0
returns-then-jobs-eq0 c = omega (arith, c.requires.2 c.if-jobs-eq0.true)
