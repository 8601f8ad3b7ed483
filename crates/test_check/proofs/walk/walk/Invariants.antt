-- `walk::walk` ends: the readings go on in the same plan, and each step leaves fewer turns (proofs/Turns.antt). Assumes nothing.
use mathlib.Core.Path.{◌≡◌}
use Rattle.test_check.proofs.Turns.{turns_left}
use Rattle.test_check.proofs.walk.walk.Given as goal

abbrev pub invariant-loop-taken : goal.invariant-loop-taken
invariant-loop-taken l = l.taken.rest.plan.now ≡ l.plan

abbrev pub decreases-loop-taken : goal.decreases-loop-taken
decreases-loop-taken l = turns_left l.plan l.taken
