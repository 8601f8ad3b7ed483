use mathlib.Core.Path.{sym, ◌∙◌}
use Rattle.test_check.proofs.Turns.{nearer}
use Rattle.test_check.proofs.walk.walk.Goals as goal

pub loop-taken-smaller : goal.loop-taken-smaller
loop-taken-smaller c =
    nearer _ _ _ c.loop-taken.invariant (sym c.print.ensures ∙ c.loop-taken-test.true) c.next-taken-in-loop-taken.ensures
