use native.Mathlib.Omega.{arith}
use borrow.Author.Rules.{rules}
use Rattle.test_boards.proofs.case.boards.Goals as goal

pub loop-place-smaller : goal.loop-place-smaller
loop-place-smaller c = omega (arith, c.next.ensures.2 (search rules))
