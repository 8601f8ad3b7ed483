use native.Mathlib.Omega.{arith}
use borrow.Author.Rules.{rules}
use Rattle.test_support.proofs.text.read_numbers.Goals as goal

pub loop-at-smaller : goal.loop-at-smaller
loop-at-smaller c = omega (arith, c.next-at.ensures.2 (search rules))
