use native.Mathlib.Omega.{arith}
use borrow.Author.Rules.{rules}
use Rattle.io.proofs.Counting.{prefix_len_of_le}
use Rattle.test_support.proofs.encode.encode.Goals as goal

pub loop-at-smaller : goal.loop-at-smaller
loop-at-smaller c = omega (arith, c.next-at-in-loop-at.ensures.2 (search rules))

pub returns-after-loop-at : goal.returns-after-loop-at
returns-after-loop-at c = (prefix_len_of_le _ _ (search rules), search rules, search rules)

pub returns-then-digit-gt9 : goal.returns-then-digit-gt9
returns-then-digit-gt9 c = (prefix_len_of_le _ _ (search rules), search rules, search rules)
