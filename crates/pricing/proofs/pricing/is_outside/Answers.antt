-- `pricing::is_outside` meets its contract. Each way out rests on the tests that led there. Assumes nothing.
use native.Mathlib.Nat.{mul-le-mul}
use native.Mathlib.Omega.{arith}
use borrow.Author.Tests.{lt-leb, le-leb}
use mathlib.Core.Bool.{and-false}
use Rattle.pricing.proofs.pricing.is_outside.Goals as goal

pub overflow_mul-length : goal.overflow_mul-length
overflow_mul-length c = omega (arith, mul-le-mul c.requires.0 c.requires.1)

pub returns-then-load-length : goal.returns-then-load-length
returns-then-load-length c = rw (lt-leb _ _ c.if-load-length.true)

pub overflow_mul-length-2 : goal.overflow_mul-length-2
overflow_mul-length-2 c = omega (arith, mul-le-mul c.requires.0 c.requires.2)

pub returns-then-load-length-2 : goal.returns-then-load-length-2
returns-then-load-length-2 c = rw (lt-leb _ _ c.if-load-length-2.true, and-false)

pub returns : goal.returns
returns c = rw (le-leb _ _ c.if-load-length.false, le-leb _ _ c.if-load-length-2.false)
