-- `written::product` meets its contract: the product of numbers within their limits fits. Assumes nothing.
use Rattle.std.proofs.Common.{arith}
use Rattle.std.proofs.Math.Nat.{mul-le-mul}
use Rattle.test_plan.proofs.written.product.Goals as goal

pub overflow_mul-result : goal.overflow_mul-result
overflow_mul-result c = record { fits = omega (arith, mul-le-mul c.if-jobs-gt-MAX_JOBS.false c.if-intervals-gt-MAX_INTERVALS.false) }
