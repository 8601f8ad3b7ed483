-- `working::drops` meets its contract: no difference falls below 0, the products are small, and the test is the definition's.
-- Assumes nothing.
use mathlib.Core.Path.{refl}
use native.Mathlib.Omega.{arith}
use Rattle.model.specs.Points.{drops}
use Rattle.level_tables.proofs.Products.{product_below}
use Rattle.levels.proofs.working.drops.Goals as goal

pub overflow_mul-result : goal.overflow_mul-result
overflow_mul-result c = record { fits = product_below 250_000_000 1_000 (omega arith) (omega arith) (omega arith) }

pub overflow_mul-result-2 : goal.overflow_mul-result-2
overflow_mul-result-2 c = record { fits = product_below 250_000_000 1_000 (omega arith) (omega arith) (omega arith) }

pub returns : goal.returns
unfolding drops
returns c = refl
