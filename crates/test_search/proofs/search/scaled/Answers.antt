-- `search::scaled` meets its contract. The product fits, since numerator and quotient are small. Assumes nothing.
use Rattle.std.proofs.Common.{div-le_self, arith}
use Rattle.level_tables.proofs.Products.{product_below}
use Rattle.test_search.proofs.search.scaled.Goals as goal

pub overflow_mul-product : goal.overflow_mul-product
overflow_mul-product c = record { fits = product_below 127_500_000_000_000 27_720 (omega arith) (div-le_self 27_720 _) (omega arith) }
