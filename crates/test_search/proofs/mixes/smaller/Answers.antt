-- `mixes::smaller` meets its contract. Products of small numbers fit. Assumes nothing.
use Rattle.std.proofs.Common.{arith, rules}
use Rattle.level_tables.proofs.Products.{product_below}
use Rattle.test_search.proofs.mixes.smaller.Goals as goal

pub overflow_mul-b : goal.overflow_mul-b
overflow_mul-b c = record { fits = product_below 127_500_000_000_000 1_000 (search rules) (search rules) (omega arith) }

pub overflow_mul-a : goal.overflow_mul-a
overflow_mul-a c = record { fits = product_below 127_500_000_000_000 1_000 (search rules) (search rules) (omega arith) }
