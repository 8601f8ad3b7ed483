-- `mixes::weighted` meets its contract. Products of small numbers are small. Assumes nothing.
use Rattle.std.proofs.Common.{◌*◌, ◌<◌, arith}
use Rattle.level_tables.proofs.Products.{product_below}
use Rattle.test_search.proofs.mixes.weighted.Goals as goal

pub overflow_mul-result : goal.overflow_mul-result
overflow_mul-result c = record { fits = product_below 255_000 250_000_000 (omega arith) (omega arith) (omega arith) }

pub returns : goal.returns
returns c =
    let weight : c.args.cycles * c.args.power < 63_750_000_000_001 =
    product_below 255_000 250_000_000 (omega arith) (omega arith) (omega arith) in omega arith
