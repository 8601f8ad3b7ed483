-- `mixes::served` meets its contract. Products of small numbers are small. Assumes nothing.
use Rattle.std.proofs.Common.{◌*◌, ◌<◌, arith}
use Rattle.level_tables.proofs.Products.{product_below}
use Rattle.test_search.proofs.mixes.served.Goals as goal

pub overflow_mul-result : goal.overflow_mul-result
overflow_mul-result c = record { fits = product_below 255 1_000 (omega arith) (omega arith) (omega arith) }

pub returns : goal.returns
returns c =
    let served : c.args.length * c.args.frequency < 255_001 = product_below 255 1_000 (omega arith) (omega arith) (omega arith) in
    omega arith
