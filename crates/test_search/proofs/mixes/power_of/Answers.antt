-- `mixes::power_of` meets its contract. Products of small numbers are small. Assumes nothing.
use Rattle.std.proofs.Common.{◌*◌, ◌<◌, arith}
use Rattle.level_tables.proofs.Products.{product_below}
use Rattle.test_search.proofs.mixes.power_of.Goals as goal

pub overflow_mul-result : goal.overflow_mul-result
overflow_mul-result c = record { fits = product_below 500 500 (omega arith) (omega arith) (omega arith) }

pub overflow_mul-result-2 : goal.overflow_mul-result-2
overflow_mul-result-2 c =
    let square : c.args.voltage * c.args.voltage < 250_001 = product_below 500 500 (omega arith) (omega arith) (omega arith) in
    record { fits = product_below 1_000 250_000 (omega arith) (omega arith) (omega arith) }

pub returns : goal.returns
returns c =
    let square : c.args.voltage * c.args.voltage < 250_001 = product_below 500 500 (omega arith) (omega arith) (omega arith) in
    let power : c.args.frequency * (c.args.voltage * c.args.voltage) < 250_000_001 =
    product_below 1_000 250_000 (omega arith) (omega arith) (omega arith) in omega arith
