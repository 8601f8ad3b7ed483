-- `levels::power_of` meets its contract: a power is at most 1,000 × 500 × 500. Assumes nothing.
use Prim.Native.Nat.{◌*◌, ◌<◌}
use native.Mathlib.Omega.{arith}
use Rattle.level_tables.proofs.Products.{product_below}
use Rattle.level_tables.proofs.levels.power_of.Goals as goal

pub overflow_mul-result : goal.overflow_mul-result
overflow_mul-result c = record { fits = product_below 1_000 500 (omega arith) (omega arith) (omega arith) }

pub overflow_mul-result-2 : goal.overflow_mul-result-2
overflow_mul-result-2 c =
    let args = c.args in
    let product : args.frequency * args.voltage < 500_001 = product_below 1_000 500 (omega arith) (omega arith) (omega arith) in
    record { fits = product_below 500_000 500 (omega arith) (omega arith) (omega arith) }
