use Prim.Native.Nat.{◌+◌}
use native.Mathlib.Omega.{arith}
use borrow.Author.Count.{below_none, below_more}
use Rattle.levels.proofs.Frequencies.{table_some}
use Rattle.settings.proofs.Loads.{load_high, band_past, band_found, band_none}
use Rattle.settings.proofs.interval.band_of.Goals as goal

pub overflow_sub-last : goal.overflow_sub-last
overflow_sub-last c = omega (arith, table_some _ c.requires.small_points)

pub loop-k-init : goal.loop-k-init
loop-k-init c = (omega arith, below_none _)

pub overflow_mul-length : goal.overflow_mul-length
overflow_mul-length c =
    omega (arith, load_high _ c.requires.small_points c.args.length (c.loop-k.k + 1) c.requires.length_le_max_deadline (omega arith))

pub returns-then-load-length : goal.returns-then-load-length
returns-then-load-length c = band_found _ _ _ _ (omega arith) c.loop-k.invariant.1 (omega arith)

pub loop-k-preserved : goal.loop-k-preserved
loop-k-preserved c = (omega arith, below_more _ _ c.loop-k.invariant.1 (band_past _ _ _ _ (omega arith) (omega arith)))

pub returns : goal.returns
returns c = band_none _ _ _ _ (omega arith) (omega arith) (λ j below. c.loop-k.invariant.1 j (omega arith))
