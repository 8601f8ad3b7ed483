-- `idle_energy` meets its contract. The lengths of the intervals add up to the last bound less the first
-- (proofs/HeldBounds.antt). Assumes nothing.
use native.Mathlib.Omega.{arith}
use Rattle.energy.proofs.HeldBounds.{first_below_last, idle_few, idle_none, idle_whole}
use Rattle.energy.proofs.idle_energy.Goals as goal

pub returns-then-bounds-eq0 : goal.returns-then-bounds-eq0
returns-then-bounds-eq0 c = idle_none _ _ c.requires.small_bounds _ (omega arith)

pub overflow_sub-result-2 : goal.overflow_sub-result-2
overflow_sub-result-2 c = first_below_last _ _ c.requires.small_bounds

pub overflow_mul-result : goal.overflow_mul-result
overflow_mul-result c =
    omega (arith, idle_whole _ _ c.requires.small_bounds c.args.idle_power, idle_few _ _ c.requires.small_bounds c.args.idle_power)

pub returns : goal.returns
returns c = idle_whole _ _ c.requires.small_bounds _
