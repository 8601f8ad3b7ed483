use mathlib.Core.Path.{◌≡◌, refl}
use Prim.Native.Nat.{◌+◌}
use native.Mathlib.Omega.{arith}
use lib.ListN.{take}
use Rattle.model.specs.Sum.{sum}
use Rattle.energy.specs.Figures.{cycles_in}
use Rattle.energy.proofs.HeldBounds.{bound_rises, length_few, cycles_few, cycles_more, cycles_all}
use Rattle.energy.proofs.band_total.Goals as goal
use Rattle.energy.proofs.band_total.Goals.{After-band_cycles-total}

pub loop-i-init : goal.loop-i-init
unfolding sum
loop-i-init c = (omega arith, refl)

pub overflow_sub-times : goal.overflow_sub-times
overflow_sub-times c =
    omega (arith, bound_rises _ _ c.requires.small_bounds c.loop-i.i (omega arith))

pub band_cycles-total-requires : goal.band_cycles-total-requires
band_cycles-total-requires c =
    (length_few _ _ c.requires.small_bounds _ (omega arith), c.requires.lower_le_max_frequency.0, c.requires.lower_le_max_frequency.1)

-- the total with one interval more
more : (c : After-band_cycles-total)
    → let args = c.args in
    c.loop-i.total + c.band_cycles-total.result
    ≡ sum (c.loop-i.i + 1) (cycles_in (take args.bounds args.times.now) args.loads.now args.lower args.gap)
more c =
    let args = c.args in
    cycles_more _ _ c.requires.small_bounds args.loads.now args.lower args.gap _ _ _ (omega arith) c.loop-i.invariant.1
    c.band_cycles-total.ensures

pub overflow_add-total : goal.overflow_add-total
overflow_add-total c =
    let args = c.args in
    omega (
      arith,
      more (goal.at.overflow_add-total c).After-band_cycles-total,
      cycles_few _ _ c.requires.small_bounds args.loads.now args.lower args.gap (c.loop-i.i + 1) (omega arith),
    )

pub loop-i-preserved : goal.loop-i-preserved
loop-i-preserved c = (omega arith, more (goal.at.loop-i-preserved c).After-band_cycles-total)

pub returns : goal.returns
returns c =
    let inv = c.loop-i.invariant in
    cycles_all _ _ c.requires.small_bounds _ _ _ _ _ inv.0 (omega arith) inv.1
