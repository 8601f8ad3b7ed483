use Prim.Native.Nat.{◌+◌, ◌<◌}
use native.Mathlib.Omega.{arith}
use Rattle.levels.proofs.Frequencies.{table_some}
use Rattle.energy.proofs.BandTables.{power_high, frequency_steps, power_steps, ends_high, energy_few, figure_none, figure_more, figure_all}
use Rattle.energy.proofs.energy_figure.Goals as goal
use Rattle.energy.proofs.energy_figure.Goals.{In-loop-k}

pub idle_energy-figure-requires : goal.idle_energy-figure-requires
idle_energy-figure-requires c =
    record { small_bounds = c.requires.small_bounds; idle_power_le_max_power = power_high _ c.requires.small_points 0 (omega (arith, table_some _ c.requires.small_points)) }

pub overflow_sub-k-end : goal.overflow_sub-k-end
overflow_sub-k-end c = omega (arith, table_some _ c.requires.small_points)

pub loop-k-init : goal.loop-k-init
loop-k-init c =
    (omega arith, figure_none _ c.requires.small_points _ _ _ _ c.requires.small_bounds c.idle_energy-figure.ensures)

-- the band's upper end stands in the table
inside : (c : In-loop-k) → c.loop-k.k + 1 < c.args.working.count
inside c = omega arith

pub overflow_sub-gap : goal.overflow_sub-gap
overflow_sub-gap c =
    omega (arith, frequency_steps _ c.requires.small_points _ (inside (goal.at.overflow_sub-gap c).In-loop-k))

pub overflow_sub-rise : goal.overflow_sub-rise
overflow_sub-rise c =
    omega (arith, power_steps _ c.requires.small_points _ (inside (goal.at.overflow_sub-rise c).In-loop-k))

pub band_total-requires : goal.band_total-requires
band_total-requires c =
    record { small_bounds = c.requires.small_bounds; lower_le_max_frequency = ends_high _ c.requires.small_points _ (inside (goal.at.band_total-requires c).In-loop-k) }

pub overflow_mul-figure : goal.overflow_mul-figure
overflow_mul-figure c =
    omega (arith, energy_few _ c.requires.small_points _ (inside (goal.at.overflow_mul-figure c).In-loop-k) _ _ _ _ c.band_total.ensures c.requires.small_bounds)

pub nonzero_div-figure : goal.nonzero_div-figure
nonzero_div-figure c =
    omega (arith, frequency_steps _ c.requires.small_points _ (inside (goal.at.nonzero_div-figure c).In-loop-k))

pub overflow_add-figure : goal.overflow_add-figure
overflow_add-figure c =
    let next = figure_more _ c.requires.small_points _ (inside (goal.at.overflow_add-figure c).In-loop-k) _ _ _ _ c.band_total.ensures c.requires.small_bounds _ c.loop-k.invariant.1 in
    omega (arith, next.small)

pub loop-k-preserved : goal.loop-k-preserved
loop-k-preserved c =
    (omega arith, figure_more _ c.requires.small_points _ (inside (goal.at.loop-k-preserved c).In-loop-k) _ _ _ _ c.band_total.ensures c.requires.small_bounds _ c.loop-k.invariant.1)

pub returns : goal.returns
returns c =
    let inv = c.loop-k.invariant in
    figure_all _ _ _ _ _ inv.0 c.loop-k-test.false inv.1
