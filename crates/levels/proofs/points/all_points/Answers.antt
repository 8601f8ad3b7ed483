use mathlib.Core.Path.{◌≡◌}
use Prim.Native.Nat.{◌-◌}
use native.Mathlib.Omega.{arith}
use Rattle.model.specs.LevelTables.{idle_entries}
use Rattle.level_tables.specs.Tables.{levels_in}
use Rattle.level_tables.proofs.Read.{first_inside, levels_count}
use Rattle.levels.proofs.Filling.{first_small, first_found, idling_filled, level_high, level_next, levels_all}
use Rattle.levels.proofs.points.all_points.Goals as goal

pub idle_power-requires : goal.idle_power-requires
idle_power-requires c = first_small _ _ _ c.requires

pub loop-i-init : goal.loop-i-init
loop-i-init c =
    let levels = levels_in c.args.count c.args.frequencies.now c.args.voltages.now in
    let count = levels_count _ _ _ c.requires in
    let first = first_found _ _ _ c.requires _ c.idle_entries-i.ensures.0 in
    let none : c.idle_entries-i.result - idle_entries levels ≡ 0 = omega (arith, first) in
    (omega (arith, first), omega (arith, first, first_inside _ _ _ c.requires), count.1, omega (arith, none), rw none (idling_filled _ _ _ c.requires _ c.idle_power.ensures))

pub power_of-requires : goal.power_of-requires
power_of-requires c =
    level_high _ _ _ c.requires _ c.loop-i.invariant.0 c.loop-i-test.true

pub loop-i-preserved : goal.loop-i-preserved
loop-i-preserved c =
    let inv = c.loop-i.invariant in (
      omega arith,
      omega arith,
      inv.2,
      omega arith,
      level_next _ _ _ c.requires _ inv.0 c.loop-i-test.true _ _ inv.4 c.power_of.ensures,
    )

pub returns : goal.returns
returns c =
    let inv = c.loop-i.invariant in
    levels_all _ _ _ c.requires _ inv.0 _ inv.4 c.loop-i-test.false
