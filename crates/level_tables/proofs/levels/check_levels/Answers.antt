-- `levels::check_levels` meets its contract. Each way out rests on the tests that led there and on what the callees ensure
-- (proofs/CheckedLevels.antt). Assumes nothing.
use mathlib.Core.Path.{◌∙◌, ap}
use native.Mathlib.Omega.{arith}
use Rattle.std.specs.Prelude.{Err}
use Rattle.reading.specs.Tables.{returned_count}
use Rattle.level_tables.proofs.CheckedLevels.{first_is, alone, not_alone, first_stops, first_passes}
use Rattle.level_tables.proofs.levels.check_levels.Goals as goal

pub returns-then-count-first : goal.returns-then-count-first
returns-then-count-first c =
    ap Err c.at.ensures ∙ alone _ _ _ c.requires.0 _ c.idle_entries-first.ensures.0 c.if-count-first.true

pub idle_power-requires : goal.idle_power-requires
idle_power-requires c = omega (arith, c.requires.2 0 (omega arith))

pub returns-in-Some : goal.returns-in-Some
returns-in-Some c =
    ap Err c.at-in-Some.ensures
    ∙ first_stops _ _ _ c.requires.0 _ c.idle_entries-first.ensures.0 (λ e. omega arith) _ _ c.idle_power.ensures c.first_fault.ensures _ c.in-Some.is

pub check_later-requires : goal.check_later-requires
check_later-requires c =
    let counted = c.idle_entries-first.ensures.0 in record { first_lt_count = (omega arith, c.requires.1); first_value = first_is _ _ _ c.requires.0 _ counted; by_index = first_passes _ _ _ c.requires.0 _ counted (λ e. omega arith) _ _ c.idle_power.ensures c.first_fault.ensures c.in_default.is }

pub returns : goal.returns
returns c =
    c.check_later.ensures ∙ ap returned_count (not_alone _ _ _ c.requires.0 _ c.idle_entries-first.ensures.0 (λ e. omega arith))
