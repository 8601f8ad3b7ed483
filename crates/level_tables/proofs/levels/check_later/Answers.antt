use mathlib.Core.Path.{◌≡◌, ◌∙◌, sym, ap}
use Prim.Native.Nat.{◌+◌, ◌-◌}
use native.Mathlib.Omega.{arith}
use borrow.Author.Count.{below_more}
use Rattle.std.specs.Prelude.{Err}
use Rattle.model.specs.declared.Level.{Level}
use Rattle.model.specs.Levels.{fault_of_level}
use Rattle.model.specs.LevelTables.{table_fault}
use Rattle.model.specs.Refusals.{fault_of}
use Rattle.model.proofs.Entries.{length_list_of}
use Rattle.model.proofs.Refusals.{fault_none}
use Rattle.reading.proofs.ByEntry.{reading_stops, reading_passes}
use Rattle.level_tables.specs.Tables.{levels_in}
use Rattle.level_tables.proofs.CheckedLevels.{entry_in, later_fault}
use Rattle.level_tables.proofs.levels.check_later.Goals as goal
use Rattle.level_tables.proofs.levels.check_later.Goals.{After-level_fault}

pub loop-i-init : goal.loop-i-init
loop-i-init c =
    let place : c.args.first + 1 - 1 ≡ c.args.first = omega arith in
    (omega arith, omega arith, rw place, λ k below. c.requires.by_index k (omega arith))

-- what is found in this turn is the entry's fault
here : (c : After-level_fault)
    → c.level_fault.result
    ≡ fault_of (table_fault
    (levels_in
    c.args.count
    c.args.frequencies.now
    c.args.voltages.now)
    c.loop-i.i)
here c =
    let inv = c.loop-i.invariant in
    c.level_fault.ensures
    ∙ ap fault_of (ap (λ (before : Level). fault_of_level before (entry_in c.args.count c.args.frequencies.now c.args.voltages.now c.loop-i.i)) inv.2
    ∙ later_fault _ _ _ _ (omega (arith, c.requires.first_value)) c.loop-i-test.true)

pub returns-in-Some : goal.returns-in-Some
returns-in-Some c =
    ap Err c.at.ensures
    ∙ reading_stops _ _ _ _ _ c.loop-i.invariant.3 (omega arith) (sym (here (goal.at.returns-in-Some c).After-level_fault) ∙ c.in-Some.is)

pub loop-i-preserved : goal.loop-i-preserved
loop-i-preserved c =
    let inv = c.loop-i.invariant in
    let place : c.loop-i.i + 1 - 1 ≡ c.loop-i.i = omega arith in
    (omega arith, omega arith, rw place, below_more _ _ inv.3 (fault_none _ (sym (here (goal.at.loop-i-preserved c).After-level_fault) ∙ c.in_default.is)))

pub returns : goal.returns
unfolding levels_in
returns c = reading_passes _ _ _ (λ k below. c.loop-i.invariant.3 k (omega arith)) (length_list_of _ _)
