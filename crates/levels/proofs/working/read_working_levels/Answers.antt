-- `working::read_working_levels` meets its contract. It rests on `read_levels`, whose levels stand in the arrays
-- (proofs/Read.antt of the crate level_tables), and on `working_up_to`. Assumes nothing.
use mathlib.Core.Path.{◌≡◌, sym, ◌∙◌}
use Rattle.model.specs.Outcome.{answer}
use Rattle.model.specs.LevelTables.{read_levels}
use Rattle.model.proofs.LevelTables.{levels_valid}
use Rattle.model.proofs.Refusals.{returned_refused}
use Rattle.level_tables.specs.Tables.{levels_in}
use Rattle.level_tables.proofs.Read.{levels_read}
use Rattle.levels.proofs.working.read_working_levels.Goals as goal
use Rattle.levels.proofs.working.read_working_levels.Goals.{In-Ok}

-- the levels that were read stand in the arrays
answered : (c : In-Ok)
    → read_levels c.args.levels.now ≡ answer (levels_in c.in-Ok.table.count c.in-Ok.table.frequencies c.in-Ok.table.voltages)
answered c = levels_read _ _ (sym c.read_levels.ensures ∙ c.in-Ok.is)

pub working_up_to-requires : goal.working_up_to-requires
working_up_to-requires c = levels_valid _ _ (answered (goal.at.working_up_to-requires c).In-Ok)

pub returns-in-Ok : goal.returns-in-Ok
returns-in-Ok c = c.working_up_to.ensures ∙ rw (answered (goal.at.returns-in-Ok c).In-Ok)

pub returns-in-Err : goal.returns-in-Err
returns-in-Err c =
    let by = returned_refused _ (read_levels c.args.levels.now) _ (sym c.read_levels.ensures ∙ c.in-Err.is) in
    c.no_points.ensures ∙ rw by.outcome_is
