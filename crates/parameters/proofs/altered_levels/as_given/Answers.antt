-- `altered_levels::as_given` meets its contract. It rests on `read_levels`, whose levels stand in the arrays (proofs/Read.antt of the
-- crate level_tables). Assumes nothing.
use mathlib.Core.Path.{◌≡◌, sym, ◌∙◌}
use Rattle.model.specs.Outcome.{answer}
use Rattle.model.specs.LevelTables.{read_levels}
use Rattle.model.specs.SiteParameters.{as_given}
use Rattle.model.proofs.LevelTables.{levels_valid}
use Rattle.model.proofs.Refusals.{returned_refused}
use Rattle.level_tables.specs.Tables.{levels_in}
use Rattle.level_tables.proofs.Read.{levels_read, levels_count}
use Rattle.parameters.proofs.altered_levels.as_given.Goals as goal
use Rattle.parameters.proofs.altered_levels.as_given.Goals.{In-Ok}

-- the levels that were read stand in the arrays
answered : (c : In-Ok)
    → read_levels c.args.levels.now ≡ answer (levels_in c.in-Ok.table.count c.in-Ok.table.frequencies c.in-Ok.table.voltages)
answered c = levels_read _ _ (sym c.read_levels.ensures ∙ c.in-Ok.is)

pub running_count-highest-requires : goal.running_count-highest-requires
running_count-highest-requires c = levels_count _ _ _ (levels_valid _ _ (answered (goal.at.running_count-highest-requires c).In-Ok))

pub returns-in-Ok : goal.returns-in-Ok
unfolding as_given
returns-in-Ok c =
    rw (answered (goal.at.returns-in-Ok c).In-Ok, c.running_count-highest.ensures c.in-Ok.table.voltages)

pub returns-in-Err : goal.returns-in-Err
unfolding as_given
returns-in-Err c =
    let by = returned_refused _ (read_levels c.args.levels.now) _ (sym c.read_levels.ensures ∙ c.in-Err.is) in
    rw by.outcome_is
