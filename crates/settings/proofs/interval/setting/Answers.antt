-- `interval::setting` meets its contract. It rests on `read_levels`, whose levels stand in the arrays (proofs/Read.antt
-- of the crate level_tables), and on `setting_up_to` (proofs/Answers.antt). Assumes nothing.
use mathlib.Core.Path.{◌≡◌, sym, ◌∙◌, ap}
use Rattle.std.proofs.lemmas.Result.{err_from_is_err_and}
use Rattle.model.specs.Outcome.{answer}
use Rattle.model.specs.LevelTables.{read_levels}
use Rattle.model.proofs.LevelTables.{levels_valid}
use Rattle.model.proofs.Refusals.{returned_refused}
use Rattle.level_tables.specs.Tables.{levels_in}
use Rattle.level_tables.proofs.Read.{levels_read}
use Rattle.settings.specs.Settings.{setting_answer}
use Rattle.settings.proofs.Answers.{levels_refused, levels_answered}
use Rattle.settings.proofs.interval.setting.Goals as goal
use Rattle.settings.proofs.interval.setting.Goals.{In_ok-table}

-- the levels that were read stand in the arrays
answered : (c : In_ok-table)
    → read_levels c.args.levels.now
    ≡ answer
    (levels_in c.in_ok-table.table.count c.in_ok-table.table.frequencies c.in_ok-table.table.voltages)
answered c = levels_read _ _ (sym c.read_levels.ensures ∙ c.in_ok-table.was)

pub setting_up_to-requires : goal.setting_up_to-requires
setting_up_to-requires c = levels_valid _ _ (answered (goal.at.setting_up_to-requires c).In_ok-table)

pub returns : goal.returns
returns c =
    c.setting_up_to.ensures
    ∙ ap setting_answer (levels_answered _ _ _ _ _ (answered (goal.at.returns c).In_ok-table))

pub returns-in_err-table : goal.returns-in_err-table
returns-in_err-table c =
    let passed = err_from_is_err_and c.from_residual.result c.from_residual.ensures.1 in
    let by = returned_refused _ (read_levels c.args.levels.now) _ (sym c.read_levels.ensures ∙ c.in_err-table.was) in
    rw (passed.1, passed.2) (levels_refused _ _ _ _ _ by)
