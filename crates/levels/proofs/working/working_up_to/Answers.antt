-- `working::working_up_to` meets its contract. It rests on `alter_levels` (proofs/KeptLevels.antt of the crate parameters) and on
-- `working_levels`. Assumes nothing.
use mathlib.Core.Path.{◌≡◌, ◌∙◌}
use Rattle.model.specs.Outcome.{answer}
use Rattle.model.specs.SiteParameters.{alter_levels}
use Rattle.level_tables.specs.Tables.{levels_in}
use Rattle.level_tables.proofs.Read.{levels_count}
use Rattle.parameters.proofs.KeptLevels.{levels_kept, kept_valid, levels_limited}
use Rattle.levels.proofs.working.working_up_to.Goals as goal
use Rattle.levels.proofs.working.working_up_to.Goals.{In-Ok}

pub alter_levels-requires : goal.alter_levels-requires
alter_levels-requires c = levels_count _ _ _ c.requires

-- the entries up to the highest running level are the first that stand in the arrays
kept : (c : In-Ok)
    → alter_levels c.args.highest
    (levels_in c.args.count c.args.frequencies.now c.args.voltages.now)
    ≡ answer (levels_in c.in-Ok.kept c.args.frequencies.now c.args.voltages.now)
kept c = levels_kept _ _ _ _ _ (c.alter_levels.ensures _) _ c.in-Ok.is

pub working_levels-requires : goal.working_levels-requires
working_levels-requires c =
    kept_valid _ _ _ _ _ (c.alter_levels.ensures _) c.requires _ c.in-Ok.is

pub returns-in-Ok : goal.returns-in-Ok
returns-in-Ok c = c.working_levels.ensures ∙ rw (kept (goal.at.returns-in-Ok c).In-Ok)

pub returns-in-Err : goal.returns-in-Err
returns-in-Err c =
    let by = levels_limited _ _ _ _ _ (c.alter_levels.ensures c.args.voltages.now) _ c.in-Err.is in
    c.no_points.ensures ∙ rw by.outcome_is
