-- `interval::setting_up_to` meets its contract. It rests on `alter_levels` (proofs/KeptLevels.antt of the crate parameters) and on
-- `setting_in`. Assumes nothing.
use mathlib.Core.Path.{◌≡◌, ◌∙◌}
use Rattle.std.proofs.lemmas.Result.{err_from_is_err_and}
use Rattle.model.specs.Outcome.{answer}
use Rattle.model.specs.SiteParameters.{alter_levels}
use Rattle.model.proofs.Refusals.{refused_returned, refused_then}
use Rattle.level_tables.specs.Tables.{levels_in}
use Rattle.level_tables.proofs.Read.{levels_count}
use Rattle.parameters.proofs.KeptLevels.{levels_kept, kept_valid, levels_limited}
use Rattle.settings.specs.Settings.{answered}
use Rattle.settings.proofs.interval.setting_up_to.Goals as goal
use Rattle.settings.proofs.interval.setting_up_to.Goals.{In_ok-kept}

pub alter_levels-requires : goal.alter_levels-requires
alter_levels-requires c = levels_count _ _ _ c.requires

-- the entries up to the highest running level are the first that stand in the arrays
kept : (c : In_ok-kept)
    → alter_levels c.args.highest
    (levels_in c.args.count c.args.frequencies.now c.args.voltages.now)
    ≡ answer (levels_in c.in_ok-kept.kept c.args.frequencies.now c.args.voltages.now)
kept c = levels_kept _ _ _ _ _ (c.alter_levels.ensures _) _ c.in_ok-kept.was

pub setting_in-requires : goal.setting_in-requires
setting_in-requires c =
    kept_valid _ _ _ _ _ (c.alter_levels.ensures _) c.requires _ c.in_ok-kept.was

pub returns : goal.returns
returns c = c.setting_in.ensures ∙ rw (kept (goal.at.returns c).In_ok-kept)

pub returns-in_err-kept : goal.returns-in_err-kept
returns-in_err-kept c =
    let passed = err_from_is_err_and c.from_residual.result c.from_residual.ensures.1 in
    let by = levels_limited _ _ _ _ _ (c.alter_levels.ensures c.args.voltages.now) _ c.in_err-kept.was in
    rw (passed.1, passed.2) (refused_returned answered (refused_then _ by))
