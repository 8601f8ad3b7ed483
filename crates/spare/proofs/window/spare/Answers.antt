-- `window::spare` meets its contract: tables are refused as reading refuses them, and the spare is that of the tables
-- that were read. Assumes nothing.
use mathlib.Core.Path.{sym}
use Rattle.std.proofs.lemmas.Result.{err_from_is_err_and}
use Rattle.model.specs.Sites.{read_tables}
use Rattle.model.specs.Windows.{spare as spare_of_bytes}
use Rattle.model.proofs.Refusals.{refused_then, refused_returned, returns_refused, returns_answered}
use Rattle.model.proofs.Sites.{tables_are_valid}
use Rattle.site.proofs.HeldSites.{pair_jobs, pair_top}
use Rattle.spare.proofs.window.spare.Goals as goal

pub returns-in_err-tables : goal.returns-in_err-tables
unfolding spare_of_bytes
returns-in_err-tables c =
    let passed = err_from_is_err_and c.from_residual.result c.from_residual.ensures.1 in
    rw (passed.1, passed.2) (refused_returned _ (refused_then _ (returns_refused _ _ _ c.in_err-tables.ensures)))

pub spare_of_tables-requires : goal.spare_of_tables-requires
spare_of_tables-requires c =
    let (tables, is, holds) = returns_answered _ _ _ c.in_ok-tables.ensures in
    let (processor, jobs) = tables_are_valid _ _ _ tables is in
    (pair_jobs holds jobs, pair_top holds processor)

pub returns : goal.returns
unfolding spare_of_bytes
returns c =
    let (tables, is, holds) = returns_answered _ (read_tables c.args.levels.now c.args.jobs.now c.args.parameters) _ c.in_ok-tables.ensures in
    rw is (c.spare_of_tables.ensures tables (sym holds.top_is) (sym holds.jobs_are))
