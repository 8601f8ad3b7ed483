-- `checking::check_cells` meets its contract: a site is refused as reading refuses it, and the site that was read is checked.
-- Assumes nothing.
use Rattle.std.proofs.lemmas.Result.{err_from_is_err_and}
use Rattle.model.specs.Sites.{read_site}
use Rattle.model.specs.Checking.{check as check_of}
use Rattle.model.proofs.Refusals.{refused_returned, refused_then, returns_refused, returns_answered}
use Rattle.model.proofs.Sites.{sites_are_valid}
use Rattle.fitting.proofs.Verdicts.{refused_passes}
use Rattle.audit.proofs.checking.check_cells.Goals as goal

pub check_site-requires : goal.check_site-requires
check_site-requires c =
    let a = c.args in
    let read = rw c.in_ok-site.was at c.read_site.ensures in
    let (site, is, holds) = returns_answered _ (read_site a.levels.now a.jobs.now a.marks.now a.parameters) _ read in
    ((site, sites_are_valid _ _ _ _ site is, holds), c.requires)

pub returns-in_err-site : goal.returns-in_err-site
unfolding check_of
returns-in_err-site c =
    let a = c.args in
    let told = err_from_is_err_and c.from_residual.result c.from_residual.ensures.1 in
    let read = rw c.in_err-site.was at c.read_site.ensures in
    record {
      value = rw (told.1, told.2) (refused_returned _ (refused_then _ (returns_refused _ (read_site a.levels.now a.jobs.now a.marks.now a.parameters) _ read)));
      cells_seen = rw told.1 refused_passes;
    }

pub returns : goal.returns
unfolding check_of
returns c =
    let a = c.args in
    let read = rw c.in_ok-site.was at c.read_site.ensures in
    let (site, is, holds) = returns_answered _ (read_site a.levels.now a.jobs.now a.marks.now a.parameters) _ read in
    record { value = rw is (c.check_site.ensures.value site (sites_are_valid _ _ _ _ site is) holds); cells_seen = c.check_site.ensures.cells_seen }
