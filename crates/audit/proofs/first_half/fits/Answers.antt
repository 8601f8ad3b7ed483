-- `first_half::fits` meets its contract: a site is refused as reading refuses it, and the plan is held against the site that was read.
-- Assumes nothing.
use mathlib.Core.Path.{refl}
use lib.ListN.{replicate}
use Rattle.std.proofs.lemmas.Result.{err_from_is_err_and}
use Rattle.model.specs.Limits.{max_intervals}
use Rattle.model.specs.Sites.{read_site}
use Rattle.model.specs.Checking.{fits as fits_of}
use Rattle.model.proofs.Refusals.{refused_returned, refused_then, returns_refused, returns_answered}
use Rattle.model.proofs.Sites.{sites_are_valid}
use Rattle.job_records.proofs.SetsHave.{no-jobs}
use Rattle.audit.proofs.first_half.fits.Goals as goal

pub fit_site-requires : goal.fit_site-requires
fit_site-requires c =
    let a = c.args in
    let read = rw c.in_ok-site.was at c.read_site.ensures in
    let (site, is, holds) = returns_answered _ (read_site a.levels.now a.jobs.now a.marks.now a.parameters) _ read in
    record { holds_some = (site, sites_are_valid _ _ _ _ site is, holds); no_jobs = (no-jobs, refl {a = replicate max_intervals 0}, no-jobs) }

pub returns-in_err-site : goal.returns-in_err-site
unfolding fits_of
returns-in_err-site c =
    let a = c.args in
    let told = err_from_is_err_and c.from_residual.result c.from_residual.ensures.1 in
    let read = rw c.in_err-site.was at c.read_site.ensures in
    rw (told.1, told.2) (refused_returned _ (refused_then _ (returns_refused _ (read_site a.levels.now a.jobs.now a.marks.now a.parameters) _ read)))

pub returns : goal.returns
unfolding fits_of
returns c =
    let a = c.args in
    let read = rw c.in_ok-site.was at c.read_site.ensures in
    let (site, is, holds) = returns_answered _ (read_site a.levels.now a.jobs.now a.marks.now a.parameters) _ read in
    rw is (c.fit_site.ensures.judged site (sites_are_valid _ _ _ _ site is) holds)
