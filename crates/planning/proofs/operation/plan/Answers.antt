-- `operation::plan` meets its contract: a site is refused as reading refuses it, and what holds of planning the site that was
-- read is the whole promise (proofs/PlanStages.antt). Assumes nothing.
use Rattle.std.proofs.lemmas.Result.{err_from_is_err_and}
use Rattle.model.proofs.Refusals.{returns_refused, returns_answered}
use Rattle.model.proofs.Sites.{sites_are_valid}
use Rattle.planning.proofs.PlanStages.{refused_contract, site_contract}
use Rattle.planning.proofs.operation.plan.Goals as goal

pub plan_site-requires : goal.plan_site-requires
plan_site-requires c =
    let (site, is, holds) = returns_answered _ _ _ c.in_ok-site.ensures in
    (site, sites_are_valid _ _ _ _ site is, holds)

pub returns-in_err-site : goal.returns-in_err-site
returns-in_err-site c =
    let passed = err_from_is_err_and c.from_residual.result c.from_residual.ensures.1 in
    rw (passed.1, passed.2) (refused_contract _ _ _ _ _ _ (returns_refused _ _ _ c.in_err-site.ensures))

pub returns : goal.returns
returns c =
    let (site, is, holds) = returns_answered _ _ _ c.in_ok-site.ensures in
    site_contract _ _ _ _ site is (c.plan_site.ensures site (sites_are_valid _ _ _ _ site is) holds)
