-- `first_half::fit_site` meets its contract. Each way out rests on the verdict that led there, by the laws of proofs/FirstHalf.antt.
-- Assumes nothing.
use mathlib.Core.Path.{ap}
use Rattle.std.specs.Prelude.{is_ok}
use Rattle.std.proofs.lemmas.Result.{err_from_is_err_and}
use Rattle.site.proofs.HeldSites.{held_count, held_small, held_top, held_bounds_small}
use Rattle.fitting.proofs.Verdicts.{refused_passes}
use Rattle.audit.proofs.FirstHalf.{plan_refused, plan_fits, site_left}
use Rattle.audit.proofs.first_half.fit_site.Goals as goal

pub fit-requires : goal.fit-requires
fit-requires c =
    let (site, valid, holds) = c.requires.holds_some in
    record { top_le_max_frequency = (held_top valid holds, held_count valid holds, held_bounds_small valid holds); no_jobs = c.requires.no_jobs }

pub returns-in_err-fit : goal.returns-in_err-fit
returns-in_err-fit c =
    let told = err_from_is_err_and c.from_residual.result c.from_residual.ensures.1 in
    record {
      judged = λ site valid holds. rw (told.1, told.2) (plan_refused valid holds _ _ _ _ _ c.fit.ensures _ c.in_err-fit.was);
      left = rw told.1 refused_passes;
      seen = rw told.1 refused_passes;
    }

pub energy_figure-requires : goal.energy_figure-requires
energy_figure-requires c =
    let (site, valid, holds) = c.requires.holds_some in
    record { small_points = held_small valid holds; small_bounds = held_bounds_small valid holds }

pub returns : goal.returns
returns c =
    let fitted = c.fit.ensures in
    let passes = c.in_ok-fit.was in
    record {
      judged = λ site valid holds. plan_fits valid holds _ _ _ _ _ fitted passes _ c.energy_figure.ensures;
      left = λ fits site valid holds. site_left valid holds _ _ _ _ _ fitted passes;
      seen = λ fits. fitted.seen (ap is_ok passes);
    }
