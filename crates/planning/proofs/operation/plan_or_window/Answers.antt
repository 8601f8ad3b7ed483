-- `operation::plan_or_window` meets its contract: the window that is found, or what `plan_fitting` keeps (proofs/PlanStages.antt).
-- Assumes nothing.
use mathlib.Core.Path.{sym, ◌∙◌}
use native.Mathlib.Omega.{arith}
use mir.Syntax.{w64}
use mir.Val.{SFits}
use mir.Facts.{to_z-of_z}
use borrow.Author.Rules.{rules}
use Rattle.site.proofs.HeldSites.{held_jobs, held_top}
use Rattle.windows.proofs.Answers.{fits_none, window_inside}
use Rattle.planning.proofs.SiteArrays.{test_arrays}
use Rattle.planning.proofs.PlanStages.{window_found}
use Rattle.planning.proofs.operation.plan_or_window.Goals as goal

pub earliest_overfull-test-requires : goal.earliest_overfull-test-requires
earliest_overfull-test-requires c =
    let (site, held, holds) = c.requires in
    record {
      by_index = (site.jobs, site.bounds, test_arrays held _ c.interval_count-intervals.ensures);
      top_le_max_frequency = held_top held.valid holds;
    }

-- the window that is found lies inside the horizon
pub window_spare-spare-requires : goal.window_spare-spare-requires
window_spare-spare-requires c =
    let (site, held, holds) = c.requires in
    let tested = c.earliest_overfull-test.ensures _ _ (test_arrays held _ c.interval_count-intervals.ensures) in
    let inside = window_inside _ _ _ held.valid.jobs (sym tested.found_is ∙ c.in-Some.is) in
    record { valid_jobs = held_jobs held.valid holds; top_le_max_frequency = (held_top held.valid holds, inside.0, inside.1) }

pub overflow_cast-result : goal.overflow_cast-result
overflow_cast-result c =
    let (site, held, holds) = c.requires in
    let tested = c.earliest_overfull-test.ensures _ _ (test_arrays held _ c.interval_count-intervals.ensures) in
    let inside = window_inside _ _ _ held.valid.jobs (sym tested.found_is ∙ c.in-Some.is) in
    record { fits = omega (arith, inside) }

pub overflow_cast-result-in-Some : goal.overflow_cast-result-in-Some
overflow_cast-result-in-Some c =
    let (site, held, holds) = c.requires in
    let tested = c.earliest_overfull-test.ensures _ _ (test_arrays held _ c.interval_count-intervals.ensures) in
    let inside = window_inside _ _ _ held.valid.jobs (sym tested.found_is ∙ c.in-Some.is) in
    record { fits = omega (arith, inside) }

-- where no window is found the site fits
pub plan_fitting-requires : goal.plan_fitting-requires
plan_fitting-requires c =
    let (site, held, holds) = c.requires in
    let tested = c.earliest_overfull-test.ensures _ _ (test_arrays held _ c.interval_count-intervals.ensures) in
    (site, record { in_arrays = held; fits = rw (← holds.top_is) (fits_none _ (sym tested.found_is ∙ c.in_default.is)) })

pub returns-in-Some : goal.returns-in-Some
returns-in-Some c = λ site held holds.
    let tested = c.earliest_overfull-test.ensures _ _ (test_arrays held _ c.interval_count-intervals.ensures) in
    let fits : SFits w64 c.window_spare-spare.result = search rules in
    window_found site _ _ _ (sym holds.top_is) (sym tested.found_is ∙ c.in-Some.is)
    _ (to_z-of_z fits ∙ rw holds.jobs_are at c.window_spare-spare.ensures)

pub returns : goal.returns
returns c = λ site held holds.
    let tested = c.earliest_overfull-test.ensures _ _ (test_arrays held _ c.interval_count-intervals.ensures) in
    c.plan_fitting.ensures site
    (record { in_arrays = held; fits = rw (← holds.top_is) (fits_none _ (sym tested.found_is ∙ c.in_default.is)) })
