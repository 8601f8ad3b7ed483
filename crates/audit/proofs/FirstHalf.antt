-- The first half of the check over a site that was read, one law for each way out of the code: what the verdict says of the answer,
-- that the figure is the plan's, and what is left for the second half.
-- Assumes nothing.
use mathlib.Core.Path.{◌≡◌, sym, ◌∙◌, ap}
use mathlib.Core.Bool.{false}
use mathlib.Core.List.{List}
use Prim.Native.Nat.{ℕ, ◌-◌, ◌<◌}
use native.Mathlib.Omega.{arith}
use lib.ListN.{length, get_or, take}
use Rattle.std.specs.Prelude.{Result, Ok, Err}
use Rattle.model.specs.declared.Job.{Job}
use Rattle.model.specs.declared.refusal.Refusal.{Refusal}
use Rattle.model.specs.Limits.{max_bounds}
use Rattle.model.specs.Outcome.{Outcome, answer}
use Rattle.model.specs.Processors.{working_of}
use Rattle.model.specs.Intervals.{interval_count}
use Rattle.model.specs.Sites.{Site, ValidSite}
use Rattle.model.specs.Plans.{load}
use Rattle.model.specs.Steps.{wrong_plan_length, shares_of}
use Rattle.model.specs.Checking.{fitting, figure_of, fits_for}
use Rattle.model.specs.Accepted.{IsPlan}
use Rattle.model.proofs.Entries.{list_of_cong, list_of_get_d}
use Rattle.model.proofs.Faults.{plan-length}
use Rattle.model.proofs.FittingHalf.{fitting_answered, after_fitting}
use Rattle.model.proofs.Refusals.{refused_returned}
use Rattle.reading.proofs.Column.{column_at}
use Rattle.job_tables.specs.Tables.{jobs_in}
use Rattle.job_tables.proofs.Read.{length_jobs_in}
use Rattle.levels.specs.PointTables.{points_of}
use Rattle.site.specs.declared.SiteTable.{SiteTable}
use Rattle.site.specs.SiteTables.{HoldsSite}
use Rattle.site.proofs.HeldSites.{held_jobs_counted, held_count, held_points, held_small, held_curve, held_bounds, held_bounds_small}
use Rattle.energy.specs.Figures.{figure_of_loads}
use Rattle.energy.proofs.Figures.{figure_of_plan}
use Rattle.fitting.specs.Verdicts.{verdict_of, passed}
use Rattle.fitting.specs.FirstHalf.{bounds_in, Fitted}
use Rattle.fitting.proofs.Verdicts.{Both, both_refused, both_passed}
use Rattle.fitting.proofs.FirstHalf.{are_loads, load_at}
use Rattle.audit.specs.Answers.{fits_answer}
use Rattle.audit.specs.Halves.{FittedSite}

-- the first half, and then whatever is next
fitting_both : {B : Type 0} (site : Site) (plan : List ℕ) (next : Outcome B) → Both (fitting site plan passed) next (fitting site plan next)
fitting_both site plan next = record { is = sym (after_fitting site plan (λ _. next) passed) }

module _ {site : Site} {table : SiteTable} {releases deadlines cycles times : List ℕ}
    (valid : ValidSite site) (holds : HoldsSite site table releases deadlines cycles times) (plan : List ℕ) where
  abbrev jobs : List Job
  jobs = jobs_in table.jobs releases deadlines cycles

  -- the site as the arrays have it
  bounds-in : bounds_in table.bounds times ≡ site.bounds
  unfolding bounds_in
  bounds-in =
      rw (holds.bounds_are.counted, holds.bounds_are.array)
      (list_of_cong (length site.bounds) _ (λ i. get_or site.bounds i 0)
      (λ i below. column_at max_bounds (λ i. get_or site.bounds i 0) (length site.bounds) i (omega (arith, valid.few_bounds)) below)
      ∙ list_of_get_d site.bounds 0)

  module _ (verdict : Result (Unit {0}) Refusal) (sets loads cells : List ℕ) (fitted : Fitted table.top jobs times table.bounds plan verdict sets loads cells) where
    judged : verdict ≡ verdict_of (fitting site plan passed)
    judged = rw (holds.jobs_are, bounds-in) at (fitted.judged site.processor (sym holds.top_is))

    pub plan_refused : (own : Refusal) → verdict ≡ Err own → Err own ≡ fits_answer (fits_for site plan)
    unfolding fits_for
    plan_refused own e =
        refused_returned _ (both_refused (fitting site plan passed) _ (fitting_both site plan (answer (figure_of site plan))) own (sym judged ∙ e))

    module _ (passes : verdict ≡ Ok tt) where
      past : {B : Type 0} (next : Outcome B) → fitting site plan next ≡ next
      past next = both_passed (fitting site plan passed) _ (fitting_both site plan next) (sym judged ∙ passes)

      is-plan : IsPlan site.jobs site.bounds plan
      is-plan = (fitting_answered site plan passed (past passed)).0.0

      right : wrong_plan_length plan ≡ false
      right = (plan-length plan).1 is-plan.size

      intervals : interval_count site.bounds ≡ table.bounds - 1
      intervals = rw holds.bounds_are.counted

      loaded_at : (i : ℕ) → i < interval_count site.bounds → get_or loads i 0 ≡ load site.jobs (shares_of plan) i
      loaded_at i below = rw fitted.added (load_at plan right site.jobs is-plan.step_job i (omega (arith, valid.few_bounds)))

      -- the figure over the loads is the plan's
      pub plan_fits : (figure : ℕ) → figure ≡ figure_of_loads (points_of table.working) (take table.bounds times) loads
          → Ok figure ≡ fits_answer (fits_for site plan)
      unfolding fits_for
      plan_fits figure figured =
          rw (past (answer (figure_of site plan)))
          (ap Ok (figured
          ∙ rw (held_points valid holds, held_bounds valid holds)
          (figure_of_plan (working_of site.processor) site.jobs site.bounds loads (shares_of plan) loaded_at)))

      pub site_left : FittedSite site plan table times sets loads
      site_left =
          record {
            points = sym (held_points valid holds);
            small-points = held_small valid holds;
            curve = held_curve valid holds;
            small-bounds = held_bounds_small valid holds;
            few_jobs = held_count valid holds;
            counted = sym (held_jobs_counted valid holds);
            same_site = rw bounds-in;
            opened = rw (length_jobs_in table.jobs releases deadlines cycles, holds.jobs_are) at fitted.opened;
            planned = record {
              size = is-plan.size;
              step_interval = λ s below. rw intervals at (is-plan.step_interval s below);
              step_job = λ s below. rw (← held_jobs_counted valid holds) at (is-plan.step_job s below);
              loaded = fitted.added ∙ are_loads plan right;
            };
          }
