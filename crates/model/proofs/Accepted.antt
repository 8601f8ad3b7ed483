-- What the check accepts and what acceptance means: it accepts exactly when the plan gives each job its cycles and the prices
-- fit; a site that was read is checked as such; and an accepted plan has least energy.
-- Assumes nothing.
use mathlib.Core.Path.{◌≡◌, ap, sym}
use mathlib.Core.List.{List}
use Prim.Native.Nat.{ℕ, ◌+◌, ◌*◌, ◌<◌, ◌≤◌}
use Rattle.model.specs.declared.Parameters.{Parameters}
use Rattle.model.specs.Outcome.{Outcome, answer}
use Rattle.model.specs.Bands.{band_count}
use Rattle.model.specs.Processors.{all_points, working_of}
use Rattle.model.specs.Sites.{Site, read_site, ValidSite}
use Rattle.model.specs.Steps.{shares_of}
use Rattle.model.specs.PriceBytes.{prices_of}
use Rattle.model.specs.Checking.{pricing, figure_of, check_for, check}
use Rattle.model.specs.Accepted.{CheckAccepts, exact_for, gaps_of, AcceptedIsLeast}
use Rattle.model.proofs.Outcome.{answer_injective, and_then_answered}
use Rattle.model.proofs.Working.{working_curve}
use Rattle.model.proofs.LeastEnergy.{certificate, figure_below_exact}
use Rattle.model.proofs.Sites.{sound_site}
use Rattle.model.proofs.FittingHalf.{fitting_half}
use Rattle.model.proofs.PricingHalf.{pricing_half}

-- T8. Accepted with a figure exactly when the plan gives each job its cycles, the prices fit, and the figure is the plan's.
pub check_accepts : CheckAccepts
unfolding check_for
check_accepts site plan prices figure =
    let accepting : Outcome ℕ = answer (figure_of site plan) in
    let second = pricing_half site plan prices accepting figure in
    let first = fitting_half site plan (pricing site plan prices accepting) figure in (
      λ e.
          let (plan-gives, e) = first.0 e in
          let (prices_fit, e) = (second plan-gives.0).0 e in (
            record { is-plan = plan-gives.0; gives = plan-gives.1; is_price_list = prices_fit.0; fitting = prices_fit.1 },
            sym (answer_injective e),
          ),
      λ h.
          let (accepted, figure_is) = h in
          first.1 (
            (accepted.is-plan, accepted.gives),
            (second accepted.is-plan).1 ((accepted.is_price_list, accepted.fitting), ap answer (sym figure_is)),
          ),
    )

-- once the tables were read, their site is checked
pub check_read : (level_bytes job_bytes mark_bytes : List ℕ) (parameters : Parameters) (plan prices : List ℕ) (site : Site) → read_site level_bytes job_bytes mark_bytes parameters ≡ answer site
    → check level_bytes job_bytes mark_bytes parameters plan prices ≡ check_for site plan prices
unfolding check
check_read level_bytes job_bytes mark_bytes parameters plan prices site read = rw read

-- the check accepts only tables that are read
pub check_reads : (level_bytes job_bytes mark_bytes : List ℕ) (parameters : Parameters) (plan prices : List ℕ) (figure : ℕ) → check level_bytes job_bytes mark_bytes parameters plan prices ≡ answer figure
    → (site : Site) × (read_site level_bytes job_bytes mark_bytes parameters ≡ answer site) × (check_for site plan prices ≡ answer figure)
unfolding check
check_reads level_bytes job_bytes mark_bytes parameters plan prices figure e = and_then_answered (read_site level_bytes job_bytes mark_bytes parameters) _ e

-- the figure of a plan is at most its exact energy, and less than m below it
pub figure_close : (site : Site) → ValidSite site → (plan : List ℕ) (figure : ℕ) → figure ≡ figure_of site plan
    → (gaps_of site * figure ≤ exact_for site plan)
    × (exact_for site plan < gaps_of site * (figure + band_count (working_of site.processor)))
figure_close site valid plan figure is =
    rw is
    (figure_below_exact (working_of site.processor) (working_curve (all_points site.processor) valid.processor.rising)
    site.jobs site.bounds (shares_of plan))

-- An accepted plan has least energy, and the figure lies less than m below it.
pub accepted_is_least : AcceptedIsLeast
accepted_is_least site valid plan prices figure e =
    let (accepted, figure_is) = (check_accepts site plan prices figure).0 e in
    let ends = figure_close site valid plan figure figure_is in
    record {
      least =
          certificate site.processor.idle_power site.processor.levels site.jobs (sound_site valid) site.bounds valid.bounds
          (shares_of plan) accepted.gives (prices_of prices) accepted.fitting;
      figure_low = ends.0;
      figure_high = ends.1;
    }
