-- The check in two halves, over the tables in bytes and the calls themselves.
-- Assumes nothing.
use mathlib.Core.Path.{◌≡◌, sym, ◌∙◌}
use mathlib.Core.List.{List}
use Prim.Native.Nat.{ℕ, ◌+◌, ◌*◌, ◌<◌, ◌≤◌}
use native.Mathlib.Nat.{mul-le-mul_left, mul-lt-mul_of_pos_left}
use native.Mathlib.Omega.{arith}
use Rattle.model.specs.declared.Parameters.{Parameters}
use Rattle.model.specs.Limits.{max_points}
use Rattle.model.specs.Outcome.{Outcome, refused, answer, and_then, From, RefusesBy}
use Rattle.model.specs.Bands.{band_count}
use Rattle.model.specs.Processors.{working_of}
use Rattle.model.specs.Sites.{Site, ValidSite, read_site}
use Rattle.model.specs.Checking.{pricing, figure_of, fits, check}
use Rattle.model.specs.Accepted.{powers_for, exact_for, gaps_of, LeastPlan}
use Rattle.model.specs.Demands.{ValidTables}
use Rattle.model.specs.ChangeLines.{halves_plan, early_plan}
use Rattle.model.proofs.Outcome.{and_then_answered}
use Rattle.model.proofs.Sites.{sites_are_valid}
use Rattle.model.proofs.PricingHalf.{pricing_answered}
use Rattle.model.proofs.Accepted.{check_read, figure_close, accepted_is_least}
use Rattle.model.proofs.TwoHalves.{fits_exactly, fits_read, fits_reads, check_goes_on}
use Rattle.model.proofs.RefusalNumbers.{fits_by, pricing_by, by_answer}
use Rattle.model.proofs.SiteLines.{two_plans_fit}
use Rattle.levels.proofs.SmallPoints.{working_small}
use Rattle.planning.proofs.PlanStages.{plan_read}
use Rattle.demands.specs.TwoHalves.{FittingPlan, FitsAndIsNotLeast, CheckInTwoHalves}
use Rattle.demands.proofs.ThreeDemands.{such_a_plan, demand_three}

module _ (level_bytes job_bytes mark_bytes : List ℕ) (parameters : Parameters) (plan : List ℕ) where
  -- what is answered fits
  fitting_plan : (figure : ℕ) → fits level_bytes job_bytes mark_bytes parameters plan ≡ answer figure → FittingPlan level_bytes job_bytes mark_bytes parameters plan figure
  fitting_plan figure e =
      let (site, tables, e) = fits_reads level_bytes job_bytes mark_bytes parameters plan figure e in
      let (fitting, is) = (fits_exactly site plan figure).0 e in
      let valid = sites_are_valid level_bytes job_bytes mark_bytes parameters site tables in
      let such = such_a_plan valid fitting is in
      let ends = figure_close site valid plan figure is in
      record {
        site = site;
        tables = tables;
        gives = fitting.gives;
        carried_out = such.carried_out;
        such_a_plan = such;
        figure_low = ends.0;
        figure_high = ends.1;
      }

  -- and what fits is answered
  fits_plan : (figure : ℕ) → FittingPlan level_bytes job_bytes mark_bytes parameters plan figure → fits level_bytes job_bytes mark_bytes parameters plan ≡ answer figure
  fits_plan figure fitting =
      let such = fitting.such_a_plan in
      fits_read level_bytes job_bytes mark_bytes parameters plan fitting.site fitting.tables
      ∙ (fits_exactly fitting.site plan figure).1 (record { is-plan = such.is-plan; gives = such.gives }, such.energy-figure)

  module _ (prices : List ℕ) where
    -- what comes after the first half
    abbrev goes_on : (figure : ℕ) → Outcome ℕ
    goes_on figure =
        and_then (read_site level_bytes job_bytes mark_bytes parameters) λ site.
        pricing site plan prices (answer figure)

    runs : check level_bytes job_bytes mark_bytes parameters plan prices ≡ and_then (fits level_bytes job_bytes mark_bytes parameters plan) goes_on
    runs = check_goes_on level_bytes job_bytes mark_bytes parameters plan prices

    refuses_too : (number place : ℕ) → fits level_bytes job_bytes mark_bytes parameters plan ≡ refused number place
        → check level_bytes job_bytes mark_bytes parameters plan prices ≡ refused number place
    refuses_too number place e = runs ∙ rw e

    -- where the plan fits, the prices decide
    continues : (figure : ℕ) → fits level_bytes job_bytes mark_bytes parameters plan ≡ answer figure
        → (site : Site) × (check level_bytes job_bytes mark_bytes parameters plan prices ≡ pricing site plan prices (answer figure))
    continues figure e =
        let (site, tables, answers) = fits_reads level_bytes job_bytes mark_bytes parameters plan figure e in
        (site, runs ∙ rw (e, tables))

    refuses_later : (figure : ℕ) → fits level_bytes job_bytes mark_bytes parameters plan ≡ answer figure
        → RefusesBy (From 21 24) (check level_bytes job_bytes mark_bytes parameters plan prices)
    refuses_later figure e =
        let (site, is) = continues figure e in
        rw is (pricing_by site plan prices (by_answer (From 21 24) figure))

    -- the check answers the figure of the first half
    answers_same : (figure : ℕ) → check level_bytes job_bytes mark_bytes parameters plan prices ≡ answer figure → fits level_bytes job_bytes mark_bytes parameters plan ≡ answer figure
    answers_same figure e =
        let (found, first, then) = and_then_answered (fits level_bytes job_bytes mark_bytes parameters plan) goes_on (sym runs ∙ e) in
        let (site, tables, priced) = and_then_answered (read_site level_bytes job_bytes mark_bytes parameters) _ then in
        first ∙ (pricing_answered site plan prices (answer found) priced).1

    -- an accepted plan is least
    is_least : (figure : ℕ) → check level_bytes job_bytes mark_bytes parameters plan prices ≡ answer figure
        → (site : Site) → ValidTables level_bytes job_bytes mark_bytes parameters site → LeastPlan site plan figure
    is_least figure e site tables =
        accepted_is_least site (sites_are_valid level_bytes job_bytes mark_bytes parameters site tables) plan prices figure
        (sym (check_read level_bytes job_bytes mark_bytes parameters plan prices site tables) ∙ e)

-- Of two plans that fit the same tables, one has a figure that is higher by 9 or more, and so by m or more: then it is not least.
module _ (level_bytes job_bytes mark_bytes : List ℕ) (parameters : Parameters) (one two : List ℕ) (low high : ℕ) (apart : low + max_points ≤ high)
    (one-fits : fits level_bytes job_bytes mark_bytes parameters one ≡ answer low) (two_fits : fits level_bytes job_bytes mark_bytes parameters two ≡ answer high) where
  first : FittingPlan level_bytes job_bytes mark_bytes parameters one low
  first = fitting_plan level_bytes job_bytes mark_bytes parameters one low one-fits

  abbrev site : Site
  site = first.site

  valid : ValidSite site
  valid = sites_are_valid level_bytes job_bytes mark_bytes parameters site first.tables

  bands : band_count (working_of site.processor) ≤ max_points
  bands = omega (arith, (working_small site.processor valid.processor).few)

  two_figure : high ≡ figure_of site two
  two_figure = ((fits_exactly site two high).0 (sym (fits_read level_bytes job_bytes mark_bytes parameters two site first.tables) ∙ two_fits)).1

  dearer : exact_for site one < exact_for site two
  dearer =
      let apart-by-m : low + band_count (working_of site.processor) ≤ high = omega (arith, bands, apart) in
      omega (arith, first.figure_high, mul-le-mul_left (gaps_of site) apart-by-m, (figure_close site valid two high two_figure).0)

  less : gaps_of site * powers_for site first.carried_out.schedule < first.carried_out.schedule.q * exact_for site two
  less =
      let carried = first.carried_out in
      rw carried.energy (mul-lt-mul_of_pos_left dearer carried.schedule.q_low)

  not_least : FitsAndIsNotLeast level_bytes job_bytes mark_bytes parameters two high
  not_least =
      record {
        fitting = two_fits;
        site = site;
        tables = first.tables;
        schedule = first.carried_out.schedule;
        serves = first.carried_out.serves;
        less = less;
        never_accepted = λ prices other e.
            let least = (is_least level_bytes job_bytes mark_bytes parameters two prices other e site first.tables).least in
            omega (arith, less, least first.carried_out.schedule first.carried_out.serves);
      }

pub check_in_two_halves : CheckInTwoHalves
check_in_two_halves =
    record {
      first_refuses = fits_by;
      first_answers = λ level_bytes job_bytes mark_bytes parameters plan figure.
          (fitting_plan level_bytes job_bytes mark_bytes parameters plan figure, fits_plan level_bytes job_bytes mark_bytes parameters plan figure);
      second_runs_it = runs;
      same-refusal = λ level_bytes job_bytes mark_bytes parameters plan number place e prices. refuses_too level_bytes job_bytes mark_bytes parameters plan prices number place e;
      later_refusals = λ level_bytes job_bytes mark_bytes parameters plan figure e prices. refuses_later level_bytes job_bytes mark_bytes parameters plan prices figure e;
      same_figure = answers_same;
      planned = λ call intervals steps energy told.
          let (site, tables) = plan_read call.contract intervals steps energy told in
          answers_same _ _ _ _ _ _ energy (demand_three.written call site tables intervals steps energy told).checked;
      second_is_least = is_least;
      first_is_not = not_least _ _ _ _ halves_plan early_plan 400 1_600 (omega arith) two_plans_fit.1 two_plans_fit.0;
    }
