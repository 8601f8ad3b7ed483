-- Plans are short, and no site pays energy for it, over the tables in bytes and the calls themselves.
-- Assumes nothing.
use mathlib.Core.Path.{◌≡◌, refl, sym, ◌∙◌, ap}
use mathlib.Core.Bool.{Bool, true, false, cond}
use mathlib.Core.Logic.{inl, inr}
use mathlib.Core.List.{List}
use mathlib.Core.Option.{Option, none, some}
use Prim.Native.Nat.{ℕ, ◌<◌, ◌≤◌}
use native.Mathlib.Nat.{le_of_mul-le-mul_left}
use native.Mathlib.Omega.{arith}
use lib.Dec.{ltb}
use lib.ListN.{length}
use borrow.Author.Tests.{ltb-true, lt-ltb}
use Rattle.model.specs.declared.Parameters.{Parameters}
use Rattle.model.specs.Outcome.{Outcome, refused, answer}
use Rattle.model.specs.Processors.{top_of}
use Rattle.model.specs.Sites.{Site, read_site, SiteNumbers}
use Rattle.model.specs.Windows.{Window, earliest_overfull}
use Rattle.model.specs.Steps.{shares_of}
use Rattle.model.specs.Checking.{figure_of, fits, check}
use Rattle.model.specs.TwoHalves.{Fits}
use Rattle.model.specs.Planning.{
  PlanOutcome,
  refusal,
  comes_out,
  unless_overfull,
  wants,
  step_limit,
  plan_length,
  price_length,
  share_count,
  plan_for,
  planning,
}
use Rattle.model.specs.Demands.{ValidTables}
use Rattle.model.proofs.Sites.{sites_are_valid}
use Rattle.model.proofs.SameShares.{exact_loads, figure_loads}
use Rattle.model.proofs.StepLimit.{limit_pairs, limit_jobs, limit_none, length_none, length_pairs}
use Rattle.model.proofs.Accepted.{check_accepts, check_read}
use Rattle.model.proofs.TwoHalves.{fits_exactly, fits_read}
use Rattle.model.proofs.RefusalNumbers.{site_by}
use Rattle.planning.specs.PlanAnswers.{Plan, Refused, outcome_of}
use Rattle.planning.proofs.PlanStages.{planned_as}
use Rattle.demands.specs.ThreeDemands.{Call}
use Rattle.demands.specs.ShortPlans.{FewSteps, NoEnergyPaid, SameLoads, SameEnergyAndPrices, WantedLength, ShortBuffer, ShortPlans}
use Rattle.demands.proofs.ThreeDemands.{such_a_plan}
use Rattle.demands.proofs.SameLoads.{same_loads_fit}
use Rattle.demands.proofs.PlanRefusals.{refused_answer}

-- a plan that came out
module _ (call : Call) (site : Site) (tables : ValidTables call.level_bytes call.job_bytes call.mark_bytes call.parameters site)
    (intervals steps energy : ℕ) (told : call.answered ≡ Plan intervals steps energy) where
  few : FewSteps call site steps
  few =
      let planned = (call.contract.written site tables intervals steps energy told).planned in
      record {
        written = planned.step_count_is;
        size = planned.plan_size;
        with_a_job = λ job. omega (arith, planned.few, limit_jobs site job);
        without_jobs = λ no-job. omega (arith, planned.few, limit_none site no-job);
        open-pairs = omega (arith, planned.few, limit_pairs site);
      }

  -- a plan that fits is itself a schedule, of equal exact energy, and no schedule has less
  paid : NoEnergyPaid call site steps energy
  paid =
      let best = call.contract.best site tables intervals steps energy told in
      record {
        least = best.least;
        no_plan_less = λ other figure e.
            let (fitting, is) = (fits_exactly site other figure).0 (sym (fits_read _ _ _ _ other site tables) ∙ e) in
            let carried = (such_a_plan (sites_are_valid _ _ _ _ site tables) fitting is).carried_out in
            le_of_mul-le-mul_left {k = carried.schedule.q}
            (omega (arith, carried.energy, best.least.least carried.schedule carried.serves)) carried.schedule.q_low;
      }

-- two plans that fit with the same loads
module _ (levels jobs marks : List ℕ) (parameters : Parameters) (site : Site) (tables : ValidTables levels jobs marks parameters site) where
  accepted_too : (one two : List ℕ) → Fits site two → SameLoads site one two → (list : List ℕ) (energy : ℕ)
      → check levels jobs marks parameters one list ≡ answer energy → check levels jobs marks parameters two list ≡ answer energy
  accepted_too one two fitting same list energy e =
      let (accepted, is) = (check_accepts site one list energy).0 (sym (check_read levels jobs marks parameters one list site tables) ∙ e) in
      check_read levels jobs marks parameters two list site tables
      ∙ (check_accepts site two list energy).1 (
        record {
          is-plan = fitting.is-plan;
          gives = fitting.gives;
          is_price_list = accepted.is_price_list;
          fitting = same_loads_fit (sites_are_valid levels jobs marks parameters site tables) accepted.gives fitting.gives same accepted.fitting;
        },
        is ∙ sym (figure_loads site.jobs site.bounds (shares_of one) (shares_of two) same _),
      )

  same : (one two : List ℕ) (figure other_figure : ℕ)
      → fits levels jobs marks parameters one ≡ answer figure → fits levels jobs marks parameters two ≡ answer other_figure
      → SameLoads site one two → SameEnergyAndPrices levels jobs marks parameters site one two
  same one two figure other_figure one-fits two_fits loads =
      let (first, is) = (fits_exactly site one figure).0 (sym (fits_read levels jobs marks parameters one site tables) ∙ one-fits) in
      let (second, other) = (fits_exactly site two other_figure).0 (sym (fits_read levels jobs marks parameters two site tables) ∙ two_fits) in
      let figures : figure_of site two ≡ figure_of site one = figure_loads site.jobs site.bounds (shares_of one) (shares_of two) loads _ in
      record {
        exact-energy = exact_loads site.jobs site.bounds (shares_of one) (shares_of two) loads _;
        figure = two_fits ∙ ap answer (other ∙ figures ∙ sym is) ∙ sym one-fits;
        prices = λ list energy. (
          accepted_too one two second loads list energy,
          accepted_too two one first (λ i inside. sym (loads i inside)) list energy,
        );
      }

wanted_length : (site : Site) → WantedLength site
unfolding step_limit
wanted_length site = record { with_a_job = λ job. refl; without_jobs = length_none site }

-- a buffer's own refusal
own_refusal : (number wanted room : ℕ) (next : PlanOutcome) (place : ℕ) → ((other : ℕ) → next ≡ refusal number other → ⊥)
    → wants number wanted room next ≡ refusal number place → (place ≡ wanted) × (room < wanted)
own_refusal number wanted room next place never e = go (ltb room wanted) (ltb-true room wanted) e
  where
    go : (short : Bool) → (short ≡ true → room < wanted) → cond short (refusal number wanted) next ≡ refusal number place
        → (place ≡ wanted) × (room < wanted)
    go true less e = (cc e, less refl)
    go false less e = absurd (never place e)

-- no other buffer refuses by it
not_other : (own number wanted room : ℕ) (next : PlanOutcome) (place : ℕ) → (own ≡ number → ⊥) → (next ≡ refusal number place → ⊥)
    → wants own wanted room next ≡ refusal number place → ⊥
not_other own number wanted room next place other never = go (ltb room wanted)
  where
    go : (short : Bool) → cond short (refusal own wanted) next ≡ refusal number place → ⊥
    go true e = other (cc e)
    go false e = never e

module _ (site : Site) (plan_room price_room share_room place : ℕ) where
  -- what 13 and 14 leave
  abbrev rest : PlanOutcome
  rest = wants 13 (price_length site) price_room (wants 14 (share_count site) share_room comes_out)

  rest_never : (other : ℕ) → rest ≡ refusal 12 other → ⊥
  rest_never other =
      not_other 13 12 (price_length site) price_room _ other (λ e. omega arith)
      (not_other 14 12 (share_count site) share_room comes_out other (λ e. omega arith)
      (λ e. let z : ◌≡◌ {A = ℕ} 0 1 = cc e in omega arith))

  refused_12 : plan_for site plan_room price_room share_room ≡ refusal 12 place
      → (earliest_overfull (top_of site.processor) site.jobs ≡ none) × (place ≡ plan_length site) × (plan_room < plan_length site)
  unfolding plan_for
  refused_12 e = go (earliest_overfull (top_of site.processor) site.jobs) e
    where
      go : (found : Option Window) → unless_overfull site found (wants 12 (plan_length site) plan_room rest) ≡ refusal 12 place
          → (found ≡ none) × (place ≡ plan_length site) × (plan_room < plan_length site)
      go none e = let (is, short) = own_refusal 12 (plan_length site) plan_room rest place rest_never e in (refl, is, short)
      go (some window) e = let z : ◌≡◌ {A = ℕ} 0 1 = cc e in absurd (omega (arith, z))

  refuses_12 : earliest_overfull (top_of site.processor) site.jobs ≡ none → place ≡ plan_length site → plan_room < place
      → plan_for site plan_room price_room share_room ≡ refusal 12 place
  unfolding plan_for
  refuses_12 fits is short = rw (fits, ← is, lt-ltb plan_room place short)

-- reading has no refusal 12
not_of_reading : SiteNumbers 12 → ⊥
not_of_reading (inl (inl few)) = omega arith
not_of_reading (inl (inr many)) = omega arith
not_of_reading (inr many) = omega arith

module _ (call : Call) (place : ℕ) where
  short_buffer : call.answered ≡ Refused 12 place → ShortBuffer call place
  unfolding planning
  short_buffer told = go (read_site call.level_bytes call.job_bytes call.mark_bytes call.parameters) refl
    where
      go : (read : Outcome Site) → read_site call.level_bytes call.job_bytes call.mark_bytes call.parameters ≡ read → ShortBuffer call place
      go (refused number at) is =
          let own : number ≡ 12 = cc (rw is at call.contract.outcome) in
          absurd (not_of_reading (rw own at (site_by call.level_bytes call.job_bytes call.mark_bytes call.parameters number at is)))
      go (answer site) is =
          let (fits, place_is, short) = refused_12 site _ _ _ place
          (sym (planned_as _ _ _ _ site is _ _ _) ∙ sym call.contract.outcome ∙ ap outcome_of told) in
          record { site = site; tables = is; not_overfull = fits; place_is = place_is; short = rw place_is short }

  buffer_short : ShortBuffer call place → call.answered ≡ Refused 12 place
  buffer_short buffer =
      refused_answer call.answered 12 place
      (call.contract.outcome ∙ planned_as _ _ _ _ buffer.site buffer.tables _ _ _
      ∙ refuses_12 buffer.site _ _ _ place buffer.not_overfull buffer.place_is buffer.short)

-- what was enough before is enough
enough_before : (call : Call) (site : Site) → ValidTables call.level_bytes call.job_bytes call.mark_bytes call.parameters site
    → plan_length site ≤ length call.before.plan → (place : ℕ) → call.answered ≡ Refused 12 place → ⊥
enough_before call site tables room place told =
    let (_, place_is, short) = refused_12 site _ _ _ place
    (sym (planned_as _ _ _ _ site tables _ _ _) ∙ sym call.contract.outcome ∙ ap outcome_of told) in
    omega arith

pub short_plans : ShortPlans
short_plans =
    record {
      few_steps = few;
      no_energy_paid = paid;
      same_loads = same;
      wanted = wanted_length;
      refusal_12 = λ call place. (short_buffer call place, buffer_short call place);
      as_before = λ call site tables room. enough_before call site tables (omega (arith, length_pairs site));
    }
