-- The three demands hold, and their hypotheses shut nothing out.
-- Assumes nothing.
use mathlib.Core.Path.{◌≡◌, refl, sym, ◌∙◌, ap}
use mathlib.Core.List.{List}
use Prim.Native.Nat.{ℕ}
use native.Mathlib.Omega.{arith}
use lib.ListN.{length}
use Rattle.std.specs.Prelude.{Ok, Err}
use Rattle.model.specs.declared.refusal.Refusal.{Refusal}
use Rattle.model.specs.Outcome.{Outcome, refused, answer}
use Rattle.model.specs.Refusals.{number_of}
use Rattle.model.specs.Sites.{Site, tables_of, site_of, ValidSite}
use Rattle.model.specs.Steps.{shares_of}
use Rattle.model.specs.Checking.{figure_of}
use Rattle.model.specs.Accepted.{Accepted}
use Rattle.model.specs.TwoHalves.{Fits}
use Rattle.model.specs.Demands.{ValidTables, LongEnough}
use Rattle.model.proofs.Sites.{sites_are_valid, sound_site}
use Rattle.model.proofs.LeastEnergy.{plans_are_schedules}
use Rattle.model.proofs.Accepted.{check_accepts, check_read, check_reads}
use Rattle.model.proofs.Demands.{long_enough_decides}
use Rattle.model.proofs.SiteParameters.{levels_altered, jobs_altered}
use Rattle.model.proofs.Hypotheses.{every_valid_table}
use Rattle.model.proofs.RefusalNumbers.{levels_by, jobs_by, marks_by, setting_by, spare_by, walk_by, fits_by, check_by, planning_by}
use Rattle.spare.specs.declared.unmet.NoAnswer.TheVariants.{Overfull, Refused}
use Rattle.planning.specs.PlanAnswers.{PlanAnswer, outcome_of}
use Rattle.planning.proofs.PlanStages.{planned_as}
use Rattle.tasks.specs.Rounds.{Round, rounds, buffer_after}
use Rattle.tasks.proofs.Rounds.{rounds_refuse}
use Rattle.rounds.specs.RoundAnswers.{rounds_answer}
use Rattle.ordering.specs.Ordering.{order, ordered_after}
use Rattle.ordering.specs.OrderAnswers.{order_answer}
use Rattle.ordering.proofs.Ordering.{order_refuses}
use Rattle.spans.specs.Spans.{Touched}
use Rattle.touching.specs.Touching.{Lists, touching, lists_after}
use Rattle.touching.specs.TouchingAnswers.{touching_answer}
use Rattle.touching.proofs.TouchingRefusals.{touching_refuses}
use Rattle.job_rooms.specs.SetOutcomes.{SetOutcome, refusal, overfull, answered}
use Rattle.nearest.specs.Nearest.{nearest, list_after}
use Rattle.nearest.specs.NearestAnswers.{Listed, nearest_job_answer}
use Rattle.nearest.proofs.NearestRefusals.{nearest_refuses}
use Rattle.demands.specs.ThreeDemands.{
  Call,
  PlanComesOut,
  DemandOne,
  SuchAPlan,
  PricesFit,
  DemandTwo,
  NoPlan,
  DemandThree,
  NothingShutOut,
}

-- a refused round leaves the buffer
refused_keeps : (before after : List ℕ) (outcome : Outcome Round) (own : Refusal) → Err own ≡ rounds_answer outcome
    → after ≡ buffer_after outcome before → after ≡ before
refused_keeps before after (refused n p) own told left = left
refused_keeps before after (answer round) own told left = let z : ◌≡◌ {A = ℕ} 0 1 = cc told in absurd (omega (arith, z))

-- a call of ordering that is refused leaves the buffer
unordered_keeps : (before after : List ℕ) (outcome : Outcome (List ℕ)) (own : Refusal) → Err own ≡ order_answer outcome
    → after ≡ ordered_after outcome before → after ≡ before
unordered_keeps before after (refused n p) own told left = left
unordered_keeps before after (answer ordered) own told left = let z : ◌≡◌ {A = ℕ} 0 1 = cc told in absurd (omega (arith, z))

-- a refused call leaves the lists of what touches a span
unlisted_keeps : (before after : Lists) (outcome : Outcome Touched) (own : Refusal) → Err own ≡ touching_answer outcome
    → after ≡ lists_after outcome before → after ≡ before
unlisted_keeps before after (refused n p) own told left = left
unlisted_keeps before after (answer t) own told left = let z : ◌≡◌ {A = ℕ} 0 1 = cc told in absurd (omega (arith, z))

-- a call without a list leaves the list of the jobs with their rooms
without_list : (before after : List ℕ) (outcome : SetOutcome (List ℕ)) → ((size : ℕ) → nearest_job_answer outcome ≡ Listed size → ⊥)
    → after ≡ list_after outcome before → after ≡ before
without_list before after (refusal number place) never left = left
without_list before after (overfull start end spare) never left = left
without_list before after (answered list) never left = absurd (never (length list) refl)

pub demand_one : DemandOne
demand_one =
    record {
      reading_levels = levels_by;
      reading_jobs = jobs_by;
      reading_marks = marks_by;
      setting_one = setting_by;
      spare_of_window = spare_by;
      fitting = fits_by;
      checking = check_by;
      walking = walk_by;
      planning = λ call number place e. planning_by _ _ _ _ _ _ _ number place (sym call.contract.outcome ∙ e);
      changes_nothing = λ call no_plan. call.contract.untouched no_plan;
      laying_out = rounds_refuse;
      lays_out_nothing = λ tasks before after answered contract own is.
          refused_keeps before after (rounds tasks (length before)) own (sym is ∙ contract.answer_is) contract.buffer_is;
      ordering = order_refuses;
      orders_nothing = λ levels jobs marks parameters plan prices before after answered contract own is.
          unordered_keeps before after (order levels jobs marks parameters plan prices (length before)) own (sym is ∙ contract.answer_is) contract.buffer_is;
      touching = touching_refuses;
      touches_nothing = λ jobs marks free margin plan start end before after answered contract own is.
          unlisted_keeps before after (touching jobs marks free margin plan start end before) own (sym is ∙ contract.answer_is) contract.lists_are;
      nearest = nearest_refuses;
      lists_no_rooms = λ levels jobs parameters before after given contract never.
          without_list before after (nearest levels jobs parameters (length before)) (λ size is. never size (contract.answer_is ∙ is)) contract.list_is;
    }

-- a plan that fits is such a plan
pub such_a_plan : {site : Site} → ValidSite site → {plan : List ℕ} → Fits site plan → {figure : ℕ} → figure ≡ figure_of site plan → SuchAPlan site plan figure
such_a_plan {site} valid {plan} fits is =
    record {
      is-plan = fits.is-plan;
      gives = fits.gives;
      carried_out =
          plans_are_schedules site.processor.idle_power site.processor.levels site.jobs (sound_site valid)
          site.bounds valid.bounds (shares_of plan) fits.gives;
      energy-figure = is;
    }

-- an accepted plan fits, and its prices do
module _ {site : Site} {plan prices : List ℕ} (accepted : Accepted site plan prices) where
  plan_fits : Fits site plan
  plan_fits = record { is-plan = accepted.is-plan; gives = accepted.gives }

  prices_fit : PricesFit site plan prices
  prices_fit = record { is_price_list = accepted.is_price_list; fitting = accepted.fitting }

pub demand_two : DemandTwo
demand_two =
    record {
      planner = λ call site tables intervals steps energy is.
          let best = call.contract.best site tables intervals steps energy is in
          such_a_plan (sites_are_valid _ _ _ _ site tables) (plan_fits best.placed_and_priced) best.figure;
      accepts = λ level_bytes job_bytes mark_bytes parameters plan prices figure. (
        λ e.
            let (site, tables, e) = check_reads level_bytes job_bytes mark_bytes parameters plan prices figure e in
            let (accepted, is) = (check_accepts site plan prices figure).0 e in
            record {
              site = site;
              tables = tables;
              such_a_plan = such_a_plan (sites_are_valid _ _ _ _ site tables) (plan_fits accepted) is;
              prices_fit = prices_fit accepted;
            },
        λ acceptable.
            let plans = acceptable.such_a_plan in
            let fits = acceptable.prices_fit in
            check_read level_bytes job_bytes mark_bytes parameters plan prices acceptable.site acceptable.tables
            ∙ (check_accepts acceptable.site plan prices figure).1 (
              record { is-plan = plans.is-plan; gives = plans.gives; is_price_list = fits.is_price_list; fitting = fits.fitting },
              plans.energy-figure,
            ),
      );
    }

pub demand_three : DemandThree
demand_three =
    record {
      exactly_when = λ call. call.contract.exactly_when_served;
      written = λ call site tables intervals steps energy is.
          let best = call.contract.best site tables intervals steps energy is in
          record {
            least = best.least.least;
            placed = such_a_plan (sites_are_valid _ _ _ _ site tables) (plan_fits best.placed_and_priced) best.figure;
            priced = prices_fit best.placed_and_priced;
            smallest = best.smallest;
            checked = check_read _ _ _ _ _ _ site tables ∙ (call.contract.written site tables intervals steps energy is).planned.accepted;
          };
      window_instead = λ call site tables long no_plan. instead call site tables long no_plan call.answered refl;
    }
  where
    instead : (call : Call) (site : Site) → ValidTables call.level_bytes call.job_bytes call.mark_bytes call.parameters site
        → LongEnough site (length call.before.plan) (length call.before.prices) (length call.before.shares)
        → (PlanComesOut call → ⊥) → (answered : PlanAnswer) → call.answered ≡ answered → NoPlan call site
    instead call site tables long no_plan (Ok written) is = absurd (no_plan (ap outcome_of is))
    instead call site tables long no_plan (Err (Overfull start end spare)) is =
        let window = call.contract.window site tables start end spare is in
        record {
          start = start;
          end = end;
          spare = spare;
          window = is;
          needs_more = window.needs_more;
          earliest = window;
          no_schedule = call.contract.never_served site tables start end spare is;
        }
    instead call site tables long no_plan (Err (Refused own)) is =
        absurd ((long_enough_decides site _ _ _ long).no_refusal (number_of own.fault) own.place
        (sym (planned_as _ _ _ _ site tables _ _ _) ∙ sym call.contract.outcome ∙ ap outcome_of is))

pub nothing_shut_out : NothingShutOut
nothing_shut_out =
    record {
      every_call = λ level_bytes job_bytes mark_bytes parameters before after answered contract. (
        record {
          level_bytes = level_bytes;
          job_bytes = job_bytes;
          mark_bytes = mark_bytes;
          parameters = parameters;
          before = before;
          after = after;
          answered = answered;
          contract = contract;
        },
        refl,
        refl,
        refl,
        refl,
        refl,
        refl,
        refl,
      );
      every_table = λ level_bytes job_bytes mark_bytes parameters entries levels jobs altered marks levels_read jobs_read marks_read levels-law jobs-law. (
        site_of (tables_of (record { levels = levels; jobs = altered })) marks,
        every_valid_table level_bytes job_bytes mark_bytes parameters entries levels jobs altered marks levels_read jobs_read marks_read
            ((levels_altered parameters.highest entries levels).1 levels-law) ((jobs_altered parameters.free parameters.margin jobs altered).1 jobs-law),
        refl,
        refl,
        refl,
      );
    }
