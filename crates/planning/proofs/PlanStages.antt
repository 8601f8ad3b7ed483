-- Planning a site, one law for each way out, and that what is kept of it is planning's whole contract.
-- Assumes nothing.
use mathlib.Core.Path.{◌≡◌, refl, sym, ◌∙◌, ap}
use mathlib.Core.Bool.{true, false}
use mathlib.Core.Logic.{◌⊎◌, inl, inr}
use mathlib.Core.List.{List}
use mathlib.Core.Option.{none, some}
use Prim.Native.Nat.{ℕ, ◌<◌, ◌≤◌}
use native.Mathlib.Omega.{arith}
use lib.ListN.{length}
use lib.IntN.{ℤ}
use lib.Dec.{ltb}
use borrow.Author.Tests.{lt-ltb, le-ltb, ltb-true, ltb-false}
use Rattle.std.specs.Prelude.{Some, Result, Ok, Err, cond}
use Rattle.model.specs.declared.Parameters.{Parameters}
use Rattle.model.specs.declared.refusal.Refusal.{Refusal}
use Rattle.model.specs.Outcome.{Outcome, refused, answer}
use Rattle.model.specs.Refusals.{number_of, refusal as refusal_at}
use Rattle.model.specs.Processors.{top_of}
use Rattle.model.specs.Sites.{Site, read_site}
use Rattle.model.specs.Windows.{spare_of, earliest_overfull}
use Rattle.model.specs.Planning.{comes_out, refusal, plan_length, price_length, share_count, plan_for, planning}
use Rattle.model.specs.Demands.{ValidTables, LongEnough, CanBeServed}
use Rattle.model.proofs.Numbers.{true_or_false}
use Rattle.model.proofs.Outcome.{refused≢answer, answer_injective}
use Rattle.model.proofs.Refusals.{err≢ok, number_numbered, RefusedBy}
use Rattle.model.proofs.RefusalNumbers.{site_by}
use Rattle.model.proofs.Sites.{sites_are_valid}
use Rattle.model.proofs.Demands.{planned_is_best, window_comes_out, window_never_served, served_comes_out}
use Rattle.windows.specs.declared.overfull.Window.{Window}
use Rattle.windows.specs.Answers.{overfull_answer}
use Rattle.windows.proofs.Answers.{window_is}
use Rattle.spare.specs.declared.unmet.NoAnswer.TheVariants.{Overfull as OverfullWindow, Refused as RefusedFor}
use Rattle.planning.specs.declared.operation.WrittenPlan.{WrittenPlan}
use Rattle.planning.specs.MadePlans.{Buffers, Written, MadePlan}
use Rattle.planning.specs.PlanAnswers.{PlanAnswer, Plan, Overfull, Refused, outcome_of, SitePlanned, PlanContract}

-- What the test of one buffer's length says.
module _ {wanted room : ℕ} (own : Refusal) (tested : Result (Unit {0}) Refusal) (by : tested ≡ cond (ltb room wanted) (Err own) (Ok tt)) where
  -- refused, the buffer is too short
  pub short_room : (told : Refusal) → tested ≡ Err told → (room < wanted) × (told ≡ own)
  short_room told e = go (true_or_false (ltb room wanted))
    where
      go : (ltb room wanted ≡ true) ⊎ (ltb room wanted ≡ false) → (room < wanted) × (told ≡ own)
      go (inl short) = (ltb-true room wanted short, cc (sym e ∙ (rw short at by)))
      go (inr enough) = absurd (err≢ok (sym e ∙ (rw enough at by)))

  -- passed, it is long enough
  pub enough_room : (told : Unit {0}) → tested ≡ Ok told → wanted ≤ room
  enough_room told e = go (true_or_false (ltb room wanted))
    where
      go : (ltb room wanted ≡ true) ⊎ (ltb room wanted ≡ false) → wanted ≤ room
      go (inl short) = absurd (err≢ok (sym (rw short at by) ∙ e))
      go (inr enough) = ltb-false room wanted enough

module _ (site : Site) (lent : Buffers) where
  refused_here : (own : Refusal)
      → plan_for site (length lent.plan) (length lent.prices) (length lent.shares) ≡ refusal (number_of own.fault) own.place
      → SitePlanned site lent lent (Err (RefusedFor own))
  refused_here own e = record { outcome = sym e; untouched = λ _. refl; written = λ intervals steps energy same. absurd (err≢ok same) }

  pub window_found : (top : ℕ) (window : Window) → top_of site.processor ≡ top → overfull_answer (earliest_overfull top site.jobs) ≡ Some window
      → (spare : ℤ) → spare ≡ spare_of top site.jobs window.start window.end → SitePlanned site lent lent (Overfull window.start window.end spare)
  unfolding plan_for
  window_found top window is-top e spare is =
      record {
        outcome =
            let found : earliest_overfull (top_of site.processor) site.jobs ≡ some (record { start = window.start; end = window.end }) =
            rw is-top (window_is (earliest_overfull top site.jobs) window e) in
            rw (found, is-top, is);
        untouched = λ _. refl;
        written = λ intervals steps energy same. absurd (err≢ok same);
      }

  -- where no window is overfull
  module _ (fits : earliest_overfull (top_of site.processor) site.jobs ≡ none) where
    pub plan_short : (place : ℕ) → place ≡ plan_length site → length lent.plan < place → SitePlanned site lent lent (Refused 12 place)
    unfolding plan_for
    plan_short place is short = refused_here (refusal_at 12 place) (rw (fits, ← is, lt-ltb _ _ short))

    module _ (plan_fits : plan_length site ≤ length lent.plan) where
      pub prices_short : (place : ℕ) → place ≡ price_length site → length lent.prices < place → SitePlanned site lent lent (Refused 13 place)
      unfolding plan_for
      prices_short place is short = refused_here (refusal_at 13 place) (rw (fits, le-ltb _ _ plan_fits, ← is, lt-ltb _ _ short))

      pub shares_short : price_length site ≤ length lent.prices → (place : ℕ) → place ≡ share_count site → length lent.shares < place
          → SitePlanned site lent lent (Refused 14 place)
      unfolding plan_for
      shares_short prices_fit place is short =
          refused_here (refusal_at 14 place) (rw (fits, le-ltb _ _ plan_fits, le-ltb _ _ prices_fit, ← is, lt-ltb _ _ short))

    pub plan_made : LongEnough site (length lent.plan) (length lent.prices) (length lent.shares)
        → (intervals steps energy : ℕ) (after : Buffers) → MadePlan site intervals steps energy lent after
        → SitePlanned site lent after (Plan intervals steps energy)
    unfolding plan_for
    plan_made long intervals steps energy after made =
        record {
          outcome = rw (fits, le-ltb _ _ long.plan-room, le-ltb _ _ long.price-room, le-ltb _ _ long.share-room);
          untouched = λ no_plan. absurd (no_plan refl);
          written = λ intervals' steps' energy' same. as_written (record { intervals = intervals'; steps = steps'; energy = energy' }) same;
        }
      where
        as_written : (other : WrittenPlan) → Plan intervals steps energy ≡ Ok other → Written site other.intervals other.steps other.energy lent after
        as_written other same = let is : record { intervals = intervals; steps = steps; energy = energy } ≡ other = cc same in rw (← is) made.written

-- a site that is refused
pub refused_contract : (level_bytes job_bytes mark_bytes : List ℕ) (parameters : Parameters) (lent : Buffers) (own : Refusal)
    → RefusedBy (read_site level_bytes job_bytes mark_bytes parameters) own
    → PlanContract level_bytes job_bytes mark_bytes parameters lent lent (Err (RefusedFor own))
unfolding planning
refused_contract level_bytes job_bytes mark_bytes parameters lent own by =
    record {
      outcome = rw (by.own_is, by.outcome_is, number_numbered by.number (omega (arith, site_by level_bytes job_bytes mark_bytes parameters by.number by.place by.outcome_is)));
      untouched = λ _. refl;
      written = λ site tables. never tables;
      best = λ site tables. never tables;
      window = λ site tables. never tables;
      never_served = λ site tables. never tables;
      exactly_when_served = λ site tables. never tables;
    }
  where
    never : {site : Site} {A : Type 0} → ValidTables level_bytes job_bytes mark_bytes parameters site → A
    never tables = absurd (refused≢answer (sym by.outcome_is ∙ tables))

-- what holds of planning the site that was read is the whole promise
module _ (level_bytes job_bytes mark_bytes : List ℕ) (parameters : Parameters) (site : Site) (read : read_site level_bytes job_bytes mark_bytes parameters ≡ answer site) where
  pub planned_as : (plan_room price_room share_room : ℕ) → planning level_bytes job_bytes mark_bytes parameters plan_room price_room share_room ≡ plan_for site plan_room price_room share_room
  unfolding planning
  planned_as plan_room price_room share_room = rw read

  module _ {before after : Buffers} {answered : PlanAnswer} (planned : SitePlanned site before after answered) where
    -- every site that the tables are read as is this one
    for_each : (P : Site → Type 0) → P site → (other : Site) → ValidTables level_bytes job_bytes mark_bytes parameters other → P other
    for_each P holds other tables = rw (answer_injective (sym read ∙ tables)) at holds

    served : (a : PlanAnswer) → answered ≡ a → outcome_of a ≡ comes_out → CanBeServed site
    served (Ok made) is e =
        let carried = (planned_is_best site (sites_are_valid _ _ _ _ site read) _ _ _ _ _ _ (planned.written made.intervals made.steps made.energy is).planned).carried_out in
        (carried.schedule, carried.serves)
    served (Err (OverfullWindow start end spare)) is e = let z : ◌≡◌ {A = ℕ} 0 1 = cc e in absurd (omega (arith, z))
    served (Err (RefusedFor own)) is e = let z : ◌≡◌ {A = ℕ} 0 1 = cc e in absurd (omega (arith, z))

    pub site_contract : PlanContract level_bytes job_bytes mark_bytes parameters before after answered
    site_contract =
        let valid = sites_are_valid level_bytes job_bytes mark_bytes parameters site read in
        record {
          outcome = planned.outcome ∙ sym (planned_as _ _ _);
          untouched = planned.untouched;
          written = for_each _ planned.written;
          best = for_each _ (λ intervals steps energy is.
              planned_is_best site valid _ _ _ _ _ _ (planned.written intervals steps energy is).planned);
          window = for_each _ (λ start end spare is.
              (window_comes_out site valid _ _ _ start end spare).0 (sym planned.outcome ∙ ap outcome_of is));
          never_served = for_each _ (λ start end spare is.
              let window = (window_comes_out site valid _ _ _ start end spare).0 (sym planned.outcome ∙ ap outcome_of is) in
              window_never_served site valid start end window.needs_more);
          exactly_when_served = for_each _ (λ long. (
            served answered refl,
            λ can. planned.outcome ∙ served_comes_out site valid _ _ _ long can,
          ));
        }

-- what holds of a call says that a site was read where nothing is refused, and so where a plan comes out
module _ {level_bytes job_bytes mark_bytes : List ℕ} {parameters : Parameters} {before after : Buffers} {answered : PlanAnswer}
    (contract : PlanContract level_bytes job_bytes mark_bytes parameters before after answered) where
  pub site_planned : ((number place : ℕ) → outcome_of answered ≡ refusal number place → ⊥) → (site : Site) × (read_site level_bytes job_bytes mark_bytes parameters ≡ answer site)
  unfolding planning
  site_planned never = go (read_site level_bytes job_bytes mark_bytes parameters) refl
    where
      go : (outcome : Outcome Site) → read_site level_bytes job_bytes mark_bytes parameters ≡ outcome → (site : Site) × (read_site level_bytes job_bytes mark_bytes parameters ≡ answer site)
      go (refused number place) is = absurd (never number place (rw is at contract.outcome))
      go (answer site) is = (site, is)

  pub plan_read : (intervals steps energy : ℕ) → answered ≡ Plan intervals steps energy → (site : Site) × (read_site level_bytes job_bytes mark_bytes parameters ≡ answer site)
  plan_read intervals steps energy is = site_planned (λ number place e. let z : ◌≡◌ {A = ℕ} 0 1 = cc e in omega (arith, z))
