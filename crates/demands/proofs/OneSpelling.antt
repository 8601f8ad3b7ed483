-- One spelling of a plan: what a call of ordering answers and leaves, and what holds of the plans that come out.
-- Assumes nothing.
use mathlib.Core.Path.{◌≡◌, refl, sym, ◌∙◌, ap, ap₂}
use mathlib.Core.Logic.{◌↔◌}
use mathlib.Core.List.{List, ◌++◌}
use Prim.Native.Nat.{ℕ, ◌≤◌}
use native.Mathlib.Omega.{arith}
use lib.ListN.{length, drop}
use lib.Seq.{take_at, drop_at}
use Rattle.model.specs.declared.Job.{Job}
use Rattle.model.specs.declared.Parameters.{Parameters}
use Rattle.model.specs.Outcome.{Outcome, refused, answer}
use Rattle.model.specs.Jobs.{read_jobs}
use Rattle.model.specs.SiteParameters.{alter_jobs}
use Rattle.model.specs.Marks.{read_marks, bounds_with}
use Rattle.model.specs.Sites.{Site, read_site}
use Rattle.model.specs.Checking.{check}
use Rattle.model.specs.Accepted.{IsPlan, exact_for}
use Rattle.model.specs.Demands.{ValidTables}
use Rattle.model.proofs.Outcome.{answer_injective}
use Rattle.model.proofs.Sites.{sites_are_valid}
use Rattle.model.proofs.Accepted.{check_accepts, check_read, check_reads}
use Rattle.ordering.specs.OrderedPlan.{ordered_plan, Orderable}
use Rattle.ordering.specs.Ordering.{order}
use Rattle.ordering.specs.OrderAnswers.{Ordered, order_answer}
use Rattle.ordering.proofs.Ranks.{length_ordered}
use Rattle.ordering.proofs.OrderedPlan.{ordering_keeps_steps, ordered_again}
use Rattle.ordering.proofs.InOrder.{in_order_unchanged}
use Rattle.ordering.proofs.AcceptedAgain.{same_for_jobs, ordered_exact, accepted_again}
use Rattle.ordering.proofs.Ordering.{order_as_check, order_too_short, order_answers, order_answered}
use Rattle.ordering.proofs.OrderAnswers.{order_orderable}
use Rattle.demands.proofs.SiteParts.{site_parts}
use Rattle.demands.specs.OneSpelling.{OrderingCall, ComesOut, plan_out, RefusedCall, WrittenCall, SameCycles, OneSpelling}

-- an answer of a length is that of an ordered plan
answered_of : (outcome : Outcome (List ℕ)) (size : ℕ) → Ordered size ≡ order_answer outcome → (ordered : List ℕ) × (outcome ≡ answer ordered)
answered_of (refused number place) size e = let z : ◌≡◌ {A = ℕ} 0 1 = cc e in absurd (omega (arith, z))
answered_of (answer ordered) size e = (ordered, refl)

-- a site has the jobs that its parameters make of its job table, and their bounds with the marks
jobs-of : (level_bytes job_bytes mark_bytes : List ℕ) (parameters : Parameters) (site : Site) → read_site level_bytes job_bytes mark_bytes parameters ≡ answer site
    → (given : List Job) → read_jobs job_bytes ≡ answer given → (marks : List ℕ) → read_marks mark_bytes ≡ answer marks
    → (jobs : List Job) → alter_jobs parameters.free parameters.margin given ≡ answer jobs
    → (site.jobs ≡ jobs) × (site.bounds ≡ bounds_with marks jobs)
jobs-of level_bytes job_bytes mark_bytes parameters site read given is-given marks are_marks jobs is-jobs =
    let (found, ticks, jobs_read, marks_read, altered, same-bounds) = site_parts level_bytes job_bytes mark_bytes parameters site read in
    let same-given : found ≡ given = answer_injective (sym jobs_read ∙ is-given) in
    let same-marks : ticks ≡ marks = answer_injective (sym marks_read ∙ are_marks) in
    let same : site.jobs ≡ jobs =
    answer_injective (sym altered ∙ ap (alter_jobs parameters.free parameters.margin) same-given ∙ is-jobs) in
    (same, same-bounds ∙ ap₂ (λ (m : List ℕ) (j : List Job). bounds_with m j) same-marks same)

module _ (call : OrderingCall) where
  abbrev outcome : Outcome (List ℕ)
  outcome = order call.level_bytes call.job_bytes call.mark_bytes call.parameters call.plan call.prices (length call.before)

  abbrev Accepts : ℕ → Type 0
  Accepts figure = check call.level_bytes call.job_bytes call.mark_bytes call.parameters call.plan call.prices ≡ answer figure

  refused_call : (number place : ℕ) → outcome ≡ refused number place → RefusedCall call number place
  refused_call number place e = record { refusal = rw e at call.contract.answer_is; untouched = rw e at call.contract.buffer_is }

  only_accepted : (size : ℕ) → call.answered ≡ Ordered size → (figure : ℕ) × Accepts figure × (length call.plan ≤ length call.before)
  only_accepted size is =
      let (ordered, e) = answered_of outcome size (sym is ∙ call.contract.answer_is) in
      order_answered call.level_bytes call.job_bytes call.mark_bytes call.parameters call.plan call.prices (length call.before) ordered e

  module _ (figure : ℕ) (accepted : Accepts figure) where
    orderable : Orderable call.plan
    orderable = order_orderable call.level_bytes call.job_bytes call.mark_bytes call.parameters call.plan call.prices figure accepted

    long : length (ordered_plan call.plan) ≡ length call.plan
    long = length_ordered call.plan orderable

    module _ (room : length call.plan ≤ length call.before) where
      answers : outcome ≡ answer (ordered_plan call.plan)
      answers = order_answers call.level_bytes call.job_bytes call.mark_bytes call.parameters call.plan call.prices (length call.before) figure accepted room

      left : call.after ≡ ordered_plan call.plan ++ drop (length call.plan) call.before
      left = rw (answers, long) at call.contract.buffer_is

      out_is : plan_out call ≡ ordered_plan call.plan
      out_is = rw left (take_at (ordered_plan call.plan) (drop (length call.plan) call.before) (length call.plan) long)

      written_call : WrittenCall call
      written_call =
          record {
            comes-out = rw (answers, long) at call.contract.answer_is;
            same_steps = rw out_is (ordering_keeps_steps call.plan orderable);
            rest_stays = rw left (drop_at (ordered_plan call.plan) (drop (length call.plan) call.before) (length call.plan) long);
          }

-- a call whose plan comes out
module _ (call : OrderingCall) (comes-out : ComesOut call) where
  abbrev figure-of : ℕ
  figure-of = (only_accepted call (length call.plan) comes-out).0

  accepts : Accepts call figure-of
  accepts = (only_accepted call (length call.plan) comes-out).1

  orderable_plan : Orderable call.plan
  orderable_plan = orderable call figure-of accepts

  plan-out : plan_out call ≡ ordered_plan call.plan
  plan-out = out_is call figure-of accepts (only_accepted call (length call.plan) comes-out).2

  -- the plan is one for the altered jobs of the table
  plan_of_jobs : (given : List Job) → read_jobs call.job_bytes ≡ answer given → (marks : List ℕ) → read_marks call.mark_bytes ≡ answer marks
      → (jobs : List Job) → alter_jobs call.parameters.free call.parameters.margin given ≡ answer jobs
      → IsPlan jobs (bounds_with marks jobs) call.plan
  plan_of_jobs given is-given marks are_marks jobs is-jobs =
      let (site, read, checked) = check_reads call.level_bytes call.job_bytes call.mark_bytes call.parameters call.plan call.prices figure-of accepts in
      let (same_jobs, same-bounds) = jobs-of call.level_bytes call.job_bytes call.mark_bytes call.parameters site read given is-given marks are_marks jobs is-jobs in
      rw (same_jobs, same-bounds) at ((check_accepts site call.plan call.prices figure-of).0 checked).0.is-plan

  checked_again : check call.level_bytes call.job_bytes call.mark_bytes call.parameters (plan_out call) call.prices
      ≡ check call.level_bytes call.job_bytes call.mark_bytes call.parameters call.plan call.prices
  checked_again =
      let (site, read, checked) = check_reads call.level_bytes call.job_bytes call.mark_bytes call.parameters call.plan call.prices figure-of accepts in
      let again = accepted_again site (sites_are_valid _ _ _ _ site read) call.plan call.prices figure-of checked in
      rw plan-out (check_read _ _ _ _ (ordered_plan call.plan) _ site read ∙ again ∙ sym accepts)

  same_energy : (site : Site) → ValidTables call.level_bytes call.job_bytes call.mark_bytes call.parameters site → exact_for site (plan_out call) ≡ exact_for site call.plan
  same_energy site read =
      let checked = sym (check_read _ _ _ _ _ _ site read) ∙ accepts in
      rw plan-out (ordered_exact site (sites_are_valid _ _ _ _ site read) call.plan call.prices figure-of checked)

equal_exactly_when : (one two : OrderingCall) → ComesOut one → ComesOut two → one.job_bytes ≡ two.job_bytes
    → (given : List Job) → read_jobs one.job_bytes ≡ answer given
    → one.mark_bytes ≡ two.mark_bytes → (marks : List ℕ) → read_marks one.mark_bytes ≡ answer marks
    → one.parameters.free ≡ two.parameters.free → one.parameters.margin ≡ two.parameters.margin
    → (jobs : List Job) → alter_jobs one.parameters.free one.parameters.margin given ≡ answer jobs
    → (plan_out one ≡ plan_out two) ↔ SameCycles jobs marks one.plan two.plan
equal_exactly_when one two first second same-table given is-given same-marks marks are_marks same-free same-margin jobs is-jobs =
    rw (plan-out one first, plan-out two second)
    (same_for_jobs jobs (bounds_with marks jobs) one.plan two.plan (plan_of_jobs one first given is-given marks are_marks jobs is-jobs)
    (plan_of_jobs two second given (rw same-table at is-given) marks (rw same-marks at are_marks) jobs (rw (same-free, same-margin) at is-jobs)) (orderable_plan one first) (orderable_plan two second))

pub one_spelling : OneSpelling
one_spelling =
    record {
      as_the_check = λ call number place e. refused_call call number place (order_as_check _ _ _ _ _ _ _ number place e);
      too_short = λ call figure accepted short. refused_call call 12 (length call.plan) (order_too_short _ _ _ _ _ _ _ figure accepted short);
      written = written_call;
      only_accepted = only_accepted;
      equal_exactly_when = equal_exactly_when;
      unchanged = λ call out bytes in_order. plan-out call out ∙ in_order_unchanged call.plan bytes (orderable_plan call out) in_order;
      accepted_again = checked_again;
      same_energy = same_energy;
      ordered_again = λ first second out is-plan out-again.
          plan-out second out-again
          ∙ (ap ordered_plan (is-plan ∙ plan-out first out) ∙ (ordered_again first.plan (orderable_plan first out) ∙ sym (plan-out first out)));
      every_call = λ level_bytes job_bytes mark_bytes parameters plan prices before after answered contract. (
        record {
          level_bytes = level_bytes;
          job_bytes = job_bytes;
          mark_bytes = mark_bytes;
          parameters = parameters;
          plan = plan;
          prices = prices;
          before = before;
          after = after;
          answered = answered;
          contract = contract;
        },
        refl,
        refl,
        refl,
        refl,
        refl,
        refl,
        refl,
        refl,
        refl,
      );
    }
