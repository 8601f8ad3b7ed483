-- One spelling of a plan, over the calls themselves. Document 02, Change 3: "Site archives compare plans by bytes. Add a writer that
-- is lent what the check is, gives its refusals and writes the plan's steps in cell order to a second buffer; one shorter than
-- the plan gives 12, last. Two accepted plans for one job table come out equal exactly when every job has the same cycles in
-- every interval, and a plan already in order is unchanged." Change 6: "the two plans that Change 3 compares have the same marks."
-- Change 9: "the two plans that Change 3 compares share" the parameters.
-- Proved in proofs/OneSpelling.antt.
use Rattle.std.specs.Prelude.{ℕ, ◌<◌, ◌≤◌, ◌≡◌, ◌↔◌, List, length, take, drop, Err}
use Rattle.model.specs.declared.Job.{Job}
use Rattle.model.specs.declared.Parameters.{Parameters}
use Rattle.model.specs.Outcome.{refused, answer}
use Rattle.model.specs.Refusals.{refusal as refusal_at}
use Rattle.model.specs.Bytes.{IsBytes}
use Rattle.model.specs.Jobs.{read_jobs}
use Rattle.model.specs.SiteParameters.{alter_jobs}
use Rattle.model.specs.Intervals.{interval_count}
use Rattle.model.specs.Marks.{read_marks, bounds_with}
use Rattle.model.specs.Sites.{Site}
use Rattle.model.specs.Steps.{shares_of}
use Rattle.model.specs.Checking.{check}
use Rattle.model.specs.Accepted.{exact_for}
use Rattle.model.specs.Demands.{ValidTables}
use Rattle.ordering.specs.OrderedPlan.{InOrder, SameSteps}
use Rattle.ordering.specs.OrderAnswers.{OrderAnswer, Ordered, OrderContract}

-- One call of ordering: what it was lent, what it left in the buffer, and its answer, with the contract that holds of every call.
pub record OrderingCall : Type 0 where
  pub level_bytes : List ℕ
  pub job_bytes : List ℕ
  pub mark_bytes : List ℕ
  pub parameters : Parameters
  pub plan : List ℕ
  pub prices : List ℕ
  pub before : List ℕ
  pub after : List ℕ
  pub answered : OrderAnswer
  pub contract : OrderContract level_bytes job_bytes mark_bytes parameters plan prices before after answered

-- The plan comes out: the length written is answered.
abbrev pub ComesOut : OrderingCall → Type 0
ComesOut call = call.answered ≡ Ordered (length call.plan)

-- "come out": the bytes that a call wrote, as many as the plan has.
abbrev pub plan_out : OrderingCall → List ℕ
plan_out call = take (length call.plan) call.after

-- The call is refused so, and the buffer is as it was.
pub record RefusedCall (call : OrderingCall) (number place : ℕ) : Type 0 where
  pub refusal : call.answered ≡ Err (refusal_at number place)
  pub untouched : call.after ≡ call.before

-- What is written: the plan's length is answered; the bytes written have N and S as they were and the plan's steps, each once, in
-- cell order; and the rest of the buffer stays.
pub record WrittenCall (call : OrderingCall) : Type 0 where
  pub comes-out : ComesOut call
  pub same_steps : SameSteps call.plan (plan_out call)
  pub rest_stays : drop (length call.plan) call.after ≡ drop (length call.plan) call.before

-- "every job has the same cycles in every interval"
abbrev pub SameCycles : List Job → (marks : List ℕ) → (one two : List ℕ) → Type 0
SameCycles jobs marks one two =
    (i j : ℕ) → i < interval_count (bounds_with marks jobs) → j < length jobs → shares_of one i j ≡ shares_of two i j

pub record OneSpelling : Type 0 where
  -- "is lent what the check is, gives its refusals"
  pub as_the_check : (call : OrderingCall) (number place : ℕ)
      → check call.level_bytes call.job_bytes call.mark_bytes call.parameters call.plan call.prices ≡ refused number place → RefusedCall call number place
  -- "one shorter than the plan gives 12, last"
  pub too_short : (call : OrderingCall) (figure : ℕ)
      → check call.level_bytes call.job_bytes call.mark_bytes call.parameters call.plan call.prices ≡ answer figure
      → length call.before < length call.plan → RefusedCall call 12 (length call.plan)
  -- "writes the plan's steps in cell order to a second buffer"
  pub written : (call : OrderingCall) (figure : ℕ)
      → check call.level_bytes call.job_bytes call.mark_bytes call.parameters call.plan call.prices ≡ answer figure
      → length call.plan ≤ length call.before → WrittenCall call
  -- and nothing else is: what comes out was accepted, and the buffer was long enough
  pub only_accepted : (call : OrderingCall) (size : ℕ) → call.answered ≡ Ordered size
      → (figure : ℕ) × (check call.level_bytes call.job_bytes call.mark_bytes call.parameters call.plan call.prices ≡ answer figure)
      × (length call.plan ≤ length call.before)
  -- "Two accepted plans for one job table come out equal exactly when every job has the same cycles in every interval". The jobs are
  -- those that free ticks and margin make of the table. The level tables, the highest levels allowed and the price lists that they were
  -- accepted with may differ.
  pub equal_exactly_when : (one two : OrderingCall) → ComesOut one → ComesOut two
      → one.job_bytes ≡ two.job_bytes → (given : List Job) → read_jobs one.job_bytes ≡ answer given
      → one.mark_bytes ≡ two.mark_bytes → (marks : List ℕ) → read_marks one.mark_bytes ≡ answer marks
      → one.parameters.free ≡ two.parameters.free → one.parameters.margin ≡ two.parameters.margin
      → (jobs : List Job) → alter_jobs one.parameters.free one.parameters.margin given ≡ answer jobs
      → (plan_out one ≡ plan_out two) ↔ SameCycles jobs marks one.plan two.plan
  -- "and a plan already in order is unchanged". Each number that is lent is below 256, as every byte is.
  pub unchanged : (call : OrderingCall) → ComesOut call → IsBytes call.plan → InOrder call.plan → plan_out call ≡ call.plan
  -- what comes out is accepted by the check with the same prices and the same figure
  pub accepted_again : (call : OrderingCall) → ComesOut call
      → check call.level_bytes call.job_bytes call.mark_bytes call.parameters (plan_out call) call.prices
      ≡ check call.level_bytes call.job_bytes call.mark_bytes call.parameters call.plan call.prices
  -- and has the same exact energy
  pub same_energy : (call : OrderingCall) → ComesOut call → (site : Site) → ValidTables call.level_bytes call.job_bytes call.mark_bytes call.parameters site
      → exact_for site (plan_out call) ≡ exact_for site call.plan
  -- what came out once comes out as it is. Lent the same tables and prices and enough room it does come out, by `accepted_again`
  -- and `written`.
  pub ordered_again : (first second : OrderingCall) → ComesOut first → second.plan ≡ plan_out first → ComesOut second → plan_out second ≡ plan_out first
  -- every call is one of these, whatever it was lent
  pub every_call : (level_bytes job_bytes mark_bytes : List ℕ) (parameters : Parameters) (plan prices before after : List ℕ) (answered : OrderAnswer)
      → OrderContract level_bytes job_bytes mark_bytes parameters plan prices before after answered
      → (call : OrderingCall)
      × (call.level_bytes ≡ level_bytes) × (call.job_bytes ≡ job_bytes) × (call.mark_bytes ≡ mark_bytes) × (call.parameters ≡ parameters)
      × (call.plan ≡ plan) × (call.prices ≡ prices)
      × (call.before ≡ before) × (call.after ≡ after) × (call.answered ≡ answered)
