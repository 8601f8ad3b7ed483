-- The structs that the functions for C return. The number is 0 for an answer and the refusal's number otherwise; fields
-- that a case does not fill are 0.
use Rattle.std.specs.Prelude.{ℕ, ◌≡◌, List, length, ℤ, pos, Option, Some, None, Ok, Err}
use Rattle.std.proofs.Math.Option.{none}
use Rattle.model.specs.declared.Parameters.{Parameters}
use Rattle.model.specs.Outcome.{Outcome, refused, answer}
use Rattle.model.specs.Setting.{Setting}
use Rattle.model.specs.Refusals.{number_of}
use Rattle.spare.specs.declared.unmet.NoAnswer.TheVariants.{Overfull, Refused}
use Rattle.planning.specs.MadePlans.{Buffers}
use Rattle.planning.specs.PlanAnswers.{PlanAnswer, PlanContract}
use Rattle.ordering.specs.Ordering.{order, ordered_after}
use Rattle.spans.specs.Spans.{Touched}
use Rattle.spans.specs.SpanAnswers.{nearest_answer}
use Rattle.touching.specs.Touching.{Lists, touching, lists_after}
use Rattle.tasks.specs.Rounds.{Round, table_length, rounds, buffer_after}
use Rattle.job_rooms.specs.SetOutcomes.{SetOutcome, refusal, overfull, answered}
use Rattle.nearest.specs.Nearest.{nearest, list_after}
use Rattle.capi.specs.declared.FitsResult.{FitsResult}
use Rattle.capi.specs.declared.CheckResult.{CheckResult}
use Rattle.capi.specs.declared.SettingResult.{SettingResult}
use Rattle.capi.specs.declared.SpareResult.{SpareResult}
use Rattle.capi.specs.declared.PlanResult.{PlanResult}
use Rattle.capi.specs.declared.RoundsResult.{RoundsResult}
use Rattle.capi.specs.declared.OrderResult.{OrderResult}
use Rattle.capi.specs.declared.TouchingResult.{TouchingResult}
use Rattle.capi.specs.declared.nearest_job.NearestResult.{NearestResult}

abbrev pub fits_result : Outcome ℕ → FitsResult
fits_result (refused number place) = record { number = number; place = place; energy = 0 }
fits_result (answer energy) = record { number = 0; place = 0; energy = energy }

abbrev pub check_result : Outcome ℕ → CheckResult
check_result (refused number place) = record { number = number; place = place; energy = 0 }
check_result (answer energy) = record { number = 0; place = 0; energy = energy }

abbrev pub setting_result : Outcome Setting → SettingResult
setting_result (refused number place) = record { number = number; place = place; band = 0; gap = 0; extra = 0 }
setting_result (answer setting) =
    record { number = 0; place = 0; band = setting.band; gap = setting.gap; extra = setting.extra }

abbrev pub spare_result : Outcome ℤ → SpareResult
spare_result (refused number place) = record { number = number; place = place; spare = pos 0 }
spare_result (answer spare) = record { number = 0; place = 0; spare = spare }

abbrev pub plan_result : PlanAnswer → PlanResult
plan_result (Ok written) =
    record { number = 0; place = 0; intervals = written.intervals; steps = written.steps; energy = written.energy; start = 0; end = 0; spare = pos 0 }
plan_result (Err (Overfull start end spare)) =
    record { number = 11; place = 0; intervals = 0; steps = 0; energy = 0; start = start; end = end; spare = spare }
plan_result (Err (Refused own)) =
    record { number = number_of own.fault; place = own.place; intervals = 0; steps = 0; energy = 0; start = 0; end = 0; spare = pos 0 }

-- A call of planning from C: what it returns is the struct of an answer that planning's contract holds of.
pub record PlanCall (level_bytes job_bytes mark_bytes : List ℕ) (parameters : Parameters) (before after : Buffers) (result : PlanResult) : Type 0 where
  pub answered : PlanAnswer
  pub result_is : result ≡ plan_result answered
  pub contract : PlanContract level_bytes job_bytes mark_bytes parameters before after answered

abbrev pub rounds_result : Outcome Round → RoundsResult
rounds_result (refused number place) = record { number = number; place = place; length = 0; multiple = 0 }
rounds_result (answer round) = record { number = 0; place = 0; length = table_length round.jobs; multiple = round.multiple }

-- A call that lays out a round from C: what it returns, and what the job buffer holds afterwards.
pub record RoundsCall (task_bytes before after : List ℕ) (result : RoundsResult) : Type 0 where
  pub result_is : result ≡ rounds_result (rounds task_bytes (length before))
  pub buffer_is : after ≡ buffer_after (rounds task_bytes (length before)) before

abbrev pub order_result : Outcome (List ℕ) → OrderResult
order_result (refused number place) = record { number = number; place = place; length = 0 }
order_result (answer ordered) = record { number = 0; place = 0; length = length ordered }

-- A call that orders a plan from C: what it returns, and what the buffer holds afterwards.
pub record OrderCall (level_bytes job_bytes mark_bytes : List ℕ) (parameters : Parameters) (plan prices before after : List ℕ) (result : OrderResult) : Type 0 where
  pub result_is : result ≡ order_result (order level_bytes job_bytes mark_bytes parameters plan prices (length before))
  pub buffer_is : after ≡ ordered_after (order level_bytes job_bytes mark_bytes parameters plan prices (length before)) before

-- The nearest deadline as one number. 0 stands for none alone: no deadline is 0 (`ZeroIsNone`).
abbrev pub deadline_number : Option ℕ → ℕ
deadline_number (Some deadline) = deadline
deadline_number None = 0

abbrev pub touching_result : Outcome Touched → TouchingResult
touching_result (refused number place) =
    record { number = number; place = place; open_jobs = 0; inside_jobs = 0; steps = 0; deadline = 0 }
touching_result (answer t) = record {
  number = 0;
  place = 0;
  open_jobs = length t.open_jobs;
  inside_jobs = length t.inside_jobs;
  steps = length t.steps;
  deadline = deadline_number (nearest_answer t.deadline);
}

-- A call that lists what touches a span from C: what it returns, and what the lists hold afterwards.
pub record TouchingCall (job_bytes mark_bytes : List ℕ) (free margin : ℕ) (plan : List ℕ) (start end : ℕ) (before after : Lists) (result : TouchingResult) : Type 0 where
  pub result_is : result ≡ touching_result (touching job_bytes mark_bytes free margin plan start end before)
  pub lists_are : after ≡ lists_after (touching job_bytes mark_bytes free margin plan start end before) before

-- In an answer a deadline of 0 says that there is none. Proved in proofs/NoDeadline.antt.
abbrev pub ZeroIsNone : Type 0
ZeroIsNone =
    (job_bytes mark_bytes : List ℕ) (free margin : ℕ) (plan : List ℕ) (start end : ℕ) (before : Lists) (t : Touched)
    → touching job_bytes mark_bytes free margin plan start end before ≡ answer t
    → deadline_number (nearest_answer t.deadline) ≡ 0 → t.deadline ≡ none

abbrev pub nearest_result : SetOutcome (List ℕ) → NearestResult
nearest_result (refusal number place) = record { number = number; place = place; start = 0; end = 0; spare = pos 0; length = 0 }
nearest_result (overfull start end spare) = record { number = 11; place = 0; start = start; end = end; spare = spare; length = 0 }
nearest_result (answered list) = record { number = 0; place = 0; start = 0; end = 0; spare = pos 0; length = length list }

-- A call that lists the jobs with their rooms from C: what it returns, and what the list holds afterwards.
pub record NearestCall (level_bytes job_bytes : List ℕ) (parameters : Parameters) (before after : List ℕ) (result : NearestResult) : Type 0 where
  pub result_is : result ≡ nearest_result (nearest level_bytes job_bytes parameters (length before))
  pub list_is : after ≡ list_after (nearest level_bytes job_bytes parameters (length before)) before
