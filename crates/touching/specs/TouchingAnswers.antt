-- The contract of the operation: what one call answers and what it leaves in the lent lists, for bytes, numbers and lists of any
-- kind.
use Rattle.std.specs.Prelude.{ℕ, ◌≡◌, List, length, Option, Result, Ok}
use Rattle.model.specs.declared.refusal.Refusal.{Refusal}
use Rattle.model.specs.Outcome.{Outcome}
use Rattle.model.specs.Refusals.{returned_by}
use Rattle.spans.specs.Spans.{Touched}
use Rattle.spans.specs.SpanAnswers.{nearest_answer}
use Rattle.touching.specs.Touching.{Lists, touching, lists_after}
use Rattle.touching.specs.declared.operation.ListLengths.{ListLengths}

abbrev pub TouchingAnswer : Type 0
TouchingAnswer = Result ListLengths Refusal

-- Three lengths and the nearest deadline are answered.
abbrev pub Touching : (open_jobs inside_jobs steps : ℕ) → (deadline : Option ℕ) → TouchingAnswer
Touching open_jobs inside_jobs steps deadline =
    Ok (record { open_jobs = open_jobs; inside_jobs = inside_jobs; steps = steps; deadline = deadline })

-- "answered are their three lengths and that deadline", or the refusal.
abbrev pub touching_answer : Outcome Touched → TouchingAnswer
touching_answer outcome =
    returned_by (λ t. record {
      open_jobs = length t.open_jobs;
      inside_jobs = length t.inside_jobs;
      steps = length t.steps;
      deadline = nearest_answer t.deadline;
    }) outcome

-- An outcome is what a call answered, and what it left in the lists: two equations.
pub record Answers (outcome : Outcome Touched) (before after : Lists) (answered : TouchingAnswer) : Type 0 where
  pub answer_is : answered ≡ touching_answer outcome
  pub lists_are : after ≡ lists_after outcome before

-- The whole promise.
abbrev pub TouchingContract : (job_bytes mark_bytes : List ℕ) → (free margin : ℕ) → (plan : List ℕ) → (start end : ℕ) → (before after : Lists) → TouchingAnswer → Type 0
TouchingContract job_bytes mark_bytes free margin plan start end before after answered =
    Answers (touching job_bytes mark_bytes free margin plan start end before) before after answered
