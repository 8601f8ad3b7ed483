-- The contract of the operation: what one call answers and what it leaves in the lent list, for bytes, numbers and a list of any kind.
use Rattle.std.specs.Prelude.{ℕ, ◌≡◌, List, length, ℤ, Result, Ok, Err}
use Rattle.model.specs.declared.Parameters.{Parameters}
use Rattle.job_rooms.specs.SetOutcomes.{SetOutcome, refusal, overfull, answered}
use Rattle.nearest.specs.Nearest.{nearest, list_after}
use Rattle.model.specs.Refusals.{refusal as refusal_at}
use Rattle.spare.specs.declared.unmet.NoAnswer.{NoAnswer}
use Rattle.spare.specs.declared.unmet.NoAnswer.TheVariants.{Overfull as OverfullWindow, Refused as RefusedBy}

abbrev pub NearestAnswer : Type 0
NearestAnswer = Result ℕ NoAnswer

-- A list of a length was written.
abbrev pub Listed : (length : ℕ) → NearestAnswer
Listed size = Ok size

-- 11, with the window and its spare.
abbrev pub Overfull : (start end : ℕ) → (spare : ℤ) → NearestAnswer
Overfull start end spare = Err (OverfullWindow start end spare)

-- Another refusal, by its number and place.
abbrev pub Refused : (number place : ℕ) → NearestAnswer
Refused number place = Err (RefusedBy (refusal_at number place))

-- The length written, in numbers; 11 with the window and its spare; or another refusal.
abbrev pub nearest_job_answer : SetOutcome (List ℕ) → NearestAnswer
nearest_job_answer (refusal number place) = Refused number place
nearest_job_answer (overfull start end spare) = Overfull start end spare
nearest_job_answer (answered list) = Listed (length list)

-- An outcome, which hangs on the length of the lent list, is what a call answered, and what it left in the list: two equations.
pub record Answers (outcome : ℕ → SetOutcome (List ℕ)) (before after : List ℕ) (answer : NearestAnswer) : Type 0 where
  pub answer_is : answer ≡ nearest_job_answer (outcome (length before))
  pub list_is : after ≡ list_after (outcome (length before)) before

-- The whole promise.
abbrev pub NearestContract : (level_bytes job_bytes : List ℕ) → Parameters → (before after : List ℕ) → NearestAnswer → Type 0
NearestContract level_bytes job_bytes parameters before after answer = Answers (nearest level_bytes job_bytes parameters) before after answer
