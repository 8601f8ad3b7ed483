-- The contract of laying out a round: what one call answers and what it leaves in the buffer, for bytes and buffers of any
-- length.
use Rattle.std.specs.Prelude.{ℕ, ◌≡◌, List, length, Result, Ok}
use Rattle.model.specs.declared.refusal.Refusal.{Refusal}
use Rattle.model.specs.Outcome.{Outcome}
use Rattle.model.specs.Refusals.{returned_by}
use Rattle.tasks.specs.Rounds.{Round, table_length, rounds, buffer_after}
use Rattle.rounds.specs.declared.operation.LaidOut.{LaidOut as Lengths}

abbrev pub RoundsAnswer : Type 0
RoundsAnswer = Result Lengths Refusal

-- A job table of a length was written, and a multiple.
abbrev pub LaidOut : (length multiple : ℕ) → RoundsAnswer
LaidOut size multiple = Ok (record { length = size; multiple = multiple })

-- Document 02's values: the job table's length in bytes and the multiple, or the refusal.
abbrev pub rounds_answer : Outcome Round → RoundsAnswer
rounds_answer outcome = returned_by (λ round. record { length = table_length round.jobs; multiple = round.multiple }) outcome

-- The whole promise: two equations. What an answered round is stands in `RoundIs` of the crate tasks.
pub record RoundsContract (task_bytes before after : List ℕ) (answered : RoundsAnswer) : Type 0 where
  pub answer_is : answered ≡ rounds_answer (rounds task_bytes (length before))
  pub buffer_is : after ≡ buffer_after (rounds task_bytes (length before)) before
