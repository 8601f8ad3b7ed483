-- A reading over a plan's bytes (document 01, "Walking": "takes a plan's steps one after another from a reading over its
-- bytes, each once in file order, then the end. Only 15 is possible").
use Rattle.std.specs.Prelude.{ℕ, zero, suc, ◌<◌, ◌≡◌, List, []}
use Rattle.std.specs.Borrow.{Bor}
use Rattle.model.specs.Outcome.{Outcome, answer}
use Rattle.model.specs.Steps.{Step, step_count, walk}
use Rattle.walking.specs.declared.walk.StepReading.{StepReading}
use Rattle.walking.specs.declared.walk.Taken.{Taken}
use Rattle.walking.specs.Walking.{StepAnswer, step_answer, number_after, before}

-- A reading begins at step 0. It holds the plan's slice as it was lent.
abbrev pub started : Bor (List ℕ) → StepReading
started plan = record { plan = plan; next = 0 }

-- What stands at a reading's step number.
abbrev pub answer_of : StepReading → StepAnswer
answer_of reading = step_answer (walk reading.plan.now) reading.next

-- The reading of the same plan at the step number after it.
abbrev pub after : StepReading → StepReading
after reading = record { plan = reading.plan; next = number_after (answer_of reading) reading.next }

-- Taking from a reading gives what stands at its step number, and the reading after it.
abbrev pub taken : StepReading → Taken
taken reading = record { answer = answer_of reading; rest = after reading }

-- Taking from a reading, from the reading after it, and so on until the walk ends, at most `turns` times.
unfoldable pub all_taken : (take : StepReading → Taken) → StepReading → (turns : ℕ) → Outcome (List Step)
all_taken take reading zero = answer []
all_taken take reading (suc turns) = before (take reading).answer (all_taken take (take reading).rest turns)

-- Any two functions that meet the contracts of `start` and `next` walk a plan: whatever its bytes are, taking from the
-- start gives each of its steps once in file order, then the end, or refusal 15 of a malformed plan. After the last step
-- comes the end, so any number of turns above the step count is enough. Proved in proofs/Readings.antt.
abbrev pub ReadingTakesAll : Type 0
ReadingTakesAll =
    (start : Bor (List ℕ) → StepReading) → ((plan : Bor (List ℕ)) → start plan ≡ started plan)
    → (take : StepReading → Taken) → ((reading : StepReading) → take reading ≡ taken reading)
    → (plan : Bor (List ℕ)) (turns : ℕ) → step_count plan.now < turns → all_taken take (start plan) turns ≡ walk plan.now
