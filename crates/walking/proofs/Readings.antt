-- Laws of readings: taking from a reading until the walk ends takes the positions of its plan one after another.
-- Assumes nothing.
use mathlib.Core.Path.{◌≡◌, refl, ◌∙◌}
use mathlib.Core.List.{List}
use Prim.Native.Nat.{ℕ, zero, suc}
use denote.Ref.{Bor}
use Rattle.std.specs.Prelude.{Some, None, Ok, Err}
use Rattle.model.specs.Outcome.{Outcome}
use Rattle.model.specs.Steps.{Step, walk}
use Rattle.walking.specs.declared.walk.StepReading.{StepReading}
use Rattle.walking.specs.declared.walk.Taken.{Taken}
use Rattle.walking.specs.Walking.{StepAnswer, step_answer, taken_from, before, number_after}
use Rattle.walking.specs.Readings.{taken, all_taken, ReadingTakesAll}
use Rattle.walking.proofs.Walking.{walk_takes_all}

-- what stands at a position, and the walk from the number after it: only after a step is the rest read, and there the
-- number is the next position
before_number : (answer : StepAnswer) (position : ℕ) (from : ℕ → Outcome (List Step))
    → before answer (from (number_after answer position)) ≡ before answer (from (suc position))
before_number (Ok (Some step)) position from = refl
before_number (Ok None) position from = refl
before_number (Err own) position from = refl

-- taking from a reading is taking its plan's positions from its step number on
taken-from : (take : StepReading → Taken) → ((reading : StepReading) → take reading ≡ taken reading) → (plan : Bor (List ℕ)) (turns number : ℕ)
    → all_taken take (record { plan = plan; next = number }) turns ≡ taken_from (step_answer (walk plan.now)) number turns
unfolding all_taken taken_from
taken-from take meets plan zero number = refl
taken-from take meets plan (suc turns) number =
    let answer = step_answer (walk plan.now) number in
    rw (meets (record { plan = plan; next = number }), taken-from take meets plan turns (number_after answer number))
    (before_number answer number (λ first. taken_from (step_answer (walk plan.now)) first turns))

-- Taking from the start of a reading gives exactly the walk.
pub reading_takes_all : ReadingTakesAll
reading_takes_all start starts take meets plan turns enough =
    rw (starts plan) (taken-from take meets plan turns 0 ∙ walk_takes_all plan.now turns enough)
