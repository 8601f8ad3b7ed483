-- Walking a plan (document 01, "Walking"): what stands at each position, and taking the positions one after another.
use Rattle.std.specs.Prelude.{ℕ, zero, suc, ◌<◌, ◌≡◌, List, [], ◌∷◌, Option, Some, None, Result, Ok, Err}
use Rattle.model.specs.declared.refusal.Refusal.{Refusal}
use Rattle.model.specs.Refusals.{number_of, refusal}
use Rattle.model.specs.Outcome.{Outcome, refused, answer, and_then}
use Rattle.model.specs.Steps.{Step, step_count, walk}
use Rattle.walking.specs.declared.steps.Step.{Step as CodeStep}

-- A step of the definitions as a step of the code, and back.
abbrev pub code_step : Step → CodeStep
code_step step = record { interval = step.interval; job = step.job; cycles = step.cycles }

abbrev pub model_step : CodeStep → Step
model_step step = record { interval = step.interval; job = step.job; cycles = step.cycles }

-- What stands at a position of a plan: a step, none at the end, or the refusal of bytes that are no plan.
abbrev pub StepAnswer : Type 0
StepAnswer = Result (Option CodeStep) Refusal

-- The step at a position of a list, counted from 0, and past the last step none.
unfoldable pub step_or_end : List Step → (position : ℕ) → Option CodeStep
step_or_end [] position = None
step_or_end (step ∷ steps) zero = Some (code_step step)
step_or_end (step ∷ steps) (suc position) = step_or_end steps position

-- What stands at a position of a plan that was walked. A plan that is refused has the refusal at every position.
abbrev pub step_answer : Outcome (List Step) → (position : ℕ) → StepAnswer
step_answer (refused number place) position = Err (refusal number place)
step_answer (answer steps) position = Ok (step_or_end steps position)

-- The step number after a position: one higher after a step. The end and a refusal stay where they are.
abbrev pub number_after : StepAnswer → (position : ℕ) → ℕ
number_after (Ok (Some step)) position = suc position
number_after (Ok None) position = position
number_after (Err own) position = position

-- A position's answer, and what the positions after it give: a step goes before theirs, the end and a refusal end the walk.
abbrev pub before : StepAnswer → Outcome (List Step) → Outcome (List Step)
before (Ok (Some step)) rest = and_then rest (λ steps. answer (model_step step ∷ steps))
before (Ok None) rest = answer []
before (Err own) rest = refused (number_of own.fault) own.place

-- Taking the positions first, first + 1, .. one after another until the walk ends, at most `turns` of them.
unfoldable pub taken_from : (at : ℕ → StepAnswer) → (first turns : ℕ) → Outcome (List Step)
taken_from at first zero = answer []
taken_from at first (suc turns) = before (at first) (taken_from at (suc first) turns)

-- Taking the positions 0, 1, 2, .. gives exactly the steps of the plan, each once in file order, or refusal 15. After the
-- last step comes the end, so any number of turns above the step count is enough. Proved in proofs/Walking.antt.
abbrev pub WalkTakesAll : Type 0
WalkTakesAll = (plan : List ℕ) (turns : ℕ) → step_count plan < turns → taken_from (step_answer (walk plan)) 0 turns ≡ walk plan
