-- What the two halves of the check answer: document 01's values, or the refusal.
use Rattle.std.specs.Prelude.{ℕ, Result}
use Rattle.model.specs.declared.refusal.Refusal.{Refusal}
use Rattle.model.specs.Outcome.{Outcome}
use Rattle.model.specs.Refusals.{returned}

-- The energy figure of a plan that fits, or the refusal.
abbrev pub fits_answer : Outcome ℕ → Result ℕ Refusal
fits_answer outcome = returned outcome

-- The energy figure of an accepted plan, or the refusal.
abbrev pub check_answer : Outcome ℕ → Result ℕ Refusal
check_answer outcome = returned outcome
