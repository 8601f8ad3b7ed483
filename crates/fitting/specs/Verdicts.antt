-- What a half of the check returns, and for going through steps, jobs or intervals: nothing where all is right, or the refusal.
use Rattle.std.specs.Prelude.{Result}
use Rattle.model.specs.declared.refusal.Refusal.{Refusal}
use Rattle.model.specs.Outcome.{Outcome, answer}
use Rattle.model.specs.Refusals.{returned_by}

-- That nothing is wrong, or the refusal.
abbrev pub verdict_of : {A : Type 0} → Outcome A → Result (Unit {0}) Refusal
verdict_of outcome = returned_by (λ a. tt) outcome

-- Nothing comes next.
abbrev pub passed : Outcome (Unit {0})
passed = answer tt
