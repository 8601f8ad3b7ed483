-- The answers of this crate: the paper's values, or the refusal.
use Rattle.std.specs.Prelude.{ℤ, Result}
use Rattle.model.specs.declared.refusal.Refusal.{Refusal}
use Rattle.model.specs.Outcome.{Outcome}
use Rattle.model.specs.Refusals.{returned}

-- The spare, or the refusal.
abbrev pub spare_answer : Outcome ℤ → Result ℤ Refusal
spare_answer outcome = returned outcome
