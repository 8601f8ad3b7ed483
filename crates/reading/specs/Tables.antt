-- What decoding a table answers, and numbers of 16 bits.
use Rattle.std.specs.Prelude.{ℕ, ◌<◌, List, length, get_or, Result}
use Rattle.model.specs.declared.refusal.Refusal.{Refusal}
use Rattle.model.specs.Outcome.{Outcome}
use Rattle.model.specs.Refusals.{returned_by}

-- How many entries there are, or the refusal.
abbrev pub returned_count : {A : Type 0} → Outcome (List A) → Result ℕ Refusal
returned_count outcome = returned_by length outcome

-- The numbers in an array of `size` have 16 bits.
abbrev pub SmallNumbers : (size : ℕ) → List ℕ → Type 0
SmallNumbers size numbers = (i : ℕ) → i < size → get_or numbers i 0 < 65_536
