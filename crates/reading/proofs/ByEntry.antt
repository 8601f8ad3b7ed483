-- Laws of the answer while the entries are gone through.
-- Assumes nothing.
use mathlib.Core.Path.{◌≡◌, refl, sym, ◌∙◌, ap}
use mathlib.Core.Bool.{Bool, true, false}
use mathlib.Core.List.{List}
use Prim.Native.Nat.{ℕ, ◌<◌}
use lib.ListN.{length}
use Rattle.std.specs.Prelude.{Some, Ok, Err}
use Rattle.model.specs.declared.refusal.Fault.{Fault}
use Rattle.model.specs.Outcome.{Outcome, answer, refuse_when, by_entry}
use Rattle.model.specs.Refusals.{fault_of}
use Rattle.model.proofs.Outcome.{by_entry_answered}
use Rattle.model.proofs.Refusals.{err≢ok, entry_stops, entries_pass, returned_answered}
use Rattle.reading.specs.Tables.{returned_count}

module _ {A : Type 0} (count : ℕ) (number : ℕ → ℕ) (entries : List A) where
  -- the first entry with a fault ends the reading
  pub reading_stops : (i : ℕ) (fault : Fault) → ((k : ℕ) → k < i → number k ≡ 0) → i < count → fault_of (number i) ≡ Some fault
      → Err (record { fault = fault; place = i }) ≡ returned_count (by_entry count number (answer entries))
  reading_stops i fault sound below found = entry_stops length count number (answer entries) i fault sound below found

  -- with no fault the entries are answered
  pub reading_passes : ((k : ℕ) → k < count → number k ≡ 0) → length entries ≡ count
      → Ok count ≡ returned_count (by_entry count number (answer entries))
  reading_passes sound all = ap Ok (sym all) ∙ entries_pass length count number (answer entries) sound

pub reading_answered : {A : Type 0} (count : ℕ) (number : ℕ → ℕ) (entries : List A) (n : ℕ)
    → returned_count (by_entry count number (answer entries)) ≡ Ok n → by_entry count number (answer entries) ≡ answer entries
reading_answered count number entries n e =
    let found = returned_answered length (by_entry count number (answer entries)) n e in
    found.1 ∙ sym (by_entry_answered number (answer entries) count found.1).1

-- a refusal before the entries that did not come
pub reading_past : {A : Type 0} (test : Bool) (own n : ℕ) (next : Outcome (List A)) → returned_count (refuse_when test own next) ≡ Ok n
    → refuse_when test own next ≡ next
reading_past true own n next e = absurd (err≢ok e)
reading_past false own n next e = refl

-- entries that are those of every answer of that many entries are the outcome's
pub reading_held : {A : Type 0} (outcome : Outcome (List A)) (n : ℕ) (held : List A) → returned_count outcome ≡ Ok n
    → ((entries : List A) → outcome ≡ answer entries → length entries ≡ n → held ≡ entries) → outcome ≡ answer held
reading_held outcome n held e same =
    let found = returned_answered length outcome n e in
    found.1 ∙ ap answer (sym (same found.0 found.1 found.2))
