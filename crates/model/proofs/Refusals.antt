-- Laws of refusals as the code has them: a fault's number, what a returned result says of the outcome, and refusals that are passed on.
-- Assumes nothing.
use mathlib.Core.Path.{◌≡◌, refl, sym, ◌∙◌}
use mathlib.Core.List.{List, [], ◌∷◌}
use Prim.Native.Nat.{ℕ, zero, suc, ◌+◌, ◌-◌, ◌<◌}
use native.Mathlib.Omega.{arith}
use lib.ListN.{length, get_or}
use Rattle.std.specs.Prelude.{⊤, Some, None, Ok, Err}
use Rattle.model.specs.declared.refusal.Fault.{Fault}
use Rattle.model.specs.declared.refusal.Fault.TheVariants.{AlteredJob}
use Rattle.model.specs.declared.refusal.Refusal.{Refusal}
use Rattle.model.specs.Outcome.{Outcome, refused, answer, and_then, by_entry, From}
use Rattle.model.specs.Refusals.{number_of, faults, fault_numbered, fault_of, refusal, returned_by, Returns}
use Rattle.model.proofs.Outcome.{by_entry_passes, by_entry_stops}

-- faults with the numbers from one on
abbrev Numbered : (first : ℕ) → List Fault → Type 0
Numbered first [] = ⊤
Numbered first (fault ∷ rest) = (number_of fault ≡ first) × Numbered (suc first) rest

numbered_at : (first : ℕ) (l : List Fault) (otherwise : Fault) → Numbered first l → (k : ℕ) → k < length l → number_of (get_or l k otherwise) ≡ first + k
numbered_at first [] otherwise all k below = absurd (omega arith)
numbered_at first (fault ∷ rest) otherwise all zero below = all.0 ∙ omega arith
numbered_at first (fault ∷ rest) otherwise all (suc k) below = numbered_at (suc first) rest otherwise all.1 k (omega arith) ∙ omega arith

faults_numbered : Numbered 1 faults
faults_numbered = (refl, (refl, (refl, (refl, (refl, (refl, (refl, (refl, (refl, (refl, (refl, (refl, (refl, (refl, (refl, (refl, (refl, (refl, (refl, (refl, (refl, (refl, (refl, (refl, (refl, (refl, (refl, (refl, (refl, (refl, (refl, (refl, (refl, (refl, (refl, (refl, tt))))))))))))))))))))))))))))))))))))

-- the fault with a number of the table has that number
pub number_numbered : (n : ℕ) → From 1 36 n → number_of (fault_numbered n) ≡ n
number_numbered n in-table = numbered_at 1 faults AlteredJob faults_numbered (n - 1) (omega arith) ∙ omega arith

-- an error and an answer are never equal
pub err≢ok : {A E : Type 0} {e : E} {a : A} → Err e ≡ Ok a → ⊥
err≢ok same = let z : ◌≡◌ {A = ℕ} 0 1 = cc same in omega arith

-- A refused outcome, and the refusal that is returned for it.
pub record RefusedBy {A : Type 0} (outcome : Outcome A) (own : Refusal) : Type 0 where
  pub number : ℕ
  pub place : ℕ
  pub outcome_is : outcome ≡ refused number place
  pub own_is : own ≡ refusal number place

module _ {A B : Type 0} (form : A → B) where
  -- what a returned error says of the outcome
  pub returned_refused : (outcome : Outcome A) (own : Refusal) → returned_by form outcome ≡ Err own → RefusedBy outcome own
  returned_refused (refused number place) own e = record { number = number; place = place; outcome_is = refl; own_is = cc e }
  returned_refused (answer a) own e = absurd (err≢ok (sym e))

  -- and what a returned answer says of it
  pub returned_answered : (outcome : Outcome A) (b : B) → returned_by form outcome ≡ Ok b → (a : A) × (outcome ≡ answer a) × (form a ≡ b)
  returned_answered (refused number place) b e = absurd (err≢ok e)
  returned_answered (answer a) b e = (a, refl, cc e)

  -- a refusal is passed on
  pub passed_on : {C D : Type 0} (outcome : Outcome A) (next : A → Outcome C) (later : C → D) (own : Refusal) → returned_by form outcome ≡ Err own
      → Err own ≡ returned_by later (and_then outcome next)
  passed_on (refused number place) next later own e = cc e
  passed_on (answer a) next later own e = absurd (err≢ok (sym e))

  -- an outcome that is refused returns the refusal
  pub refused_returned : {outcome : Outcome A} {own : Refusal} → RefusedBy outcome own → Err own ≡ returned_by form outcome
  refused_returned by = rw (by.outcome_is, by.own_is) refl

-- a number with a fault is not 0, and one with none is
pub fault_nonzero : (number : ℕ) (fault : Fault) → fault_of number ≡ Some fault → 0 < number
fault_nonzero zero fault e = absurd (let z : ◌≡◌ {A = ℕ} 0 1 = cc e in omega arith)
fault_nonzero (suc n) fault e = omega arith

pub fault_none : (number : ℕ) → fault_of number ≡ None → number ≡ 0
fault_none zero e = refl
fault_none (suc n) e = absurd (let z : ◌≡◌ {A = ℕ} 0 1 = cc e in omega arith)

pub fault_is : (number : ℕ) (fault : Fault) → fault_of number ≡ Some fault → fault ≡ fault_numbered number
fault_is zero fault e = absurd (let z : ◌≡◌ {A = ℕ} 0 1 = cc e in omega arith)
fault_is (suc n) fault e = cc e

-- entries that are gone through: the first with a fault ends it, and with none what comes next decides
module _ {A B : Type 0} (form : A → B) (count : ℕ) (number : ℕ → ℕ) (next : Outcome A) where
  pub entry_stops : (i : ℕ) (fault : Fault) → ((k : ℕ) → k < i → number k ≡ 0) → i < count → fault_of (number i) ≡ Some fault
      → Err (record { fault = fault; place = i }) ≡ returned_by form (by_entry count number next)
  entry_stops i fault sound below found =
      rw (by_entry_stops number next count i sound below (fault_nonzero _ _ found), fault_is _ _ found) refl

  pub entries_pass : ((k : ℕ) → k < count → number k ≡ 0) → returned_by form next ≡ returned_by form (by_entry count number next)
  entries_pass sound = rw (by_entry_passes number next count sound) refl

-- the same of what is returned in a form of the code
module _ {A B : Type 0} (Holds : A → B → Type 0) where
  pub returns_refused : (outcome : Outcome A) (own : Refusal) → Returns Holds outcome (Err own) → RefusedBy outcome own
  returns_refused (refused number place) own e = record { number = number; place = place; outcome_is = refl; own_is = e }
  returns_refused (answer a) own e = absurd e

  pub returns_answered : (outcome : Outcome A) (b : B) → Returns Holds outcome (Ok b) → (a : A) × (outcome ≡ answer a) × Holds a b
  returns_answered (refused number place) b e = absurd e
  returns_answered (answer a) b h = (a, refl, h)

  -- what a refused outcome returns, and an answered one
  pub refusal_returns : {outcome : Outcome A} {own : Refusal} → RefusedBy outcome own → Returns Holds outcome (Err own)
  refusal_returns by = rw by.outcome_is by.own_is

  pub answer_returns : {outcome : Outcome A} {a : A} {b : B} → outcome ≡ answer a → Holds a b → Returns Holds outcome (Ok b)
  answer_returns e h = rw e h

-- a refusal goes on past what would come next
pub refused_then : {A B : Type 0} {outcome : Outcome A} (next : A → Outcome B) {own : Refusal} → RefusedBy outcome own → RefusedBy (and_then outcome next) own
refused_then next by = record { number = by.number; place = by.place; outcome_is = rw by.outcome_is refl; own_is = by.own_is }
