-- What an operation gives: an answer, or a refusal with its number and its place.
use Rattle.std.specs.Prelude.{ℕ, zero, suc, ◌≤◌, ◌≡◌, Bool, true, false, cond, ltb}

pub data Outcome (A : Type 0) : Type 0 where
  -- the refusal's number in document 01, and its place, 0 where none is named
  refused : ℕ → ℕ → Outcome A
  answer : A → Outcome A

-- An operation after another: a refusal of the first is returned, and an answer is handed on.
abbrev pub and_then : {A B : Type 0} → Outcome A → (A → Outcome B) → Outcome B
and_then (refused number place) next = refused number place
and_then (answer a) next = next a

-- A refusal without a place: returned when its condition holds, and otherwise what comes next decides.
abbrev pub refuse_when : {A : Type 0} → Bool → ℕ → Outcome A → Outcome A
refuse_when true number next = refused number 0
refuse_when false number next = next

-- A refusal by its number at a place, where the number 0 stands for no refusal.
abbrev pub refuse_at : {A : Type 0} → ℕ → ℕ → Outcome A → Outcome A
refuse_at zero place next = next
refuse_at (suc n) place next = refused (suc n) place

-- A refusal where the room lent is under what is wanted, which is the place.
abbrev pub refuse_under : {A : Type 0} → (wanted number room : ℕ) → Outcome A → Outcome A
refuse_under wanted number room next = cond (ltb room wanted) (refused number wanted) next

-- The entries first, first + 1, .. , as many as count, are gone through one after another. The first entry with a
-- fault refuses: the fault's number is the refusal's, and the entry is its place. With no fault what comes next decides.
unfoldable pub by_entry_from : {A : Type 0} → (first count : ℕ) → (fault : ℕ → ℕ) → Outcome A → Outcome A
by_entry_from first zero fault next = next
by_entry_from first (suc count) fault next = refuse_at (fault first) first (by_entry_from (suc first) count fault next)

-- Entries count from 0.
abbrev pub by_entry : {A : Type 0} → (count : ℕ) → (fault : ℕ → ℕ) → Outcome A → Outcome A
by_entry count fault next = by_entry_from 0 count fault next

-- The numbers of document 01's refusals, from one to another.
abbrev pub From : (first last number : ℕ) → Type 0
From first last number = (first ≤ number) × (number ≤ last)

-- An outcome is an answer or a refusal; a refusal has one of the operation's numbers.
abbrev pub RefusesBy : {A : Type 0} → (numbers : ℕ → Type 0) → Outcome A → Type 0
RefusesBy numbers outcome = (number place : ℕ) → outcome ≡ refused number place → numbers number
