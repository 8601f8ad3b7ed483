-- Laws of the refusals: what is refused, and what an answer says of the refusals before it.
-- Assumes nothing.
use mathlib.Core.Path.{◌≡◌, refl, ◌∙◌, ap}
use mathlib.Core.Bool.{Bool, true, false}
use mathlib.Core.Logic.{◌⊎◌, inl, inr}
use Prim.Native.Nat.{ℕ, zero, suc, ◌+◌, ◌<◌, ◌≤◌}
use native.Mathlib.Nat.{add-zero, zero-add}
use native.Mathlib.Omega.{arith}
use lib.Dec.{ltb}
use borrow.Author.Tests.{ltb-false}
use Rattle.model.specs.Outcome.{Outcome, refused, answer, and_then, refuse_when, refuse_at, refuse_under, by_entry_from, by_entry}
use Rattle.model.proofs.Numbers.{true_or_false}

pub refuse_at_bad : {A : Type 0} (number place : ℕ) (next : Outcome A) → 0 < number → refuse_at number place next ≡ refused number place
refuse_at_bad zero place next bad = absurd (omega arith)
refuse_at_bad (suc n) place next bad = refl

-- a refusal and an answer are never equal
pub refused≢answer : {A : Type 0} {number place : ℕ} {a : A} → refused number place ≡ answer a → ⊥
refused≢answer e = let z : ◌≡◌ {A = ℕ} 0 1 = cc e in omega arith

pub answer_injective : {A : Type 0} {a b : A} → answer a ≡ answer b → a ≡ b
answer_injective e = cc e

-- an answer says that the condition before it was false
pub answered_past : {A : Type 0} {a : A} (condition : Bool) (number : ℕ) (next : Outcome A) → refuse_when condition number next ≡ answer a
    → (condition ≡ false) × (next ≡ answer a)
answered_past true number next e = absurd (refused≢answer e)
answered_past false number next e = (refl, e)

-- an answer says that the room was enough
pub answered_within : {A : Type 0} {a : A} (wanted number room : ℕ) (next : Outcome A) → refuse_under wanted number room next ≡ answer a
    → (wanted ≤ room) × (next ≡ answer a)
answered_within {A} {a} wanted number room next e = go (true_or_false (ltb room wanted))
  where
    go : (ltb room wanted ≡ true) ⊎ (ltb room wanted ≡ false) → (wanted ≤ room) × (next ≡ answer a)
    go (inl short) = absurd (refused≢answer (rw short at e))
    go (inr enough) = (ltb-false room wanted enough, rw enough at e)

-- an answer after another operation says that the other answered
pub and_then_answered : {A B : Type 0} {b : B} (first : Outcome A) (next : A → Outcome B) → and_then first next ≡ answer b
    → (a : A) × (first ≡ answer a) × (next a ≡ answer b)
and_then_answered (refused number place) next e = absurd (refused≢answer e)
and_then_answered (answer a) next e = (a, refl, e)

refuse_at_answered : {A : Type 0} {a : A} (number place : ℕ) (next : Outcome A) → refuse_at number place next ≡ answer a
    → (number ≡ 0) × (next ≡ answer a)
refuse_at_answered zero place next e = (refl, e)
refuse_at_answered (suc n) place next e = absurd (refused≢answer e)

module _ {A : Type 0} (fault : ℕ → ℕ) (next : Outcome A) where
  passes_from : (first count : ℕ) → ((i : ℕ) → first ≤ i → i < first + count → fault i ≡ 0) → by_entry_from first count fault next ≡ next
  unfolding by_entry_from
  passes_from first zero sound = refl
  passes_from first (suc count) sound =
      rw (sound first (omega arith) (omega arith))
      (passes_from (suc first) count (λ i low high. sound i (omega arith) (omega arith)))

  -- with no fault at any entry, what comes next decides
  pub by_entry_passes : (count : ℕ) → ((i : ℕ) → i < count → fault i ≡ 0) → by_entry count fault next ≡ next
  by_entry_passes count sound = passes_from 0 count (λ i low high. sound i (omega arith))

  stops_from : (first count d : ℕ) → ((i : ℕ) → first ≤ i → i < first + d → fault i ≡ 0) → d < count → 0 < fault (first + d)
      → by_entry_from first count fault next ≡ refused (fault (first + d)) (first + d)
  unfolding by_entry_from
  stops_from first zero d sound below bad = absurd (omega arith)
  stops_from first (suc count) zero sound below bad =
      rw add-zero (refuse_at_bad (fault first) first (by_entry_from (suc first) count fault next) (rw add-zero at bad))
  stops_from first (suc count) (suc d) sound below bad =
      let e : suc first + d ≡ first + suc d = omega arith in
      rw (sound first (omega arith) (omega arith), ← e)
      (stops_from (suc first) count d (λ i low high. sound i (omega arith) (omega arith)) (omega arith) (rw (← e) at bad))

  -- the first entry with a fault refuses
  pub by_entry_stops : (count i : ℕ) → ((k : ℕ) → k < i → fault k ≡ 0) → i < count → 0 < fault i → by_entry count fault next ≡ refused (fault i) i
  by_entry_stops count i sound below bad =
      rw zero-add at (stops_from 0 count i (λ k low high. sound k (omega arith)) below (rw zero-add bad))

  sound_from : {a : A} (first count : ℕ) → by_entry_from first count fault next ≡ answer a
      → ((d : ℕ) → d < count → fault (first + d) ≡ 0) × (next ≡ answer a)
  unfolding by_entry_from
  sound_from first zero e = ((λ d h. absurd (omega arith)), e)
  sound_from first (suc count) e =
      let here = refuse_at_answered (fault first) first (by_entry_from (suc first) count fault next) e in
      let later = sound_from (suc first) count here.1 in
      (each here.0 later.0, later.1)
    where
      each : fault first ≡ 0 → ((d : ℕ) → d < count → fault (suc first + d) ≡ 0) → (d : ℕ) → d < suc count → fault (first + d) ≡ 0
      each now later zero below = rw add-zero now
      each now later (suc d) below =
          let e : first + suc d ≡ suc first + d = omega arith in
          rw e (later d (omega arith))

  -- an answer says that no entry has a fault
  pub by_entry_answered : {a : A} (count : ℕ) → by_entry count fault next ≡ answer a → ((i : ℕ) → i < count → fault i ≡ 0) × (next ≡ answer a)
  by_entry_answered count e =
      let all = sound_from 0 count e in
      ((λ i below. rw zero-add at (all.0 i below)), all.1)

-- What is done after a refusal, or after the refusals of all entries, is done after what comes next.
module _ {A B : Type 0} (next : Outcome A) (then : A → Outcome B) where
  pub after_test : (condition : Bool) (number : ℕ) → and_then (refuse_when condition number next) then ≡ refuse_when condition number (and_then next then)
  after_test true number = refl
  after_test false number = refl

  after_fault : (number place : ℕ) → and_then (refuse_at number place next) then ≡ refuse_at number place (and_then next then)
  after_fault zero place = refl
  after_fault (suc number) place = refl

module _ {A B : Type 0} (then : A → Outcome B) where
  pub after-entries : (first count : ℕ) (fault : ℕ → ℕ) (next : Outcome A)
      → and_then (by_entry_from first count fault next) then ≡ by_entry_from first count fault (and_then next then)
  unfolding by_entry_from
  after-entries first zero fault next = refl
  after-entries first (suc count) fault next =
      after_fault _ then (fault first) first ∙ ap (refuse_at (fault first) first) (after-entries (suc first) count fault next)
