-- Laws of the tests that refuse: what a test that did not refuse says of its parts.
-- Assumes nothing.
use mathlib.Core.Path.{◌≡◌, refl, sym}
use mathlib.Core.Bool.{Bool, true, false, not, cond, ◌||◌, ◌&&◌}
use mathlib.Core.Logic.{◌↔◌}
use Prim.Native.Nat.{ℕ, suc, ◌≤◌}
use native.Mathlib.Omega.{arith}
use lib.Dec.{leb}
use borrow.Author.Tests.{leb-true}

-- neither of two tests refused
pub neither : (a b : Bool) → (a || b) ≡ false → (a ≡ false) × (b ≡ false)
neither true b e = (e, cc e)
neither false b e = (refl, e)

both : (a b : Bool) → not (a && b) ≡ false → (a ≡ true) × (b ≡ true)
both true true e = (refl, refl)
both true false e = (refl, sym e)
both false b e = (sym e, cc e)

-- a number was not refused for being outside of 1 to a limit
pub in-range : (x limit : ℕ) → not (leb 1 x && leb x limit) ≡ false → (1 ≤ x) × (x ≤ limit)
in-range x limit e =
    let h = both (leb 1 x) (leb x limit) e in
    (leb-true 1 x h.0, leb-true x limit h.1)

-- two tests, each with the number of its refusal
pub no_fault : (a b : Bool) (m n : ℕ) → cond a (suc m) (cond b (suc n) 0) ≡ 0 → (a ≡ false) × (b ≡ false)
no_fault true b m n e = absurd (omega arith)
no_fault false true m n e = absurd (omega arith)
no_fault false false m n e = (refl, refl)

-- a test that cannot fail
pub never_false : (test : Bool) → (test ≡ false → ⊥) → test ≡ true
never_false true h = refl
never_false false h = absurd (h refl)

-- a fault's number is 0 where a fact holds, and the refusal's otherwise
pub record FaultUnless (fact : Type 0) (fault number : ℕ) : Type 0 where
  pub sound : (fault ≡ 0) ↔ fact
  pub wrong : (fact → ⊥) → fault ≡ number

-- a test for the fact
pub fault_unless : {fact : Type 0} (test : Bool) (n : ℕ) → (test ≡ true) ↔ fact → FaultUnless fact (cond test 0 (suc n)) (suc n)
fault_unless true n law = record { sound = (λ e. law.0 refl, λ h. refl); wrong = λ h. absurd (h (law.0 refl)) }
fault_unless false n law = record { sound = (λ e. absurd (omega arith), λ h. cc (law.1 h)); wrong = λ h. refl }

-- a test for its opposite
pub fault_when : {fact : Type 0} (test : Bool) (n : ℕ) → (test ≡ false) ↔ fact → FaultUnless fact (cond test (suc n) 0) (suc n)
fault_when true n law = record { sound = (λ e. absurd (omega arith), λ h. cc (law.1 h)); wrong = λ h. refl }
fault_when false n law = record { sound = (λ e. law.0 refl, λ h. refl); wrong = λ h. absurd (h (law.0 refl)) }
