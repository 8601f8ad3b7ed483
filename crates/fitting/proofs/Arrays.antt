-- Laws of an array that holds a function's values: before the first store, and when one value is stored.
-- Assumes nothing.
use mathlib.Core.Path.{◌≡◌, sym, ◌∙◌}
use Prim.Native.Nat.{ℕ, ◌<◌}
use native.Mathlib.Decide.{ℕ_discrete}
use native.Mathlib.Omega.{arith}
use lib.ListN.{get_or, set, replicate, length-set, length-replicate, get_or-replicate}
use lib.Seq.{ext_get_or, get_or-set_same, get_or-set_other}
use Rattle.model.specs.Entries.{list_of}
use Rattle.model.proofs.Entries.{length_list_of, get_d_list_of}

module _ {A : Type 0} (size : ℕ) (default : A) where
  -- an array of one value
  pub same_hold : (value : A) (f : ℕ → A) → ((i : ℕ) → i < size → f i ≡ value) → replicate size value ≡ list_of size f
  same_hold value f same =
      ext_get_or default _ _ (length-replicate size value ∙ sym (length_list_of size f))
      (λ i below. let inside : i < size = rw length-replicate at below in
      get_or-replicate size i value default inside ∙ sym (get_d_list_of size f i default inside ∙ same i inside))

  -- one value stored, the others as they were
  pub store_holds : (f g : ℕ → A) (k : ℕ) (value : A) → k < size → value ≡ g k → ((i : ℕ) → i < size → (i ≡ k → ⊥) → g i ≡ f i)
      → set (list_of size f) k value ≡ list_of size g
  store_holds f g k value inside stored others =
      ext_get_or default _ _ (length-set (list_of size f) k value ∙ (length_list_of size f ∙ sym (length_list_of size g)))
      (λ i below. at i (omega (arith, length-set (list_of size f) k value, length_list_of size f)) (ℕ_discrete i k))
    where
      at : (i : ℕ) → i < size → Dec (i ≡ k) → get_or (set (list_of size f) k value) i default ≡ get_or (list_of size g) i default
      at i within (yes same) =
          rw same
          (get_or-set_same (list_of size f) k value default (omega (arith, length_list_of size f))
          ∙ stored ∙ sym (get_d_list_of size g k default inside))
      at i within (no other) =
          get_or-set_other (list_of size f) k i value default other
          ∙ get_d_list_of size f i default within ∙ sym (get_d_list_of size g i default within ∙ others i within other)
