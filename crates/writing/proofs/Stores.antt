-- Laws of stores into a list: a run of stores is two shorter runs one after the other, runs at different places can be
-- made in either order, a run from the front leaves the rest, and what stands at each place after a run.
-- Assumes nothing.
use mathlib.Core.Path.{◌≡◌, refl, ◌∙◌}
use mathlib.Core.Logic.{◌⊎◌, inl, inr}
use mathlib.Core.List.{List, [], ◌∷◌, ◌++◌}
use Prim.Native.Nat.{ℕ, zero, suc, ◌+◌, ◌<◌, ◌≤◌}
use native.Mathlib.Omega.{arith}
use lib.ListN.{length, get_or, drop, set, length-set}
use lib.Seq.{sets, sets-eq, set_comm, get_or-set_same, get_or-set_other}

module _ {A : Type 0} where
  sets_append : (l : List A) (i : ℕ) (a b : List A) → sets l i (a ++ b) ≡ sets (sets l i a) (i + length a) b
  sets_append l i [] b = let e : i + 0 ≡ i = omega arith in rw e
  sets_append l i (x ∷ a) b =
      let e : i + suc (length a) ≡ suc i + length a = omega arith in
      rw e (sets_append (set l i x) (suc i) a b)

  -- a run that starts where another ends
  pub sets_after : (l : List A) (i j : ℕ) (a b : List A) → j ≡ i + length a → sets (sets l i a) j b ≡ sets l i (a ++ b)
  sets_after l i j a b next = rw (next, sets_append l i a b)

  set_sets : (l : List A) (i : ℕ) (x : A) (j : ℕ) (b : List A) → i < j → sets (set l i x) j b ≡ set (sets l j b) i x
  set_sets l i x j [] before = refl
  set_sets l i x j (y ∷ b) before = rw (set_comm l i j x y (omega arith)) (set_sets (set l j y) i x (suc j) b (omega arith))

  sets_swap : (l : List A) (i j : ℕ) (a b : List A) → i + length a ≤ j → sets (sets l i a) j b ≡ sets (sets l j b) i a
  sets_swap l i j [] b before = refl
  sets_swap l i j (x ∷ a) b before = rw (sets_swap (set l i x) (suc i) j a b (omega arith), set_sets l i x j b (omega arith))

  pub sets_front : (l a : List A) (n : ℕ) → length a ≡ n → n ≤ length l → sets l 0 a ≡ a ++ drop n l
  sets_front l a n long fits = let e : 0 + length a ≡ n = omega arith in rw (sets-eq a l 0 (omega arith), e)

  -- what stands before a run or after it stays
  pub sets_outside : (l : List A) (i : ℕ) (a : List A) (p : ℕ) (d : A) → (p < i) ⊎ (i + length a ≤ p) → get_or (sets l i a) p d ≡ get_or l p d
  sets_outside l i [] p d apart = refl
  sets_outside l i (x ∷ a) p d (inl before) =
      sets_outside (set l i x) (suc i) a p d (inl (omega arith)) ∙ get_or-set_other l i p x d (λ e. omega arith)
  sets_outside l i (x ∷ a) p d (inr after) =
      sets_outside (set l i x) (suc i) a p d (inr (omega arith)) ∙ get_or-set_other l i p x d (λ e. omega arith)

  -- and within it stands what was stored
  pub sets_inside : (l : List A) (i : ℕ) (a : List A) (k : ℕ) (d : A) → k < length a → i + length a ≤ length l → get_or (sets l i a) (i + k) d ≡ get_or a k d
  sets_inside l i [] k d inside fits = absurd (omega arith)
  sets_inside l i (x ∷ a) zero d inside fits =
      let e : i + 0 ≡ i = omega arith in
      rw e (sets_outside (set l i x) (suc i) a i d (inl (omega arith)) ∙ get_or-set_same l i x d (omega arith))
  sets_inside l i (x ∷ a) (suc k) d inside fits =
      let e : i + suc k ≡ suc i + k = omega arith in
      rw e (sets_inside (set l i x) (suc i) a k d (omega arith) (omega (arith, length-set l i x)))

  -- two runs at two places, and after them a longer part of each
  pub sets_two : (l : List A) (i j : ℕ) (a b c d : List A) → i + length a + length b ≤ j
      → sets (sets (sets (sets l i a) j c) (i + length a) b) (j + length c) d ≡ sets (sets l i (a ++ b)) j (c ++ d)
  sets_two l i j a b c d room =
      rw (sets_append l i a b, sets_append (sets (sets l i a) (i + length a) b) j c d, sets_swap (sets l i a) (i + length a) j b c room)
