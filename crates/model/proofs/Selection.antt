-- Laws of the elements of a list that pass a test: taken from the front of the list one after another; no more pass than
-- there are; and where as many pass as there are, they are the list.
-- Assumes nothing.
use mathlib.Core.Path.{◌≡◌, refl, ap}
use mathlib.Core.Bool.{Bool, true, false, cond}
use mathlib.Core.List.{List, [], ◌∷◌, ◌++◌}
use Prim.Native.Nat.{ℕ, zero, suc, ◌+◌, ◌<◌, ◌≤◌}
use native.Mathlib.Nat.{le_of_suc-le-suc, add-zero}
use native.Mathlib.Omega.{arith}
use lib.ListN.{length, get_or, take}
use Rattle.model.specs.Points.{Point, select_from}

module _ (test : ℕ → Bool) where
  -- no more elements pass than there are
  pub select_length : (first : ℕ) (xs : List Point) → length (select_from first test xs) ≤ length xs
  unfolding select_from
  select_length first [] = omega arith
  select_length first (x ∷ xs) = go (test first) _ (select_length (suc first) xs)
    where
      go : (t : Bool) (l : List Point) → length l ≤ length xs → length (cond t (x ∷ l) l) ≤ suc (length xs)
      go true l fewer = omega arith
      go false l fewer = omega arith

  -- where as many pass as there are, all do
  pub select_all : (first : ℕ) (xs : List Point) → length (select_from first test xs) ≡ length xs → select_from first test xs ≡ xs
  unfolding select_from
  select_all first [] same = refl
  select_all first (x ∷ xs) same = go (test first) _ (select_length (suc first) xs) (select_all (suc first) xs) same
    where
      go : (t : Bool) (l : List Point) → length l ≤ length xs → (length l ≡ length xs → l ≡ xs)
          → length (cond t (x ∷ l) l) ≡ suc (length xs) → cond t (x ∷ l) l ≡ x ∷ xs
      go true l fewer rest same = ap (λ (t : List Point). x ∷ t) (rest (omega arith))
      go false l fewer rest same = absurd (omega arith)

  -- element i of the list, at the end of those before it
  pub select_next : (first : ℕ) (xs : List Point) (i : ℕ) (d : Point) → i < length xs
      → select_from first test (take (suc i) xs) ≡ select_from first test (take i xs) ++ cond (test (first + i)) (get_or xs i d ∷ []) []
  unfolding select_from
  select_next first [] i d below = absurd (omega arith)
  select_next first (x ∷ xs) zero d below = rw add-zero
  select_next first (x ∷ xs) (suc i) d below =
      let e : first + suc i ≡ suc first + i = omega arith in
      rw (e, select_next (suc first) xs i d (le_of_suc-le-suc below)) (go (test first) _ _)
    where
      go : (t : Bool) (l r : List Point) → cond t (x ∷ (l ++ r)) (l ++ r) ≡ cond t (x ∷ l) l ++ r
      go true l r = refl
      go false l r = refl
