-- Laws of the list of all numbers below a count that pass a test: tests that agree, that each number which passes is in it, that
-- nothing else is, that it rises, and the list of the numbers of a table row by row.
-- Assumes nothing.
use mathlib.Core.Path.{◌≡◌, refl}
use mathlib.Core.Bool.{Bool, true, false, cond}
use mathlib.Core.List.{List, [], ◌∷◌}
use Prim.Native.Nat.{ℕ, zero, suc, ◌+◌, ◌*◌, ◌<◌}
use native.Mathlib.Omega.{arith}
use lib.ListN.{length, get_or}
use Rattle.model.specs.Sum.{only_if}
use Rattle.model.specs.Entries.{joined}
use Rattle.model.specs.Search.{passing_below}
use Rattle.model.proofs.Joined.{joined_cong, joined_split, Each, each_joined, each_where, ordered_joined, ordered_where, any_joined, any_where}

-- tests that agree give the same list
pub passing_cong : (count : ℕ) (f g : ℕ → Bool) → ((n : ℕ) → n < count → f n ≡ g n) → passing_below count f ≡ passing_below count g
passing_cong count f g same =
    joined_cong count (λ n. cond (f n) (n ∷ []) []) (λ n. cond (g n) (n ∷ []) []) (λ n below. rw (same n below))

-- one element where a test passes, and none where not
pub length_where : {A : Type 0} (test : Bool) (x : A) → length (cond test (x ∷ []) []) ≡ only_if test 1
length_where true x = refl
length_where false x = refl

module _ (count : ℕ) (test : ℕ → Bool) where
  abbrev list : List ℕ
  list = passing_below count test

  -- each number that passes is in the list
  pub passing_all : (n : ℕ) → n < count → test n ≡ true → (k : ℕ) × (k < length list) × (get_or list k 0 ≡ n)
  passing_all n below passes =
      any_joined 0 (λ x. x ≡ n) count _ n below (any_where 0 (λ x. x ≡ n) (test n) n passes refl)

  -- and nothing else
  pub passing_only : (k : ℕ) → k < length list → (get_or list k 0 < count) × (test (get_or list k 0) ≡ true)
  passing_only =
      each_joined 0 (λ x. (x < count) × (test x ≡ true)) count _
      (λ n below. each_where 0 (λ x. (x < count) × (test x ≡ true)) (test n) n (λ passes. (below, passes)))

  -- the list rises
  pub passing_rises : (k l : ℕ) → k < l → l < length list → get_or list k 0 < get_or list l 0
  passing_rises =
      ordered_joined 0 (λ a b. a < b) count _ (λ n below. ordered_where 0 (λ a b. a < b) (test n) n)
      (λ n m less below.
      each_where 0 (λ x. Each 0 (λ y. x < y) (cond (test m) (m ∷ []) [])) (test n) n
      (λ passes. each_where 0 (λ y. n < y) (test m) m (λ also. less)))

-- a table of n rows with m numbers each: the numbers of one row after another
pub passing_rows : (n m : ℕ) (test : ℕ → Bool)
    → passing_below (n * m) test ≡ joined n (λ i. joined m (λ j. cond (test (i * m + j)) ((i * m + j) ∷ []) []))
unfolding joined
passing_rows zero m test = let e : 0 * m ≡ 0 = omega arith in rw e
passing_rows (suc n) m test =
    let e : suc n * m ≡ n * m + m = omega arith in
    rw (e, joined_split (n * m) m (λ i. cond (test i) (i ∷ []) []), passing_rows n m test)
