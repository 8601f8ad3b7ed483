-- The law of distinct releases: a sum over the bounds that are a release is one over the jobs whose release is new.
-- Assumes nothing.
use mathlib.Core.Path.{◌≡◌, refl, sym, ◌∙◌}
use mathlib.Core.Bool.{Bool, true, false, not, ◌||◌}
use mathlib.Core.Logic.{◌⊎◌, inl, inr}
use Prim.Native.Nat.{ℕ, zero, suc, ◌+◌, ◌<◌}
use native.Mathlib.Omega.{arith}
use lib.Dec.{eqb}
use borrow.Author.Tests.{eq-eqb, ne_eqb, eqb-true, eqb-false}
use Rattle.model.specs.Sum.{sum, only_if}
use Rattle.model.specs.Search.{some_below}
use Rattle.model.proofs.Numbers.{true_or_false}
use Rattle.model.proofs.Sum.{sum_zero, sum_cong, sum_update}
use Rattle.model.proofs.Search.{some_below_found, some_below_holds}

-- of a sequence of releases, and of bounds that differ from each other
module _ (release bound : ℕ → ℕ) (count : ℕ) (f : ℕ → ℕ)
    (differ : (i k : ℕ) → i < count → k < count → bound i ≡ bound k → i ≡ k) where
  -- bound i is one of the first n releases
  abbrev pub is_among : (n i : ℕ) → Bool
  is_among n i = some_below n (λ j. eqb (release j) (bound i))

  abbrev pub is_new : (j : ℕ) → Bool
  is_new j = not (some_below j (λ i. eqb (release i) (release j)))

  -- the sum over the bounds that are among the first n releases
  abbrev among : (n : ℕ) → ℕ
  among n = sum count (λ i. only_if (is_among n i) (f (bound i)))

  or-false : (t : Bool) → (t || false) ≡ t
  or-false true = refl
  or-false false = refl

  -- a bound that is not release n is among the releases as before
  other : (n i : ℕ) → (release n ≡ bound i → ⊥) → is_among (suc n) i ≡ is_among n i
  unfolding some_below
  other n i apart = rw (ne_eqb (release n) (bound i) apart) (or-false (is_among n i))

  -- a release that an earlier job has
  old_release : (n : ℕ) → some_below n (λ i. eqb (release i) (release n)) ≡ true → among (suc n) ≡ among n
  unfolding some_below
  old_release n old = sum_cong count (λ i below. rw (same i (true_or_false (eqb (release n) (bound i)))))
    where
      same : (i : ℕ) → (eqb (release n) (bound i) ≡ true) ⊎ (eqb (release n) (bound i) ≡ false) → is_among (suc n) i ≡ is_among n i
      same i (inl here) =
          let (j, below, again) = some_below_found n (λ k. eqb (release k) (release n)) old in
          let is : release j ≡ bound i = eqb-true (release j) (release n) again ∙ eqb-true (release n) (bound i) here in
          rw (some_below_holds n (λ k. eqb (release k) (bound i)) j below (eq-eqb (release j) (bound i) is))
      same i (inr apart) = other n i (eqb-false (release n) (bound i) apart)

  -- a new one is one bound more
  new_release : (n k : ℕ) → k < count → bound k ≡ release n → some_below n (λ i. eqb (release i) (release n)) ≡ false
      → among (suc n) ≡ among n + f (release n)
  unfolding some_below
  new_release n k below is new =
      sum_update count (λ i. only_if (is_among n i) (f (bound i))) (λ i. only_if (is_among (suc n) i) (f (bound i))) k (f (release n)) below
      (rw (is, new, eq-eqb (release n) (release n) refl) (omega arith))
      (λ i inside apart. rw (other n i (λ same. apart (differ i k inside below (sym same ∙ sym is)))))

  pub distinct_releases : (n : ℕ) → ((j : ℕ) → j < n → (i : ℕ) × (i < count) × (bound i ≡ release j))
      → among n ≡ sum n (λ j. only_if (is_new j) (f (release j)))
  unfolding sum some_below
  distinct_releases zero found = sum_zero count (λ i below. refl)
  distinct_releases (suc n) found =
      step (true_or_false (some_below n (λ i. eqb (release i) (release n)))) (found n (omega arith))
      (distinct_releases n (λ j below. found j (omega arith)))
    where
      step : (some_below n (λ i. eqb (release i) (release n)) ≡ true) ⊎ (some_below n (λ i. eqb (release i) (release n)) ≡ false)
          → (i : ℕ) × (i < count) × (bound i ≡ release n) → among n ≡ sum n (λ j. only_if (is_new j) (f (release j)))
          → among (suc n) ≡ sum n (λ j. only_if (is_new j) (f (release j))) + only_if (is_new n) (f (release n))
      step (inl old) here before = rw old (omega (arith, old_release n old, before))
      step (inr new) (k, below, is) before = rw new (omega (arith, new_release n k below is new, before))
