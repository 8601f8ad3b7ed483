-- Laws of a list of different numbers that grows at its end: what is listed stays listed, and numbers below n that all
-- differ are at most n.
-- Assumes nothing.
use mathlib.Core.Path.{◌≡◌, sym, ◌∙◌}
use mathlib.Core.Logic.{◌⊎◌, inl, inr}
use Prim.Native.Nat.{ℕ, ◌<◌, ◌≤◌}
use native.Mathlib.Nat.{eq-zero-or-pos}
use native.Mathlib.Omega.{arith}
use lib.Dec.{eqb}
use borrow.Author.Tests.{eqb-true, ne_eqb}
use Rattle.model.specs.Sum.{sum, only_if}
use Rattle.model.proofs.Numbers.{lt_or_le}
use Rattle.model.proofs.Sum.{sum_cong, sum_mono, sum_const, sum_swap, sum_pos, sum_only, sum_hit}
use Rattle.model.proofs.SumMore.{only_if_le, only_if_pos}
use Rattle.searching.specs.Reached.{IsListed}

-- what is listed stays listed in a longer list
pub listed_kept : {count more j : ℕ} {before after : ℕ → ℕ} → count ≤ more → ((s : ℕ) → s < count → after s ≡ before s)
    → IsListed count before j → IsListed more after j
listed_kept longer same (s, below, is) = (s, omega arith, same s below ∙ is)

module _ (n count : ℕ) (listed : ℕ → ℕ) (small : (s : ℕ) → s < count → listed s < n)
    (differ : (r s : ℕ) → r < s → s < count → listed r ≡ listed s → ⊥) where
  one_place : (r s : ℕ) → r < count → s < count → listed r ≡ listed s → r ≡ s
  one_place r s first second same = go (lt_or_le r s) (lt_or_le s r)
    where
      go : (r < s) ⊎ (s ≤ r) → (s < r) ⊎ (r ≤ s) → r ≡ s
      go (inl less) other = absurd (differ r s less second same)
      go (inr more) (inl less) = absurd (differ s r less first (sym same))
      go (inr more) (inr even) = omega arith

  -- each number has at most one place
  places : (j : ℕ) → sum count (λ s. only_if (eqb (listed s) j) 1) ≤ 1
  places j = go (eq-zero-or-pos (sum count (λ s. only_if (eqb (listed s) j) 1)))
    where
      go : (sum count (λ s. only_if (eqb (listed s) j) 1) ≡ 0) ⊎ (0 < sum count (λ s. only_if (eqb (listed s) j) 1))
          → sum count (λ s. only_if (eqb (listed s) j) 1) ≤ 1
      go (inl never) = omega arith
      go (inr once) =
          let (k, below, hit) = sum_pos count (λ s. only_if (eqb (listed s) j) 1) once in
          let there : listed k ≡ j = eqb-true (listed k) j (only_if_pos (eqb (listed k) j) 1 hit).0 in
          let only = sum_only count (λ s. only_if (eqb (listed s) j) 1) k below
          (λ s inside other. rw (ne_eqb (listed s) j (λ e. other (one_place s k inside below (e ∙ sym there))))) in
          omega (arith, only_if_le (eqb (listed k) j) 1)

  -- numbers below n that all differ are at most n
  pub few_differ : count ≤ n
  few_differ =
      let each : sum count (λ s. sum n (λ j. only_if (eqb (listed s) j) 1)) ≡ sum count (λ s. 1) =
      sum_cong count (λ s below. sum_hit n (listed s) (λ j. 1) (small s below)) in
      let all : sum n (λ j. sum count (λ s. only_if (eqb (listed s) j) 1)) ≤ sum n (λ j. 1) = sum_mono n (λ j below. places j) in
      omega (arith, sum_swap count n (λ s j. only_if (eqb (listed s) j) 1), sum_const count 1, sum_const n 1)
