-- The fewest digits that hold a number are the digits of its text; a number of 64 bits has at most 20 of them.
-- Assumes nothing.
use mathlib.Core.Path.{◌≡◌, refl, sym, ◌∙◌, ap}
use mathlib.Core.Logic.{◌⊎◌, inl, inr}
use mathlib.Core.Bool.{Bool, true, false}
use mathlib.Core.List.{◌∷◌}
use Prim.Native.Nat.{ℕ, zero, suc, ◌-◌, ◌^◌, ◌<◌, ◌≤◌}
use native.Mathlib.Nat.{pow-suc, pow-le-pow_right}
use native.Mathlib.Omega.{arith}
use lib.Dec.{ltb}
use lib.IntN.{ℤ, pos, negsuc, nat_abs}
use lib.Signed.{lt_z}
use borrow.Author.Tests.{lt-ltb, le-ltb, ltb-true}
use Rattle.io.specs.Digits.{last_digits, IsDigitCount}
use Rattle.model.specs.Search.{first_below}
use Rattle.model.proofs.Numbers.{lt_or_le}
use Rattle.model.proofs.Search.{first_below_is, first_below_none}
use Rattle.listing_lines.specs.TextLines.{minus, places_of, decimal, signed_decimal}

ten_large : (k : ℕ) → k < 10 ^ k
ten_large zero = omega arith
ten_large (suc k) = rw pow-suc (omega (arith, ten_large k))

module _ (n : ℕ) where
  abbrev holds : ℕ → Bool
  holds k = ltb n (10 ^ suc k)

  past : (k : ℕ) → n ≤ k → (1 < suc k → 10 ^ k ≤ n) → k ≡ n
  past zero low needed = omega arith
  past (suc k) low needed = absurd (omega (arith, ten_large (suc k), needed (omega arith)))

  first-place : (k : ℕ) → n < 10 ^ suc k → (1 < suc k → 10 ^ k ≤ n) → k ≡ first_below n holds
  first-place k enough needed = go (lt_or_le k n)
    where
      go : (k < n) ⊎ (n ≤ k) → k ≡ first_below n holds
      go (inl below) =
          sym (first_below_is n holds k below
          (λ i before. le-ltb n (10 ^ suc i) (omega (arith, pow-le-pow_right {n = 10} (omega arith) {i = suc i} {j = k} before, needed (omega arith))))
          (lt-ltb n (10 ^ suc k) enough))
      go (inr low) =
          past k low needed
          ∙ sym (first_below_none n holds (λ i below. absurd (omega (arith, past k low needed, ten_large k, needed (omega (arith, past k low needed))))))

  fewest_places : (k : ℕ) → IsDigitCount 10 1 n k → k ≡ places_of n
  unfolding places_of
  fewest_places zero fewest = absurd (omega (arith, fewest.0))
  fewest_places (suc k) fewest =
      let e : suc k - 1 ≡ k = omega arith in
      ap suc (first-place k fewest.1 (λ more. rw e at (fewest.2 more)))

  pub fewest_digits : (k : ℕ) → IsDigitCount 10 1 n k → last_digits 10 k n ≡ decimal n
  unfolding decimal
  fewest_digits k fewest = rw (← fewest_places k fewest)

  pub twenty_digits : (k : ℕ) → IsDigitCount 10 1 n k → n < 2 ^ 64 → k ≤ 20
  twenty_digits k fewest small = go (lt_or_le 20 k)
    where
      go : (20 < k) ⊎ (k ≤ 20) → k ≤ 20
      go (inl more) =
          absurd (omega (arith, pow-le-pow_right {n = 10} (omega arith) {i = 20} {j = k - 1} (omega arith), fewest.2 (omega arith)))
      go (inr few) = few

-- the text of a number that may be negative, from its magnitude
pub signed_negative : (z : ℤ) → lt_z z (pos 0) ≡ true → minus ∷ decimal (nat_abs z) ≡ signed_decimal z
unfolding signed_decimal
signed_negative (pos n) below = absurd (omega (arith, ltb-true n 0 below))
signed_negative (negsuc n) below = refl

pub signed_positive : (z : ℤ) → lt_z z (pos 0) ≡ false → decimal (nat_abs z) ≡ signed_decimal z
unfolding signed_decimal
signed_positive (pos n) above = refl
signed_positive (negsuc n) above = let e : ◌≡◌ {A = ℕ} 0 1 = cc above in absurd (omega arith)
