-- Laws of the open sets: a set of numbers written as the bits of a number, how many it has, one bit more in a machine
-- word, and the open pairs.
-- Assumes nothing.
use mathlib.Core.Path.{◌≡◌, refl, ◌∙◌, ap}
use mathlib.Core.Bool.{Bool, true, false}
use mathlib.Core.Logic.{◌⊎◌, inl, inr}
use mathlib.Core.List.{List}
use Prim.Native.Nat.{ℕ, zero, suc, ◌+◌, ◌-◌, ◌*◌, ◌/◌, ◌%◌, ◌^◌, ◌<◌, ◌≤◌}
use native.Mathlib.Nat.{eq-or-lt_of_le, le_of_suc-le-suc, mul-one, pow-suc, mod-eq_of_lt, mul-add-div_right, mul-add-mod_self_right}
use native.Mathlib.Omega.{arith}
use lib.ListN.{length}
use lib.Pow.{pow_pos, pow-lt, pow-add, high}
use lib.Count.{ones, ones_cat}
use Rattle.model.specs.declared.Job.{Job}
use Rattle.model.specs.Sum.{sum, only_if}
use Rattle.model.specs.Jobs.{job_of}
use Rattle.model.specs.Intervals.{interval_count, is_open, open_set, open_count, open_pairs}
use Rattle.model.proofs.Sum.{sum_mono, sum_const}

-- a 1 shifted in a machine word by fewer than 64 places
pub bit_shifted : (j : ℕ) → j < 64 → 1 * 2 ^ j % 2 ^ 64 ≡ 2 ^ j
bit_shifted j below = omega (arith, pow-lt below)

sum_at_most : (n most : ℕ) {f : ℕ → ℕ} → ((i : ℕ) → i < n → f i ≤ most) → sum n f ≤ n * most
sum_at_most n most small = rw (← sum_const n most) (sum_mono n small)

bit_small : (t : Bool) → only_if t 1 ≤ 1
bit_small true = omega arith
bit_small false = omega arith

bit_ones : (t : Bool) → ones (only_if t 1) ≡ only_if t 1
unfolding ones
bit_ones true = refl
bit_ones false = refl

-- one more bit stands above the bits before it
bit_above : (t : Bool) (n below : ℕ) → below + only_if t (2 ^ n) ≡ only_if t 1 * 2 ^ n + below
bit_above true n below = omega arith
bit_above false n below = omega arith

-- what stands above bit j has no effect on it
bits_lower : (above n j below : ℕ) → j < n → (above * 2 ^ n + below) / 2 ^ j % 2 ≡ below / 2 ^ j % 2
bits_lower above n j below less =
    let d : ℕ = n - suc j in
    let place : n ≡ suc d + j = omega arith in
    let power : 2 ^ n ≡ 2 ^ d * 2 * 2 ^ j = ap (λ (x : ℕ). 2 ^ x) place ∙ pow-add 2 (suc d) j ∙ rw pow-suc in
    let all : above * 2 ^ n + below ≡ above * 2 ^ d * 2 * 2 ^ j + below = rw power (omega arith) in
    rw (all, mul-add-div_right (pow_pos j) (above * 2 ^ d * 2) below, mul-add-mod_self_right)

-- The set of the numbers below n that pass a test, bit number equal to number.
module _ (test : ℕ → Bool) where
  pub bits_below : (n : ℕ) → sum n (λ j. only_if (test j) (2 ^ j)) < 2 ^ n
  unfolding sum
  bits_below zero = omega arith
  bits_below (suc n) = rw pow-suc (step (test n) (bits_below n))
    where
      step : (t : Bool) → sum n (λ j. only_if (test j) (2 ^ j)) < 2 ^ n → sum n (λ j. only_if (test j) (2 ^ j)) + only_if t (2 ^ n) < 2 ^ n * 2
      step true less = omega arith
      step false less = omega arith

  -- it has as many bits as numbers pass
  pub bits_ones : (n : ℕ) → ones (sum n (λ j. only_if (test j) (2 ^ j))) ≡ sum n (λ j. only_if (test j) 1)
  unfolding sum ones
  bits_ones zero = refl
  bits_ones (suc n) =
      let set : ℕ = sum n (λ j. only_if (test j) (2 ^ j)) in
      rw (bit_above (test n) n set, ones_cat n (only_if (test n) 1) set (bits_below n)) (omega (arith, bit_ones (test n), bits_ones n))

  -- bit j is set exactly when j passes
  pub bits_at : (n j : ℕ) → j < n → sum n (λ i. only_if (test i) (2 ^ i)) / 2 ^ j % 2 ≡ only_if (test j) 1
  unfolding sum
  bits_at zero j below = absurd (omega arith)
  bits_at (suc n) j below =
      rw (bit_above (test n) n (sum n (λ i. only_if (test i) (2 ^ i)))) (go (eq-or-lt_of_le (le_of_suc-le-suc below)) (bits_at n j))
    where
      go : (j ≡ n) ⊎ (j < n) → (j < n → sum n (λ i. only_if (test i) (2 ^ i)) / 2 ^ j % 2 ≡ only_if (test j) 1)
          → (only_if (test n) 1 * 2 ^ n + sum n (λ i. only_if (test i) (2 ^ i))) / 2 ^ j % 2 ≡ only_if (test j) 1
      go (inl last) step = rw (last, high (only_if (test n) 1) n (bits_below n)) (mod-eq_of_lt (omega (arith, bit_small (test n))))
      go (inr inside) step = rw (bits_lower (only_if (test n) 1) n j _ inside) (step inside)

module _ (bounds : List ℕ) (jobs : List Job) where
  pub open_set_below : (i : ℕ) → open_set bounds jobs i < 2 ^ length jobs
  unfolding open_set
  open_set_below i = bits_below (λ j. is_open bounds (job_of jobs j) i) (length jobs)

  pub open_set_ones : (i : ℕ) → ones (open_set bounds jobs i) ≡ open_count bounds jobs i
  unfolding open_set open_count
  open_set_ones i = bits_ones (λ j. is_open bounds (job_of jobs j) i) (length jobs)

  pub open_set_bit : (i j : ℕ) → j < length jobs → open_set bounds jobs i / 2 ^ j % 2 ≡ only_if (is_open bounds (job_of jobs j) i) 1
  unfolding open_set
  open_set_bit i j below = bits_at (λ j. is_open bounds (job_of jobs j) i) (length jobs) j below

  pub open_count_few : (i : ℕ) → open_count bounds jobs i ≤ length jobs
  unfolding open_count
  open_count_few i = rw mul-one at (sum_at_most (length jobs) 1 (λ j below. bit_small (is_open bounds (job_of jobs j) i)))

  pub open_pairs_few : open_pairs bounds jobs ≤ interval_count bounds * length jobs
  unfolding open_pairs
  open_pairs_few = sum_at_most (interval_count bounds) (length jobs) (λ i below. open_count_few i)

  -- without jobs no pair is open
  pub open_pairs_none : length jobs ≡ 0 → open_pairs bounds jobs ≡ 0
  open_pairs_none none = let few = rw none at open_pairs_few in omega (arith, few)
