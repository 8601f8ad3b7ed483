-- Laws of the shares table: each interval and job have a place of their own in it, and what lies past it stays.
-- Assumes nothing.
use mathlib.Core.Path.{◌≡◌, refl, ◌∙◌}
use mathlib.Core.Logic.{◌⊎◌, inl, inr}
use mathlib.Core.List.{List}
use Prim.Native.Nat.{ℕ, ◌+◌, ◌*◌, ◌<◌, ◌≤◌}
use native.Mathlib.Nat.{mul-le-mul_right}
use native.Mathlib.Omega.{arith}
use lib.ListN.{length, set, length-set}
use lib.Seq.{drop-set-lt}
use Rattle.model.proofs.Numbers.{lt_or_le}
use Rattle.workloads.specs.Arrays.{KeptPast}

-- the place of a job in an interval lies in the table
pub place_below : {i n j jobs : ℕ} → i < n → j < jobs → i * jobs + j < n * jobs
place_below {i} {n} {j} {jobs} inside below = omega (arith, mul-le-mul_right jobs inside)

pub place_in : {i n j jobs : ℕ} (table : List ℕ) → n * jobs ≤ length table → i < n → j < jobs → i * jobs + j < length table
place_in table room inside below = omega (arith, place_below inside below)

-- a job in another interval, or another job, has another place
module _ (jobs i j k l : ℕ) (below : j < jobs) (next : l < jobs) (e : i * jobs + j ≡ k * jobs + l) where
  pub place_interval : i ≡ k
  place_interval = go (lt_or_le i k) (lt_or_le k i)
    where
      go : (i < k) ⊎ (k ≤ i) → (k < i) ⊎ (i ≤ k) → i ≡ k
      go (inl less) other = omega (arith, mul-le-mul_right jobs less)
      go (inr order) (inl less) = omega (arith, mul-le-mul_right jobs less)
      go (inr order) (inr other) = omega arith

  pub place_job : j ≡ l
  place_job = let here : k * jobs + j ≡ k * jobs + l = rw place_interval at e in omega arith

-- what lies past the table stays
pub kept_refl : (count : ℕ) (table : List ℕ) → KeptPast count table table
kept_refl count table = record { same_length = refl; same_rest = refl }

pub kept_trans : {count : ℕ} {before between after : List ℕ} → KeptPast count before between → KeptPast count between after → KeptPast count before after
kept_trans first second =
    record { same_length = second.same_length ∙ first.same_length; same_rest = second.same_rest ∙ first.same_rest }

pub kept_set : {count : ℕ} {before after : List ℕ} → KeptPast count before after → (place value : ℕ) → place < count → KeptPast count before (set after place value)
kept_set {count} {before} {after} kept place value inside =
    record {
      same_length = length-set after place value ∙ kept.same_length;
      same_rest = drop-set-lt count after place value inside ∙ kept.same_rest;
    }
