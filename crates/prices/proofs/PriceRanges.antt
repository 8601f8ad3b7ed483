-- Laws of going through the prices of a range of intervals.
-- Assumes nothing.
use mathlib.Core.Path.{◌≡◌, refl}
use mathlib.Core.Logic.{◌⊎◌, inl, inr}
use Prim.Native.Nat.{ℕ, ◌+◌, ◌<◌, ◌≤◌}
use native.Mathlib.Nat.{eq-or-lt_of_le, le_of_suc-le-suc}
use native.Mathlib.Numerals.{add-one}
use native.Mathlib.Omega.{arith}
use Rattle.model.specs.Plans.{Shares}
use Rattle.prices.specs.RisingPrices.{HighestPrice}

-- what holds of each number of a range, and of the next one
pub range_more : (P : ℕ → Type 0) (start i : ℕ) → ((k : ℕ) → start ≤ k → k < i → P k) → P i → (k : ℕ) → start ≤ k → k < i + 1 → P k
range_more P start i before here k from to = go (eq-or-lt_of_le (le_of_suc-le-suc (rw add-one at to)))
  where
    go : (k ≡ i) ⊎ (k < i) → P k
    go (inl e) = rw e here
    go (inr less) = before k from less

module _ {shares : Shares} {prices : ℕ → ℕ} {job first : ℕ} where
  pub highest_none : HighestPrice shares prices job first first 0
  highest_none = record { most = λ i from to. absurd (omega arith); held = λ more. absurd (omega arith) }

  module _ {i highest : ℕ} (before : HighestPrice shares prices job first i highest) where
    -- an interval without a share, or at no higher price
    pub highest_pass : (0 < shares i job → prices i ≤ highest) → HighestPrice shares prices job first (i + 1) highest
    highest_pass here =
        record {
          most = range_more _ first i before.most here;
          held = λ more. let (k, from, to, share, is) = before.held more in (k, from, omega arith, share, is);
        }

    -- an interval at a higher price
    pub highest_more : first ≤ i → 0 < shares i job → highest < prices i → HighestPrice shares prices job first (i + 1) (prices i)
    highest_more from share higher =
        record {
          most = range_more _ first i (λ k from to has. omega (arith, before.most k from to has)) (λ has. omega arith);
          held = λ more. (i, from, omega arith, share, refl);
        }
