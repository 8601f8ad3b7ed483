-- Laws of raising the prices of a range, in a part of an array.
-- Assumes nothing.
use mathlib.Core.Path.{◌≡◌, ◌∙◌, ap}
use mathlib.Core.Logic.{◌⊎◌, inl, inr}
use mathlib.Core.List.{List}
use Prim.Native.Nat.{ℕ, ◌+◌, ◌-◌, ◌<◌, ◌≤◌, max}
use native.Mathlib.Omega.{arith}
use lib.ListN.{length}
use borrow.Rule.Slice.PartMut.{put_mid}
use Rattle.std.proofs.Common.{rules}
use Rattle.std.proofs.lemmas.List.{places}
use Rattle.model.proofs.Numbers.{lt_or_le}
use Rattle.workloads.specs.Arrays.{numbers_in}
use Rattle.prices.specs.RisingPrices.{Raised}

module _ {start end price : ℕ} {before after : ℕ → ℕ} (raised : Raised start end price before after) where
  -- a price stays, or it is raised
  pub raised_case : (i : ℕ) → (after i ≡ before i) ⊎ ((start ≤ i) × (i < end) × (after i ≡ max (before i) price))
  raised_case i = go (lt_or_le i start) (lt_or_le i end)
    where
      go : (i < start) ⊎ (start ≤ i) → (i < end) ⊎ (end ≤ i) → (after i ≡ before i) ⊎ ((start ≤ i) × (i < end) × (after i ≡ max (before i) price))
      go (inl early) other = inl (raised.outside i (inl early))
      go (inr from) (inl to) = inr (from, to, raised.inside i from to)
      go (inr from) (inr past) = inl (raised.outside i (inr past))

  -- no price falls
  pub raised_up : (i : ℕ) → before i ≤ after i
  raised_up i = go (raised_case i)
    where
      go : (after i ≡ before i) ⊎ ((start ≤ i) × (i < end) × (after i ≡ max (before i) price)) → before i ≤ after i
      go (inl same) = omega arith
      go (inr (from, to, up)) = omega arith

-- the prices of a range, raised in a part of the array
pub raised_part : (start end price : ℕ) (prices part : List ℕ) → start ≤ end → end ≤ length prices → length part ≡ end - start
    → ((k : ℕ) → k < length part → numbers_in part k ≡ max (numbers_in prices (start + k)) price)
    → Raised start end price (numbers_in prices) (numbers_in (put_mid start (end - start) prices part))
raised_part start end price prices part order within long raise = record { inside = in_part; outside = out_of_part }
  where
    after : ℕ → ℕ
    after = numbers_in (put_mid start (end - start) prices part)

    in_part : (i : ℕ) → start ≤ i → i < end → after i ≡ max (numbers_in prices i) price
    in_part i from to =
        let place : start + (i - start) ≡ i = omega arith in
        let put : after i ≡ numbers_in part (i - start) = search (rules, places) in
        rw put (raise (i - start) (omega arith) ∙ ap (λ n. max (numbers_in prices n) price) place)

    out_of_part : (i : ℕ) → (i < start) ⊎ (end ≤ i) → after i ≡ numbers_in prices i
    out_of_part i (inl early) = search (rules, places)
    out_of_part i (inr past) = search (rules, places)
