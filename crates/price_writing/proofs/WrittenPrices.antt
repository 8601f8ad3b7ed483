-- Laws of the price list that is written: it is a price list over the bounds where its ends are theirs, and its prices
-- are the given ones.
-- Assumes nothing.
use mathlib.Core.Path.{◌≡◌, refl, sym, ◌∙◌, ap}
use mathlib.Core.List.{List, [], ◌++◌, append-nil}
use Prim.Native.Nat.{ℕ, suc, ◌+◌, ◌*◌, ◌^◌, ◌<◌, ◌≤◌}
use native.Mathlib.Omega.{arith}
use lib.ListN.{length, drop, length-append}
use lib.Seq.{drop_at, drop-drop}
use Rattle.model.specs.Limits.{max_intervals}
use Rattle.model.specs.Bytes.{number_at, bytes_of, bytes16, bytes32}
use Rattle.model.specs.Entries.{list_of}
use Rattle.model.specs.Intervals.{interval_count, bound_at}
use Rattle.model.specs.Prices.{PriceList}
use Rattle.model.specs.PriceBytes.{price_intervals, end_at, prices_of}
use Rattle.model.specs.Accepted.{IsPriceList}
use Rattle.model.proofs.Bytes.{length_bytes_of, number_at_found}
use Rattle.model.proofs.Entries.{length_list_of, get_d_list_of, length_encode_each, drop_encode_each}
use Rattle.price_writing.specs.PriceListBytes.{end_bytes, price_bytes, encode_prices}

pub length_ends : (count : ℕ) (ends : ℕ → ℕ) → length (end_bytes count ends) ≡ 4 * count
length_ends count ends = rw (length_encode_each bytes32 4 (length_bytes_of 4), length_list_of)

length_prices : (count : ℕ) (prices : PriceList) → length (price_bytes count prices) ≡ count
length_prices count prices = rw (length_encode_each (bytes_of 1) 1 (length_bytes_of 1), length_list_of) (omega arith)

module _ (intervals : ℕ) (ends : ℕ → ℕ) (prices : PriceList) where
  pub length_price_list : length (encode_prices intervals ends prices) ≡ 2 + 5 * intervals
  unfolding encode_prices
  length_price_list =
      simp (length-append, length_bytes_of) (omega (arith, length_ends intervals ends, length_prices intervals prices))

  past_count : drop 2 (encode_prices intervals ends prices) ≡ end_bytes intervals ends ++ price_bytes intervals prices
  unfolding encode_prices
  past_count = drop_at (bytes16 intervals) _ 2 (length_bytes_of 2 intervals)

  past_ends : drop (2 + 4 * intervals) (encode_prices intervals ends prices) ≡ price_bytes intervals prices
  past_ends =
      rw (
        ← drop-drop (4 * intervals) 2 (encode_prices intervals ends prices),
        past_count,
        drop_at (end_bytes intervals ends) _ (4 * intervals) (length_ends intervals ends),
      )

  module _ (few : intervals ≤ max_intervals) where
    intervals_read : price_intervals (encode_prices intervals ends prices) ≡ intervals
    unfolding encode_prices
    intervals_read = number_at_found 2 intervals (encode_prices intervals ends prices) _ 0 refl (omega arith)

    module _ (i : ℕ) (below : i < intervals) where
      end_read : ends i < 2 ^ 32 → end_at (encode_prices intervals ends prices) i ≡ ends i
      end_read fits =
          let rest = drop_encode_each bytes32 4 (length_bytes_of 4) (list_of intervals ends) (price_bytes intervals prices) i 0 (rw length_list_of below) in
          number_at_found 4 (ends i) (encode_prices intervals ends prices) _ (2 + 4 * i)
          (sym (drop-drop (4 * i) 2 (encode_prices intervals ends prices))
          ∙ (ap (drop (4 * i)) past_count ∙ rw (get_d_list_of intervals ends i 0 below) at rest))
          fits

      -- the prices are read back
      pub written_prices : prices i < 256 → prices_of (encode_prices intervals ends prices) i ≡ prices i
      unfolding prices_of number_at
      written_prices fits =
          let place : 2 + 4 * intervals + i ≡ 2 + 4 * intervals + 1 * i = omega arith in
          rw (intervals_read, place) (omega (arith, read))
        where
          read : number_at 1 (encode_prices intervals ends prices) (2 + 4 * intervals + 1 * i) ≡ prices i
          read =
              let rest = drop_encode_each (bytes_of 1) 1 (length_bytes_of 1) (list_of intervals prices) [] i 0 (rw length_list_of below) in
              number_at_found 1 (prices i) (encode_prices intervals ends prices) _ (2 + 4 * intervals + 1 * i)
              (sym (drop-drop (1 * i) (2 + 4 * intervals) (encode_prices intervals ends prices))
              ∙ (ap (drop (1 * i)) past_ends ∙ rw (append-nil (price_bytes intervals prices), get_d_list_of intervals prices i 0 below) at rest))
              fits

-- what is written is a price list over the bounds
pub written_price_list : (bounds : List ℕ) (ends : ℕ → ℕ) (prices : PriceList) → interval_count bounds ≤ max_intervals
    → ((i : ℕ) → i < interval_count bounds → (ends i ≡ bound_at bounds (suc i)) × (ends i < 2 ^ 32))
    → IsPriceList bounds (encode_prices (interval_count bounds) ends prices)
written_price_list bounds ends prices few are_bounds =
    record {
      size = length_price_list (interval_count bounds) ends prices;
      intervals = intervals_read (interval_count bounds) ends prices few;
      ends = λ i below. end_read (interval_count bounds) ends prices few i below (are_bounds i below).1 ∙ (are_bounds i below).0;
    }
