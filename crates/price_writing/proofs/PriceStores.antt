-- A price list that is written part by part: the ends, and the whole list.
-- Assumes nothing.
use mathlib.Core.Path.{◌≡◌, ap}
use mathlib.Core.List.{List, ◌++◌, append_assoc}
use Prim.Native.Nat.{ℕ, suc, ◌+◌, ◌-◌, ◌*◌, ◌<◌, ◌≤◌}
use native.Mathlib.Omega.{arith}
use lib.ListN.{length, get_or, take, drop, length-append, length-take, length-drop}
use lib.Seq.{sets, get_or-take, get_or-drop}
use Rattle.model.specs.Bytes.{bytes16, bytes32}
use Rattle.model.specs.Entries.{encode_each}
use Rattle.model.specs.Prices.{PriceList}
use Rattle.model.proofs.Bytes.{length_bytes_of}
use Rattle.price_writing.specs.PriceListBytes.{end_bytes, price_bytes, encode_prices}
use Rattle.writing.proofs.Stores.{sets_after, sets_front}
use Rattle.writing.proofs.NumberStores.{listed_by_place}
use Rattle.price_writing.proofs.WrittenPrices.{length_ends, length_price_list}

-- the ends that are written are the times after the first one
pub ends_are : (times : List ℕ) (intervals : ℕ) → intervals + 1 ≤ length times
    → encode_each bytes32 (take (intervals + 1 - 1) (drop 1 times)) ≡ end_bytes intervals (λ i. get_or times (suc i) 0)
ends_are times intervals long = ap (encode_each bytes32) (listed_by_place ends intervals _ size (λ i below. own i below))
  where
    ends : List ℕ
    ends = take (intervals + 1 - 1) (drop 1 times)

    size : length ends ≡ intervals
    size = omega (arith, length-take (intervals + 1 - 1) (drop 1 times), length-drop 1 times)

    own : (i : ℕ) → i < intervals → get_or ends i 0 ≡ get_or times (suc i) 0
    own i below =
        let next : 1 + i ≡ suc i = omega arith in
        rw (get_or-take (intervals + 1 - 1) (drop 1 times) i 0 (omega arith), get_or-drop 1 times i 0, next)

-- the count, the ends and the prices one after another
pub whole_price_list : (intervals : ℕ) (ends : ℕ → ℕ) (prices : PriceList) (before first second after : List ℕ) → 2 + 5 * intervals ≤ length before
    → first ≡ sets before 0 (bytes16 intervals) → second ≡ sets first 2 (end_bytes intervals ends)
    → after ≡ sets second (2 + 4 * intervals) (price_bytes intervals prices)
    → after ≡ encode_prices intervals ends prices ++ drop (2 + 5 * intervals) before
unfolding encode_prices
whole_price_list intervals ends prices before first second after room one two three =
    let counted : List ℕ = bytes16 intervals ++ end_bytes intervals ends in
    let long : length counted ≡ 2 + 4 * intervals = simp (length-append, length_bytes_of) (omega (arith, length_ends intervals ends)) in
    rw (
      three,
      two,
      one,
      sets_after before 0 2 (bytes16 intervals) (end_bytes intervals ends) (omega (arith, length_bytes_of 2 intervals)),
      sets_after before 0 (2 + 4 * intervals) counted (price_bytes intervals prices) (omega arith),
      append_assoc (bytes16 intervals) (end_bytes intervals ends) (price_bytes intervals prices),
    )
    (sets_front before (encode_prices intervals ends prices) (2 + 5 * intervals) (length_price_list intervals ends prices) room)
