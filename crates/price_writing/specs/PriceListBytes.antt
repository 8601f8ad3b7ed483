-- A price list in bytes (document 01, "Tables in bytes"): N as 16 bits; interval ends, 32 bits each; prices, one byte each.
use Rattle.std.specs.Prelude.{ℕ, List, ◌++◌}
use Rattle.model.specs.Bytes.{bytes_of, bytes16, bytes32}
use Rattle.model.specs.Entries.{list_of, encode_each}
use Rattle.model.specs.Prices.{PriceList}

-- The ends of the first `count` intervals.
abbrev pub end_bytes : (count : ℕ) → (ends : ℕ → ℕ) → List ℕ
end_bytes count ends = encode_each bytes32 (list_of count ends)

abbrev pub price_bytes : (count : ℕ) → PriceList → List ℕ
price_bytes count prices = encode_each (bytes_of 1) (list_of count prices)

unfoldable pub encode_prices : (intervals : ℕ) → (ends : ℕ → ℕ) → PriceList → List ℕ
encode_prices intervals ends prices = bytes16 intervals ++ (end_bytes intervals ends ++ price_bytes intervals prices)
