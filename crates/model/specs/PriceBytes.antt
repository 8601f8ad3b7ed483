-- A price list in bytes (document 01, "Tables in bytes"): N as 16 bits; interval ends, 32 bits each; prices, one byte each, a band number.
use Rattle.std.specs.Prelude.{ℕ, ◌+◌, ◌*◌, List, get_or}
use Rattle.model.specs.Bytes.{number16, number32}
use Rattle.model.specs.Prices.{PriceList}

module _ (bytes : List ℕ) where
  abbrev pub price_intervals : ℕ
  price_intervals = number16 bytes 0

  -- The end of interval i.
  abbrev pub end_at : (interval : ℕ) → ℕ
  end_at i = number32 bytes (2 + 4 * i)

  -- The price of interval i.
  unfoldable pub prices_of : PriceList
  prices_of i = get_or bytes (2 + 4 * price_intervals + i) 0
