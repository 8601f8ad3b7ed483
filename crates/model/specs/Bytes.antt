-- Little-endian numbers in a list of bytes. A byte list has numbers below 256; a place counts from 0.
use Rattle.std.specs.Prelude.{ℕ, zero, suc, ◌+◌, ◌*◌, ◌/◌, ◌%◌, ◌<◌, List, [], ◌∷◌, get_or}

-- Every element is a byte.
abbrev pub IsBytes : List ℕ → Type 0
IsBytes bytes = (place : ℕ) → get_or bytes place 0 < 256

-- The number whose `width` bytes start at a place, the lowest byte first. Past the end the bytes count as 0.
unfoldable pub number_at : (width : ℕ) → List ℕ → (place : ℕ) → ℕ
number_at zero bytes place = 0
number_at (suc width) bytes place = get_or bytes place 0 + 256 * number_at width bytes (place + 1)

-- 16 bits are two bytes, 32 bits four.
abbrev pub number16 : List ℕ → ℕ → ℕ
number16 = number_at 2

abbrev pub number32 : List ℕ → ℕ → ℕ
number32 = number_at 4

-- The `width` bytes of a number, the lowest first.
unfoldable pub bytes_of : (width : ℕ) → ℕ → List ℕ
bytes_of zero n = []
bytes_of (suc width) n = n % 256 ∷ bytes_of width (n / 256)

abbrev pub bytes16 : ℕ → List ℕ
bytes16 = bytes_of 2

abbrev pub bytes32 : ℕ → List ℕ
bytes32 = bytes_of 4
