-- Laws of little-endian numbers: a number's bytes are read back as the number, the bytes of a number that was read
-- are the bytes that were read, and a number does not see the bytes before its place.
-- Assumes nothing.
use mathlib.Core.Path.{◌≡◌, refl, ap}
use mathlib.Core.List.{List, ◌∷◌, ◌++◌, append_assoc}
use Prim.Native.Nat.{ℕ, zero, suc, ◌+◌, ◌*◌, ◌^◌, ◌/◌, ◌%◌, ◌<◌, ◌≤◌}
use native.Mathlib.Nat.{pow-suc}
use native.Mathlib.Numerals.{add-one}
use native.Mathlib.Omega.{arith}
use lib.ListN.{length, get_or, take, drop}
use lib.Seq.{drop-cons, get_or-drop, take-add, drop-drop, drop_at}
use Rattle.model.specs.Bytes.{IsBytes, number_at, number32, bytes_of, bytes32}

pub length_bytes_of : (width n : ℕ) → length (bytes_of width n) ≡ width
unfolding bytes_of
length_bytes_of zero n = refl
length_bytes_of (suc width) n = ap suc (length_bytes_of width (n / 256))

pub number_at_small : (width : ℕ) (bytes : List ℕ) (place : ℕ) → IsBytes bytes → number_at width bytes place < 256 ^ width
unfolding number_at
number_at_small zero bytes place h = omega arith
number_at_small (suc width) bytes place h =
    omega (arith, h place, number_at_small width bytes (place + 1) h, pow-suc 256 width)

-- a place p + o is the place o of what is left when p bytes are dropped
pub number_at_drop : (width : ℕ) (bytes : List ℕ) (p o : ℕ) → number_at width bytes (p + o) ≡ number_at width (drop p bytes) o
unfolding number_at
number_at_drop zero bytes p o = refl
number_at_drop (suc width) bytes p o =
    let next : p + o + 1 ≡ p + (o + 1) = omega arith in
    rw (get_or-drop, next, number_at_drop width bytes p (o + 1))

pub number_at_bytes_of : (width n : ℕ) (rest : List ℕ) → n < 256 ^ width → number_at width (bytes_of width n ++ rest) 0 ≡ n
unfolding number_at bytes_of
number_at_bytes_of zero n rest h = omega arith
number_at_bytes_of (suc width) n rest h =
    let below : n / 256 < 256 ^ width = omega (arith, pow-suc 256 width) in
    rw (number_at_drop width (n % 256 ∷ (bytes_of width (n / 256) ++ rest)) 1 0, number_at_bytes_of width (n / 256) rest below) (omega arith)

pub bytes_of_number_at : (width : ℕ) (bytes : List ℕ) (place : ℕ) → IsBytes bytes → place + width ≤ length bytes
    → bytes_of width (number_at width bytes place) ≡ take width (drop place bytes)
unfolding number_at bytes_of
bytes_of_number_at zero bytes place h inside = refl
bytes_of_number_at (suc width) bytes place h inside =
    let small = h place in
    let low : (get_or bytes place 0 + 256 * number_at width bytes (place + 1)) % 256 ≡ get_or bytes place 0 = omega arith in
    let high : (get_or bytes place 0 + 256 * number_at width bytes (place + 1)) / 256 ≡ number_at width bytes (place + 1) = omega arith in
    rw (low, high, drop-cons bytes place 0 (omega arith), bytes_of_number_at width bytes (place + 1) h (omega arith), add-one)

-- a number is read where its bytes stand
pub number_at_found : (width n : ℕ) (bytes more : List ℕ) (place : ℕ) → drop place bytes ≡ bytes_of width n ++ more → n < 256 ^ width
    → number_at width bytes place ≡ n
number_at_found width n bytes more place e small =
    let start : place ≡ place + 0 = omega arith in
    rw (start, number_at_drop, e, number_at_bytes_of)

-- two numbers of 32 bits, one after the other
pub pair_written : (bytes : List ℕ) (place : ℕ) → IsBytes bytes → place + 8 ≤ length bytes
    → bytes32 (number32 bytes place) ++ bytes32 (number32 bytes (place + 4)) ≡ take 8 (drop place bytes)
pair_written bytes place small inside =
    rw (
      bytes_of_number_at 4 bytes place small (omega arith),
      bytes_of_number_at 4 bytes (place + 4) small (omega arith),
      take-add 4 4 (drop place bytes),
      drop-drop,
    )

pub pair_found : (a b : ℕ) (bytes more : List ℕ) (place : ℕ) → drop place bytes ≡ (bytes32 a ++ bytes32 b) ++ more → a < 2 ^ 32 → b < 2 ^ 32
    → (number32 bytes place ≡ a) × (number32 bytes (place + 4) ≡ b)
pair_found a b bytes more place e first second =
    (number_at_found 4 a bytes _ place one (omega arith), number_at_found 4 b bytes more (place + 4) two (omega arith))
  where
    one : drop place bytes ≡ bytes32 a ++ (bytes32 b ++ more)
    one = rw append_assoc at e

    two : drop (place + 4) bytes ≡ bytes32 b ++ more
    two = rw (← drop-drop, one) (drop_at (bytes32 a) _ 4 (length_bytes_of 4 a))
