-- Finite sums and products.
use Rattle.std.specs.Prelude.{ℕ, zero, suc, ◌+◌, ◌*◌, Bool, true, false}

-- f 0 + f 1 + .. + f (count - 1)
unfoldable pub sum : (count : ℕ) → (ℕ → ℕ) → ℕ
sum zero f = 0
sum (suc count) f = sum count f + f count

-- f 0 × f 1 × .. × f (count - 1)
unfoldable pub product : (count : ℕ) → (ℕ → ℕ) → ℕ
product zero f = 1
product (suc count) f = product count f * f count

-- n where the test holds, otherwise 0: a term of a sum over what passes a test.
abbrev pub only_if : Bool → ℕ → ℕ
only_if true n = n
only_if false n = 0
