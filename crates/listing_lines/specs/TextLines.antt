-- The lines of a listing as text, in ASCII (document 01, "Sites to try").
use Rattle.std.specs.Prelude.{ℕ, suc, ◌^◌, List, [], ◌∷◌, ◌++◌, ℤ, pos, negsuc, ltb}
use Rattle.io.specs.Digits.{last_digits}
use Rattle.model.specs.Search.{first_below}
use Rattle.model.specs.Entries.{encode_each}

abbrev pub newline : ℕ
newline = 10

abbrev pub space : ℕ
space = 32

abbrev pub minus : ℕ
minus = 45

-- How many digits hold a number in decimal: the fewest, and at least one.
unfoldable pub places_of : ℕ → ℕ
places_of n = suc (first_below n (λ k. ltb n (10 ^ suc k)))

-- A number in decimal, without zeros in front.
unfoldable pub decimal : ℕ → List ℕ
decimal n = last_digits 10 (places_of n) n

-- A number that may be negative has a minus sign then.
unfoldable pub signed_decimal : ℤ → List ℕ
signed_decimal (pos n) = decimal n
signed_decimal (negsuc n) = minus ∷ decimal (suc n)

-- The numbers of a line: each after a single space.
abbrev pub field : ℕ → List ℕ
field n = space ∷ decimal n

abbrev pub fields : List ℕ → List ℕ
fields numbers = encode_each field numbers

-- A line begins with its word and ends with a newline.
unfoldable pub line : (word numbers : List ℕ) → List ℕ
line word numbers = word ++ (fields numbers ++ (newline ∷ []))

-- "Each line begins with one of the fixed words sizes, span, step, energy, overfull or refused."
abbrev pub sizes_word : List ℕ
sizes_word = 115 ∷ 105 ∷ 122 ∷ 101 ∷ 115 ∷ []

abbrev pub span_word : List ℕ
span_word = 115 ∷ 112 ∷ 97 ∷ 110 ∷ []

abbrev pub step_word : List ℕ
step_word = 115 ∷ 116 ∷ 101 ∷ 112 ∷ []

abbrev pub energy_word : List ℕ
energy_word = 101 ∷ 110 ∷ 101 ∷ 114 ∷ 103 ∷ 121 ∷ []

abbrev pub overfull_word : List ℕ
overfull_word = 111 ∷ 118 ∷ 101 ∷ 114 ∷ 102 ∷ 117 ∷ 108 ∷ 108 ∷ []

abbrev pub refused_word : List ℕ
refused_word = 114 ∷ 101 ∷ 102 ∷ 117 ∷ 115 ∷ 101 ∷ 100 ∷ []

-- "overfull, start, end, spare": the spare may be negative.
unfoldable pub overfull_line : (start end : ℕ) → (spare : ℤ) → List ℕ
overfull_line start end spare =
    overfull_word ++ (fields (start ∷ end ∷ []) ++ (space ∷ (signed_decimal spare ++ (newline ∷ []))))

-- "refused, number, place"
abbrev pub refused_line : (number place : ℕ) → List ℕ
refused_line number place = line refused_word (number ∷ place ∷ [])
