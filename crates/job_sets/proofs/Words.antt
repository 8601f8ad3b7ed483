-- Laws of the bits of a word: of 0, of a power of 2, of a word turned over, of two words together, the lowest bit that is
-- set, and that two words with the same bits are equal.
-- Assumes nothing.
use mathlib.Core.Path.{◌≡◌, refl}
use Prim.Native.Nat.{ℕ, zero, suc, ◌+◌, ◌-◌, ◌*◌, ◌/◌, ◌%◌, ◌^◌, ◌<◌, min, max}
use native.Mathlib.Nat.{pow-suc, div-div-eq-div-mul}
use native.Mathlib.Omega.{arith}
use lib.Pow.{shr_le}
use lib.Bits.{bit_and, bit_or, and_step, or_step}
use lib.Count.{count_trailing_zeros, under}

-- bit j of a word
abbrev pub bit : (j word : ℕ) → ℕ
bit j word = word / 2 ^ j % 2

-- it is a bit of the word's half
bit_half : (j word : ℕ) → bit (suc j) word ≡ bit j (word / 2)
bit_half j word = let power : 2 ^ suc j ≡ 2 * 2 ^ j = rw pow-suc (omega arith) in rw (power, ← div-div-eq-div-mul word 2 (2 ^ j))

pub bit_none : (j : ℕ) → bit j 0 ≡ 0
bit_none j = omega (arith, shr_le 0 j)

-- a power of 2 has one bit
pub bit_here : (t : ℕ) → bit t (2 ^ t) ≡ 1
bit_here zero = refl
bit_here (suc t) = let half : 2 ^ suc t / 2 ≡ 2 ^ t = rw pow-suc (omega arith) in rw (bit_half t (2 ^ suc t), half) (bit_here t)

pub bit_other : (t j : ℕ) → (j ≡ t → ⊥) → bit j (2 ^ t) ≡ 0
bit_other zero zero other = absurd (other refl)
bit_other zero (suc j) other = rw (bit_half j 1) (bit_none j)
bit_other (suc t) zero other = rw pow-suc (omega arith)
bit_other (suc t) (suc j) other =
    let half : 2 ^ suc t / 2 ≡ 2 ^ t = rw pow-suc (omega arith) in
    rw (bit_half j (2 ^ suc t), half) (bit_other t j (λ e. other (rw e)))

-- the bits that are set in both words, and those in one or the other
pub bit-and : (j a b : ℕ) → bit j (bit_and a b) ≡ min (bit j a) (bit j b)
bit-and zero a b = rw (and_step a b) (omega arith)
bit-and (suc j) a b =
    let half : bit_and a b / 2 ≡ bit_and (a / 2) (b / 2) = rw (and_step a b) (omega arith) in
    rw (bit_half j (bit_and a b), bit_half j a, bit_half j b, half) (bit-and j (a / 2) (b / 2))

pub bit-or : (j a b : ℕ) → bit j (bit_or a b) ≡ max (bit j a) (bit j b)
bit-or zero a b = rw (or_step a b) (omega arith)
bit-or (suc j) a b =
    let half : bit_or a b / 2 ≡ bit_or (a / 2) (b / 2) = rw (or_step a b) (omega arith) in
    rw (bit_half j (bit_or a b), bit_half j a, bit_half j b, half) (bit-or j (a / 2) (b / 2))

-- a word of k bits turned over
pub bit_not : (k j word : ℕ) → j < k → word < 2 ^ k → bit j (2 ^ k - 1 - word) + bit j word ≡ 1
bit_not zero j word below fits = absurd (omega arith)
bit_not (suc k) zero word below fits = rw (pow-suc 2 k) (omega (arith, rw pow-suc at fits))
bit_not (suc k) (suc j) word below fits =
    let half : (2 ^ suc k - 1 - word) / 2 ≡ 2 ^ k - 1 - word / 2 = rw (pow-suc 2 k) (omega (arith, rw pow-suc at fits)) in
    let fits-half : word / 2 < 2 ^ k = omega (arith, rw pow-suc at fits) in
    rw (bit_half j (2 ^ suc k - 1 - word), bit_half j word, half) (bit_not k j (word / 2) (omega arith) fits-half)

-- words of k bits that agree at each bit are equal
pub same_bits : (k a b : ℕ) → a < 2 ^ k → b < 2 ^ k → ((j : ℕ) → j < k → bit j a ≡ bit j b) → a ≡ b
same_bits zero a b fits-a fits-b same = omega arith
same_bits (suc k) a b fits-a fits-b same =
    let halves : a / 2 ≡ b / 2 =
    same_bits k (a / 2) (b / 2) (omega (arith, rw pow-suc at fits-a)) (omega (arith, rw pow-suc at fits-b))
    (λ j below. rw (← bit_half j a, ← bit_half j b) (same (suc j) (omega arith))) in
    omega (arith, same 0 (omega arith))

-- of k bits the lowest that is set
pub lowest_unset : (k word j : ℕ) → j < count_trailing_zeros k word → bit j word ≡ 0
unfolding count_trailing_zeros
lowest_unset zero word j below = absurd (omega arith)
lowest_unset (suc k) word j below = go (word % 2) refl j below (lowest_unset k (word / 2))
  where
    go : (d : ℕ) → word % 2 ≡ d → (j : ℕ) → j < under d (count_trailing_zeros k (word / 2)) → ((i : ℕ) → i < count_trailing_zeros k (word / 2) → bit i (word / 2) ≡ 0)
        → bit j word ≡ 0
    go zero e zero inside rest = omega arith
    go zero e (suc j) inside rest = rw (bit_half j word) (rest j (omega arith))
    go (suc d) e j inside rest = absurd (omega arith)

pub lowest_set : (k word : ℕ) → count_trailing_zeros k word < k → bit (count_trailing_zeros k word) word ≡ 1
unfolding count_trailing_zeros
lowest_set zero word below = absurd (omega arith)
lowest_set (suc k) word below = go (word % 2) refl below (lowest_set k (word / 2))
  where
    go : (d : ℕ) → word % 2 ≡ d → under d (count_trailing_zeros k (word / 2)) < suc k
        → (count_trailing_zeros k (word / 2) < k → bit (count_trailing_zeros k (word / 2)) (word / 2) ≡ 1)
        → bit (under d (count_trailing_zeros k (word / 2))) word ≡ 1
    go zero e inside rest = rw (bit_half (count_trailing_zeros k (word / 2)) word) (rest (omega arith))
    go (suc d) e inside rest = omega arith
