-- Further laws of finite sums: terms under a test, and stretches of terms.
-- Assumes nothing.
use mathlib.Core.Path.{◌≡◌, refl}
use mathlib.Core.Bool.{Bool, true, false}
use mathlib.Core.Logic.{◌⊎◌, inl, inr}
use Prim.Native.Nat.{ℕ, zero, suc, ◌+◌, ◌-◌, ◌*◌, ◌<◌, ◌≤◌, min}
use native.Mathlib.Nat.{eq-zero-or-pos, mul-le-mul_right}
use native.Mathlib.Omega.{arith}
use Rattle.model.specs.Sum.{sum, only_if}
use Rattle.model.proofs.Sum.{sum_cong, sum_zero, sum_const, sum_split}

pub only_if_le : (t : Bool) (n : ℕ) → only_if t n ≤ n
only_if_le true n = omega arith
only_if_le false n = omega arith

-- a weaker test lets as much pass
pub only_if_mono : (t weaker : Bool) (n : ℕ) → (t ≡ true → weaker ≡ true) → only_if t n ≤ only_if weaker n
only_if_mono true weaker n h = rw (h refl) (omega arith)
only_if_mono false weaker n h = omega arith

-- a positive term passed its test
pub only_if_pos : (t : Bool) (n : ℕ) → 0 < only_if t n → (t ≡ true) × (0 < n)
only_if_pos true n more = (refl, more)
only_if_pos false n more = absurd (omega arith)

pub only_if_scaled : (t : Bool) (c n m : ℕ) → c * n ≤ m → c * only_if t n ≤ only_if t m
only_if_scaled true c n m h = h
only_if_scaled false c n m h = omega arith

pub only_if_zero : (t : Bool) → only_if t 0 ≡ 0
only_if_zero true = refl
only_if_zero false = refl

pub sum_only_if : (n : ℕ) (t : Bool) (f : ℕ → ℕ) → sum n (λ i. only_if t (f i)) ≡ only_if t (sum n f)
sum_only_if n true f = refl
sum_only_if n false f = sum_zero n (λ i below. refl)

-- of terms that are at most c, only those from a up to, not including, b are not 0
pub sum_within : (n a b c : ℕ) (f : ℕ → ℕ) → ((i : ℕ) → i < n → f i ≤ c) → ((i : ℕ) → i < n → 0 < f i → (a ≤ i) × (i < b))
    → sum n f ≤ (min n b - a) * c
unfolding sum
sum_within zero a b c f high inside = omega arith
sum_within (suc n) a b c f high inside =
    go (eq-zero-or-pos (f n)) (sum_within n a b c f (λ i h. high i (omega arith)) (λ i h. inside i (omega arith)))
  where
    go : (f n ≡ 0) ⊎ (0 < f n) → sum n f ≤ (min n b - a) * c → sum n f + f n ≤ (min (suc n) b - a) * c
    go (inl no_term) before =
        let longer : min n b - a ≤ min (suc n) b - a = omega arith in
        omega (arith, mul-le-mul_right c longer)
    go (inr term) before =
        let here = inside n (omega arith) term in
        let longer : min (suc n) b - a ≡ suc (min n b - a) = omega (arith, here.0, here.1) in
        rw longer (omega (arith, high n (omega arith)))

-- a stretch of terms x, and after it a stretch of terms y
pub sum_two_stretches : (a b x y : ℕ) (f : ℕ → ℕ) → ((u : ℕ) → u < a → f u ≡ x) → ((u : ℕ) → a ≤ u → f u ≡ y)
    → sum (a + b) f ≡ a * x + b * y
sum_two_stretches a b x y f first second =
    let one : sum a f ≡ sum a (λ u. x) = sum_cong a first in
    let two : sum b (λ u. f (a + u)) ≡ sum b (λ u. y) = sum_cong b (λ u below. second (a + u) (omega arith)) in
    omega (arith, sum_split a b f, sum_const a x, sum_const b y)
