-- Laws of divisors: a factor divides its product, and two multiples of a number lie at least that number apart.
-- Assumes nothing.
use mathlib.Core.Path.{◌≡◌}
use mathlib.Core.Logic.{◌⊎◌, inl, inr}
use Prim.Native.Nat.{ℕ, zero, suc, ◌+◌, ◌*◌, ◌/◌, ◌<◌, ◌≤◌, ◌∣◌}
use native.Mathlib.Nat.{eq-or-lt_of_le, le_of_suc-le-suc, dvd-mul_left, dvd-mul_right_of_dvd, mul-div_cancel', lt_of_mul-lt-mul_left, mul-le-mul_left}
use native.Mathlib.Omega.{arith}
use Rattle.model.specs.Sum.{product}

-- each factor divides the product
pub factor_divides : (n : ℕ) (f : ℕ → ℕ) (k : ℕ) → k < n → f k ∣ product n f
unfolding product
factor_divides zero f k below = absurd (omega arith)
factor_divides (suc n) f k below = go (eq-or-lt_of_le (le_of_suc-le-suc below)) (factor_divides n f k)
  where
    go : (k ≡ n) ⊎ (k < n) → (k < n → f k ∣ product n f) → f k ∣ product n f * f n
    go (inl last) step = rw last (dvd-mul_left (f n) (product n f))
    go (inr inside) step = dvd-mul_right_of_dvd (f k) (step inside) (f n)

-- from a multiple of d to a greater one it is at least d
pub multiples_apart : (d a b : ℕ) → d ∣ a → d ∣ b → a < b → a + d ≤ b
multiples_apart d a b one two less =
    let x : d * (a / d) ≡ a = mul-div_cancel' d one in
    let y : d * (b / d) ≡ b = mul-div_cancel' d two in
    let products : d * (a / d) < d * (b / d) = omega arith in
    let quotients : a / d < b / d = lt_of_mul-lt-mul_left d products in
    omega (arith, mul-le-mul_left d quotients)
