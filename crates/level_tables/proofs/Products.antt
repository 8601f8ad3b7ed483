-- A product of two numbers is at most the product of their limits.
-- Assumes nothing.
use Prim.Native.Nat.{ℕ, ◌*◌, ◌<◌, ◌≤◌}
use native.Mathlib.Nat.{mul-le-mul}
use native.Mathlib.Omega.{arith}

pub product_below : (a b : ℕ) {x y most : ℕ} → x ≤ a → y ≤ b → a * b < most → x * y < most
product_below a b {x} {y} {most} low high fits = omega (arith, mul-le-mul low high)
