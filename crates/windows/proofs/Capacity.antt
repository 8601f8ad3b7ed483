-- A law of a window's length × top frequency: it is small.
-- Assumes nothing.
use Prim.Native.Nat.{ℕ, ◌-◌, ◌*◌, ◌≤◌}
use native.Mathlib.Nat.{mul-le-mul}
use native.Mathlib.Omega.{arith}
use Rattle.model.specs.Limits.{max_deadline, max_frequency}

pub capacity_small : (start end top : ℕ) → end ≤ max_deadline → top ≤ max_frequency → (end - start) * top ≤ max_deadline * max_frequency
capacity_small start end top early slow = let short : end - start ≤ max_deadline = omega arith in mul-le-mul short slow
