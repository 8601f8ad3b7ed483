-- Laws of the difference of two numbers below 2 ^ 63: it is the integer difference, as the machine computes it with signed numbers.
-- Assumes nothing.
use mathlib.Core.Path.{◌≡◌, ◌∙◌}
use mathlib.Core.Logic.{◌⊎◌, inl, inr}
use Prim.Native.Nat.{ℕ, zero, suc, ◌^◌, ◌<◌, ◌≤◌}
use native.Mathlib.Omega.{arith}
use lib.IntN.{pos, ◌-ℤ◌}
use borrow.Author.Tests.{lt-ltb, le-ltb}
use mir.Syntax.{w64}
use mir.Val.{SFits, to_z, of_z}
use mir.Facts.{to_z_pos, to_z-of_z}
use Rattle.model.proofs.Numbers.{lt_or_le}

integer_small : (a b : ℕ) → a < 2 ^ 63 → b < 2 ^ 63 → SFits w64 (pos a -ℤ pos b)
integer_small a zero first second = record { sfits = omega arith }
integer_small a (suc b) first second = go (lt_or_le a (suc b))
  where
    go : (a < suc b) ⊎ (suc b ≤ a) → SFits w64 (pos a -ℤ pos (suc b))
    go (inl below) = rw (lt-ltb a (suc b) below) (record { sfits = omega arith })
    go (inr above) = rw (le-ltb a (suc b) above) (record { sfits = omega arith })

module _ (a b : ℕ) (first : a < 2 ^ 63) (second : b < 2 ^ 63) where
  -- the difference fits 64 bits with a sign
  pub difference_fits : SFits w64 (to_z w64 a -ℤ to_z w64 b)
  difference_fits = rw (to_z_pos w64 first, to_z_pos w64 second) (integer_small a b first second)

  -- and is read back from its bits
  pub difference : to_z w64 (of_z w64 (to_z w64 a -ℤ to_z w64 b)) ≡ pos a -ℤ pos b
  difference = to_z-of_z difference_fits ∙ rw (to_z_pos w64 first, to_z_pos w64 second)
