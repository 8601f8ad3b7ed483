-- `integers::magnitude` meets its contract. Of a negative number z the code computes -(z + 1), which has no sign and is one
-- less than the magnitude. Assumes nothing.
use mathlib.Core.Bool.{true, false}
use mathlib.Core.Path.{◌≡◌, refl, ◌∙◌}
use Prim.Native.Nat.{ℕ, zero, suc, ◌+◌}
use native.Mathlib.Omega.{arith}
use lib.IntN.{ℤ, pos, negsuc, neg_ℤ, nat_abs, ◌+ℤ◌, ◌-ℤ◌, +ℤ_one, +ℤ_idl, neg_ℤ-neg_ℤ}
use lib.Signed.{mag, lt_z, non_neg}
use lib.Dec.{T}
use mir.Syntax.{w64}
use mir.Val.{SFits, to_z, of_z}
use mir.Facts.{Fits-nat_abs, to_z-of_z}
use borrow.Author.Tests.{ltb-true}
use Rattle.integers.proofs.magnitude.Goals as goal

next : (n : ℕ) → negsuc n +ℤ pos 1 ≡ neg_ℤ (pos n)
next zero = refl
next (suc n) = +ℤ_one (negsuc (suc n))

next_fits : (n : ℕ) → SFits w64 (negsuc n) → SFits w64 (neg_ℤ (pos n))
next_fits zero fits = record { sfits = fits.sfits }
next_fits (suc n) fits = record { sfits = omega arith }

-- what the code's steps give of a negative number
record Negative (z : ℤ) : Type 0 where
  fits : SFits w64 (z +ℤ pos 1)
  negated : pos 0 -ℤ (z +ℤ pos 1) ≡ pos (mag z)
  whole : mag z + 1 ≡ nat_abs z

negative : (z : ℤ) → SFits w64 z → lt_z z (pos 0) ≡ true → Negative z
negative (pos n) fits below = absurd (omega (arith, ltb-true n 0 below))
negative (negsuc n) fits below =
    record {
      fits = rw (next n) (next_fits n fits);
      negated = rw (next n) (+ℤ_idl (neg_ℤ (neg_ℤ (pos n))) ∙ neg_ℤ-neg_ℤ (pos n));
      whole = omega arith;
    }

unsigned : (z : ℤ) → lt_z z (pos 0) ≡ false → T (non_neg z)
unsigned (pos n) above = tt
unsigned (negsuc n) above = let e : ◌≡◌ {A = ℕ} 0 1 = cc above in absurd (omega arith)

module _ (z : ℤ) (range : SFits w64 z) where
  read : to_z w64 (of_z w64 z) ≡ z
  read = to_z-of_z range

  -- the same as the machine has them, each read back from its bits
  module _ (below : lt_z (to_z w64 (of_z w64 z)) (pos 0) ≡ true) where
    steps : Negative z
    steps = negative z range (rw read at below)

    sum_fits : SFits w64 (to_z w64 (of_z w64 z) +ℤ pos 1)
    sum_fits = rw read steps.fits

    difference : pos 0 -ℤ to_z w64 (of_z w64 (to_z w64 (of_z w64 z) +ℤ pos 1)) ≡ pos (mag z)
    difference = rw (to_z-of_z sum_fits, read) steps.negated

    difference_fits : SFits w64 (pos 0 -ℤ to_z w64 (of_z w64 (to_z w64 (of_z w64 z) +ℤ pos 1)))
    difference_fits = rw difference (record { sfits = range.sfits })

    read_back : to_z w64 (of_z w64 (pos 0 -ℤ to_z w64 (of_z w64 (to_z w64 (of_z w64 z) +ℤ pos 1)))) ≡ pos (mag z)
    read_back = to_z-of_z difference_fits ∙ difference

pub overflow_add-result : goal.overflow_add-result
overflow_add-result c = sum_fits _ c.ranges.value c.if-value-lt0.true

pub overflow_sub-result : goal.overflow_sub-result
overflow_sub-result c = difference_fits _ c.ranges.value c.if-value-lt0.true

pub overflow_cast-result : goal.overflow_cast-result
overflow_cast-result c = rw (read_back _ c.ranges.value c.if-value-lt0.true) (tt, record { fits = omega arith })

pub overflow_add-result-then-value-lt0 : goal.overflow_add-result-then-value-lt0
overflow_add-result-then-value-lt0 c = rw (read_back _ c.ranges.value c.if-value-lt0.true) (omega arith)

pub overflow_cast-result-else-value-lt0 : goal.overflow_cast-result-else-value-lt0
overflow_cast-result-else-value-lt0 c =
    let fits = c.ranges.value in
    rw (read _ fits) (unsigned c.args.value (rw (read _ fits) at c.if-value-lt0.false), Fits-nat_abs tt fits)

pub returns-then-value-lt0 : goal.returns-then-value-lt0
returns-then-value-lt0 c = rw (read_back _ c.ranges.value c.if-value-lt0.true) (steps _ c.ranges.value c.if-value-lt0.true).whole
