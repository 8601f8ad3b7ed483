-- `writer::put_signed` meets its contract: a space, a minus sign where the number is negative, and the magnitude's digits.
-- Assumes nothing.
use mathlib.Core.Path.{◌≡◌, ap}
use mathlib.Core.Bool.{true, false}
use mathlib.Core.List.{List, ◌∷◌}
use Prim.Native.Nat.{ℕ}
use native.Mathlib.Omega.{arith}
use lib.IntN.{ℤ, pos, nat_abs}
use lib.Signed.{lt_z}
use mir.Syntax.{w64}
use mir.Val.{SFits, to_z, of_z}
use mir.Facts.{to_z-of_z}
use Rattle.listing_lines.specs.TextLines.{space, minus, decimal, signed_decimal}
use Rattle.listing_lines.proofs.AppendedText.{appended_then, appended_as}
use Rattle.listing_lines.proofs.Decimals.{signed_negative, signed_positive}
use Rattle.listing_lines.proofs.writer.put_signed.Goals as goal

-- the number as the machine has it, read back from its bits
module _ (z : ℤ) (fits : SFits w64 z) (size : ℕ) (sized : size ≡ nat_abs (to_z w64 (of_z w64 z))) where
  negative-text : lt_z (to_z w64 (of_z w64 z)) (pos 0) ≡ true → minus ∷ decimal size ≡ signed_decimal z
  negative-text below = rw (sized, to_z-of_z fits) (signed_negative z (rw (to_z-of_z fits) at below))

  positive-text : lt_z (to_z w64 (of_z w64 z)) (pos 0) ≡ false → decimal size ≡ signed_decimal z
  positive-text above = rw (sized, to_z-of_z fits) (signed_positive z (rw (to_z-of_z fits) at above))

pub returns-then-number-lt0 : goal.returns-then-number-lt0
returns-then-number-lt0 c =
    let put = appended_then _ _ c.put_byte-next.ensures (appended_then _ _ c.put_byte-first.ensures c.put_decimal.ensures) in
    appended_as _ _ put _ _
    (ap (λ (text : List ℕ). space ∷ text)
    (negative-text c.args.number c.ranges.number _ c.magnitude.ensures c.if-number-lt0.true))
    (omega arith)

pub returns : goal.returns
returns c =
    let put = appended_then _ _ c.put_byte-next.ensures c.put_decimal-2.ensures in
    appended_as _ _ put _ _
    (ap (λ (text : List ℕ). space ∷ text)
    (positive-text c.args.number c.ranges.number _ c.magnitude-2.ensures c.if-number-lt0.false))
    (omega arith)
