-- `lines::put_overfull` meets its contract: the word, the two numbers, the spare and the newline are the line.
-- Assumes nothing.
use mathlib.Core.Path.{◌≡◌}
use mathlib.Core.List.{[], ◌∷◌, ◌++◌}
use Prim.Native.Nat.{ℕ}
use native.Mathlib.Omega.{arith}
use lib.IntN.{ℤ}
use mir.Syntax.{w64}
use mir.Val.{SFits, to_z, of_z}
use mir.Facts.{to_z-of_z}
use Rattle.listing_lines.specs.TextLines.{newline, space, signed_decimal, fields, overfull_word, overfull_line}
use Rattle.listing_lines.proofs.AppendedText.{appended_then, appended_as}
use Rattle.listing_lines.proofs.lines.put_overfull.Goals as goal

-- the spare as the machine has it, read back from its bits
overfull-text : (start end : ℕ) (spare : ℤ) → SFits w64 spare
    → overfull_word ++ (fields (start ∷ end ∷ []) ++ ((space ∷ signed_decimal (to_z w64 (of_z w64 spare))) ++ (newline ∷ [])))
    ≡ overfull_line start end spare
unfolding overfull_line
overfull-text start end spare fits = rw (to_z-of_z fits)

pub returns : goal.returns
returns c =
    let spare-and-end = appended_then _ _ c.put_signed-last.ensures c.put_byte.ensures in
    let put = appended_then _ _ c.put_bytes-first.ensures (appended_then _ _ c.put_numbers-second.ensures spare-and-end) in
    appended_as _ _ put _ _ (overfull-text c.args.start c.args.end c.args.spare c.ranges.spare) (omega arith)
