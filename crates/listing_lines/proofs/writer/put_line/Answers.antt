-- `writer::put_line` meets its contract: the word, the numbers and the newline are the line.
-- Assumes nothing.
use mathlib.Core.Path.{refl}
use native.Mathlib.Omega.{arith}
use Rattle.listing_lines.specs.TextLines.{line}
use Rattle.listing_lines.proofs.AppendedText.{appended_then, appended_as}
use Rattle.listing_lines.proofs.writer.put_line.Goals as goal

pub returns : goal.returns
unfolding line
returns c =
    appended_as _ _ (appended_then _ _ c.put_bytes-first.ensures (appended_then _ _ c.put_numbers-last.ensures c.put_byte.ensures)) _ _
    refl (omega arith)
