-- `lines::put_span` meets its contract: the setting that is answered is the one of the definition (proofs/LineTexts.antt).
-- Assumes nothing.
use native.Mathlib.Omega.{arith}
use Rattle.listing_lines.proofs.AppendedText.{appended_as}
use Rattle.listing_lines.proofs.LineTexts.{span_text}
use Rattle.listing_lines.proofs.lines.put_span.Goals as goal

pub returns : goal.returns
returns c =
    appended_as _ _ c.put_line.ensures _ _
    (span_text _ _ _ _ _ _ c.setting_of-set.ensures) (omega arith)
