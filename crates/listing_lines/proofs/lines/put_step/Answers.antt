-- `lines::put_step` meets its contract: a share that is not 0 has one step, and a share of 0 none.
-- Assumes nothing.
use native.Mathlib.Omega.{arith}
use Rattle.listing_lines.proofs.AppendedText.{appended_none, appended_as}
use Rattle.listing_lines.proofs.LineTexts.{no_step_text, step_text}
use Rattle.listing_lines.proofs.lines.put_step.Goals as goal

pub returns-then-share-gt0 : goal.returns-then-share-gt0
returns-then-share-gt0 c = appended_as _ _ c.put_line.ensures _ _ (step_text _ _ _ c.if-share-gt0.true) (omega arith)

pub returns : goal.returns
returns c = appended_as _ _ (appended_none _ _) _ _ (no_step_text _ _ _ c.if-share-gt0.false) (omega arith)
