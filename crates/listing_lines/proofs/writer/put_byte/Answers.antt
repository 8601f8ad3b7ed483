-- `writer::put_byte` meets its contract: a byte that has room is stored, and another is left out.
-- Assumes nothing.
use mathlib.Core.List.{[], ◌∷◌}
use Prim.Native.Nat.{◌+◌}
use Rattle.listing_lines.specs.Appending.{Appended}
use Rattle.listing_lines.proofs.AppendedText.{appended_one, appended_past, same_room}
use Rattle.listing_lines.proofs.writer.put_byte.Goals as goal
use Rattle.listing_lines.proofs.writer.put_byte.Goals.{Joined-place-text, then-place-text, else-place-text}

put : (c : Joined-place-text) → let a = c.args in Appended a.text.now a.place (a.byte ∷ []) 1 c.if-place-text.text (a.place + 1)
put c = elim c.if-place-text.branch [
  | then-place-text w ↦ rw w.text-is (appended_one _ _ _)
  | else-place-text w ↦ rw w.text-is (appended_past _ _ _ w.if-place-text.false)
]

pub shape_of-text : goal.shape_of-text
shape_of-text c = same_room _ _ (put (goal.at.shape_of-text c).Joined-place-text)

pub returns : goal.returns
returns c = put (goal.at.returns c).Joined-place-text
