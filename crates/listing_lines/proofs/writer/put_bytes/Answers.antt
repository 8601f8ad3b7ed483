use mathlib.Core.Path.{◌∙◌}
use mathlib.Core.List.{[], ◌∷◌}
use native.Mathlib.Omega.{arith}
use lib.ListN.{length}
use Rattle.listing_lines.proofs.AppendedText.{same_room, next_most, pieces_none, pieces_next, pieces_whole, joined_each, each_byte}
use Rattle.listing_lines.proofs.writer.put_bytes.Goals as goal

pub loop-byte-init : goal.loop-byte-init
loop-byte-init c = pieces_none _ _ _ 1

pub put_byte-next-requires : goal.put_byte-next-requires
put_byte-next-requires c = omega (arith, next_most _ _ c.loop-byte.invariant)

pub loop-byte-preserved : goal.loop-byte-preserved
loop-byte-preserved c = pieces_next _ _ _ _ _ c.loop-byte.invariant c.put_byte-next.ensures

pub shape_of-text : goal.shape_of-text
shape_of-text c = same_room _ _ c.loop-byte.invariant

pub returns : goal.returns
returns c =
    let bytes = c.args.bytes.now in
    pieces_whole _ _ _ _ _ c.loop-byte.invariant (length bytes) (omega arith) (omega arith)
    bytes (length bytes) (joined_each (λ byte. byte ∷ []) bytes ∙ each_byte bytes) (omega arith)
