use Prim.Native.Nat.{◌*◌}
use native.Mathlib.Omega.{arith}
use lib.ListN.{length}
use Rattle.listing_lines.specs.TextLines.{field, fields}
use Rattle.listing_lines.specs.Appending.{number_room}
use Rattle.listing_lines.proofs.AppendedText.{same_room, next_most, pieces_none, pieces_next, pieces_whole, joined_each}
use Rattle.listing_lines.proofs.writer.put_numbers.Goals as goal

pub loop-number-init : goal.loop-number-init
loop-number-init c = pieces_none _ _ _ number_room

pub put_number-next-requires : goal.put_number-next-requires
put_number-next-requires c = omega (arith, next_most _ _ c.loop-number.invariant)

pub loop-number-preserved : goal.loop-number-preserved
loop-number-preserved c = pieces_next _ _ _ _ _ c.loop-number.invariant c.put_number-next.ensures

pub shape_of-text : goal.shape_of-text
shape_of-text c = same_room _ _ c.loop-number.invariant

pub returns : goal.returns
returns c =
    let numbers = c.args.numbers.now in
    pieces_whole _ _ _ _ _ c.loop-number.invariant (length numbers) (omega arith) (omega arith)
    (fields numbers) (number_room * length numbers) (joined_each field numbers) (omega arith)
