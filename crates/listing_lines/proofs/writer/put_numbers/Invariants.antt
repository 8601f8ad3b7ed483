-- `writer::put_numbers` meets its contract. The loop's invariant: the numbers so far are put.
-- Assumes nothing.
use Prim.Native.Nat.{◌*◌}
use lib.ListN.{get_or}
use Rattle.model.specs.Entries.{joined}
use Rattle.listing_lines.specs.TextLines.{field}
use Rattle.listing_lines.specs.Appending.{number_room, Appended}
use Rattle.listing_lines.proofs.writer.put_numbers.Given as goal

abbrev pub invariant-loop-number : goal.invariant-loop-number
invariant-loop-number l =
    Appended l.initial.text l.place (joined l.number-index (λ k. field (get_or l.numbers k 0))) (number_room * l.number-index) l.text l.next
