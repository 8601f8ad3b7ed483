-- `writer::put_bytes` meets its contract. The loop's invariant: the bytes so far are put.
-- Assumes nothing.
use mathlib.Core.List.{[], ◌∷◌}
use Prim.Native.Nat.{◌*◌}
use lib.ListN.{get_or}
use Rattle.model.specs.Entries.{joined}
use Rattle.listing_lines.specs.Appending.{Appended}
use Rattle.listing_lines.proofs.writer.put_bytes.Given as goal

abbrev pub invariant-loop-byte : goal.invariant-loop-byte
invariant-loop-byte l =
    Appended l.initial.text l.place (joined l.byte-index (λ k. get_or l.bytes k 0 ∷ [])) (1 * l.byte-index) l.text l.next
