-- `numbers::put_column` meets its contract. The loop's invariant: the first `i` numbers are written (proofs/NumberStores.antt).
-- Assumes nothing.
use mathlib.Core.Path.{◌≡◌}
use Prim.Native.Nat.{◌≤◌}
use lib.ListN.{length, get_or}
use lib.Seq.{sets}
use Rattle.model.specs.Bytes.{bytes32}
use Rattle.model.specs.Entries.{list_of, encode_each}
use Rattle.writing.proofs.numbers.put_column.Given as goal

abbrev pub invariant-loop-i : goal.invariant-loop-i
invariant-loop-i l =
    (l.i ≤ length l.numbers) × (l.out ≡ sets l.initial.out l.place (encode_each bytes32 (list_of l.i (λ k. get_or l.numbers k 0))))
