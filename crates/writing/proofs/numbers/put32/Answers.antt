-- `numbers::put32` meets its contract. The bytes of a number of 32 bits are those of its two halves of 16 bits.
-- Assumes nothing.
use mathlib.Core.Path.{◌≡◌}
use mathlib.Core.List.{List, ◌++◌}
use Prim.Native.Nat.{ℕ, ◌+◌, ◌/◌}
use native.Mathlib.Omega.{arith}
use lib.Seq.{sets}
use Rattle.model.specs.Bytes.{bytes_of, bytes16, bytes32}
use Rattle.model.proofs.Bytes.{length_bytes_of}
use Rattle.writing.proofs.Stores.{sets_after}
use Rattle.writing.proofs.numbers.put32.Goals as goal

-- the two halves of a number's bytes
halves : (n : ℕ) → bytes16 n ++ bytes16 (n / 65536) ≡ bytes32 n
unfolding bytes_of
halves n = let e : n / 65536 ≡ n / 256 / 256 = omega arith in rw e

written : (out first second : List ℕ) (place n : ℕ) → first ≡ sets out place (bytes16 n) → second ≡ sets first (place + 2) (bytes16 (n / 65536))
    → second ≡ sets out place (bytes32 n)
written out first second place n one two =
    rw (two, one, ← halves) (sets_after out place (place + 2) (bytes16 n) (bytes16 (n / 65536)) (omega (arith, length_bytes_of 2 n)))

pub returns : goal.returns
returns c = written _ _ _ _ _ c.put16.ensures c.put16-2.ensures
