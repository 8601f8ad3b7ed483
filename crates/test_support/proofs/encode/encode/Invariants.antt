-- `encode::encode` meets its contract. The loop's invariant: the slice keeps its length, as `put` does, and both places
-- are within their slices, that in the line not before the word. A turn goes on in the line, by `next`. Assumes nothing.
use mathlib.Core.Path.{◌≡◌}
use Prim.Native.Nat.{◌-◌, ◌≤◌}
use lib.ListN.{length}
use Rattle.test_support.proofs.encode.encode.Given as goal

abbrev pub invariant-loop-at : goal.invariant-loop-at
invariant-loop-at l =
    (length l.bytes ≡ length l.initial.bytes) × (l.filled ≤ length l.bytes) × (l.place ≤ l.at) × (l.at ≤ length l.line)

abbrev pub decreases-loop-at : goal.decreases-loop-at
decreases-loop-at l = length l.line - l.at
