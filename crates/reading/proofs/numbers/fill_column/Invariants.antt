-- `numbers::fill_column` meets its contract. The loop's invariant: the first `i` places have the numbers that were read, the others zeros.
-- Assumes nothing.
use mathlib.Core.Path.{◌≡◌}
use Prim.Native.Nat.{ℕ, ◌<◌, ◌≤◌}
use lib.ListN.{length, get_or}
use Rattle.reading.proofs.numbers.fill_column.Given as goal

abbrev pub invariant-loop-i : goal.invariant-loop-i
invariant-loop-i g l =
    (l.i ≤ l.count)
    × (length l.numbers ≡ g.row.N)
    × ((k : ℕ) → k < l.i → goal.F-post g l.number k (get_or l.numbers k 0))
    × ((k : ℕ) → l.i ≤ k → get_or l.numbers k 0 ≡ 0)
