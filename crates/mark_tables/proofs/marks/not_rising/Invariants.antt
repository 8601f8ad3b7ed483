-- `marks::not_rising` meets its contract. The loop's invariant: each mark passed is below the next one (proofs/MarksIn.antt).
-- Assumes nothing.
use Prim.Native.Nat.{ℕ, ◌+◌, ◌<◌, ◌≤◌}
use lib.ListN.{get_or}
use Rattle.mark_tables.proofs.marks.not_rising.Given as goal

abbrev pub invariant-loop-i : goal.invariant-loop-i
invariant-loop-i l = (l.i ≤ l.count) × ((k : ℕ) → k < l.i → get_or l.marks k 0 < get_or l.marks (k + 1) 0)
