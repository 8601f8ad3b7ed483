-- `making::sizes` meets its contract. The loop's invariant: the first `i` lengths are filled, zeros after them.
-- Assumes nothing.
use mathlib.Core.Path.{◌≡◌}
use Prim.Native.Nat.{◌+◌, ◌-◌, ◌≤◌}
use lib.ListN.{get_or}
use Rattle.model.specs.Limits.{max_intervals}
use Rattle.reading.specs.Column.{column_of}
use Rattle.planning.proofs.making.sizes.Given as goal

abbrev pub invariant-loop-i : goal.invariant-loop-i
invariant-loop-i l =
    (l.i ≤ l.intervals) × (l.lengths ≡ column_of max_intervals l.i (λ k. get_or l.times (k + 1) 0 - get_or l.times k 0))
