-- `pricing::price_numbers` meets its contract. The loop's invariant: the prices of the intervals passed are filled, zeros
-- after them. Assumes nothing.
use mathlib.Core.Path.{◌≡◌}
use Prim.Native.Nat.{◌+◌, ◌*◌, ◌≤◌}
use lib.ListN.{get_or}
use Rattle.model.specs.Limits.{max_intervals}
use Rattle.reading.specs.Column.{column_of}
use Rattle.pricing.proofs.pricing.price_numbers.Given as goal

abbrev pub invariant-loop-i : goal.invariant-loop-i
invariant-loop-i l =
    (l.i ≤ l.intervals) × (l.numbers ≡ column_of max_intervals l.i (λ k. get_or l.prices (2 + 4 * l.intervals + k) 0))
