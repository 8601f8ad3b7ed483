-- `table::put_column` meets its contract. The loop's invariant: the place is within the slice. Assumes nothing.
use Rattle.std.proofs.Common.{◌≤◌, length}
use Rattle.test_search.proofs.table.put_column.Given as goal

abbrev pub invariant-loop-number : goal.invariant-loop-number
invariant-loop-number l = l.at ≤ length l.bytes
