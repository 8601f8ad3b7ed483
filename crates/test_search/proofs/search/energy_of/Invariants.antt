-- `search::energy_of` meets its contract. The loop's invariant: the sum is that of so many 32-bit numbers. Assumes
-- nothing.
use Rattle.std.proofs.Common.{◌*◌, ◌≤◌}
use Rattle.test_search.proofs.search.energy_of.Given as goal

abbrev pub invariant-loop-i : goal.invariant-loop-i
invariant-loop-i l = l.sum ≤ 4294967295 * l.i
