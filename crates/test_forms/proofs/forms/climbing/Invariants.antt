-- `forms::climbing` meets its contract. The loop's invariant: the number has grown by at most 8 at each entry. Assumes
-- nothing.
use Rattle.std.proofs.Common.{◌+◌, ◌*◌, ◌≤◌}
use Rattle.test_forms.proofs.forms.climbing.Given as goal

abbrev pub invariant-loop-entry : goal.invariant-loop-entry
invariant-loop-entry l = l.number ≤ 24 + 8 * l.entry-index
