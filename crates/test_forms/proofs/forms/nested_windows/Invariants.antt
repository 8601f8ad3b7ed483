-- `forms::nested_windows` meets its contract. The loop's invariant: each side has moved by at most 1 for each job.
-- Assumes nothing.
use Rattle.std.proofs.Common.{◌+◌, ◌≤◌, length}
use Rattle.test_forms.proofs.forms.nested_windows.Given as goal

abbrev pub invariant-loop-window : goal.invariant-loop-window
invariant-loop-window l = (l.release ≤ length l.yielded) × (8 ≤ l.deadline + length l.yielded) × (l.deadline ≤ 8)
