-- `spares::least_among` meets its contract. The loop's invariant: the least of the numbers so far (proofs/SpareSteps.antt). Assumes nothing.
use Prim.Native.Nat.{◌+◌, ◌≤◌}
use Rattle.job_rooms.proofs.SpareSteps.{LeastSoFar}
use Rattle.job_rooms.proofs.spares.least_among.Given as goal

abbrev pub invariant-loop-number : goal.invariant-loop-number
invariant-loop-number l =
    (l.first + 1 + l.number-index ≤ l.last + 1) × LeastSoFar l.numbers l.first (l.first + 1 + l.number-index) l.least
