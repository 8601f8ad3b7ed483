-- `by_interval::add_range` meets its contract. The loop's invariant: the sets of the intervals passed have the job
-- (proofs/Ranges.antt). Assumes nothing.
use Prim.Native.Nat.{◌≤◌, max}
use Rattle.job_sets.specs.IntervalSets.{AddedRange}
use Rattle.job_sets.proofs.by_interval.add_range.Given as goal

abbrev pub invariant-loop-i : goal.invariant-loop-i
invariant-loop-i l = (l.first ≤ l.i) × (l.i ≤ max l.first l.end) × AddedRange l.initial.sets l.sets l.first l.i l.job
