-- `overfull::earliest_overfull` meets its contract. The loop's invariant: no window from an earlier start is overfull, and for each of
-- these that is a release each job released at or after it was added once (proofs/StartSteps.antt). Assumes nothing.
use mathlib.Core.List.{List}
use Prim.Native.Nat.{ℕ, ◌≤◌}
use Rattle.model.specs.declared.Job.{Job}
use Rattle.windows.specs.WindowTests.{TestArrays}
use Rattle.windows.proofs.StartSteps.{Passed}
use Rattle.windows.proofs.overfull.earliest_overfull.Given as goal

abbrev pub invariant-loop-start : goal.invariant-loop-start
invariant-loop-start l =
    (l.start ≤ l.intervals)
    × ((jobs : List Job) (bounds : List ℕ) → TestArrays jobs bounds l.times l.cycles l.sets l.intervals → Passed l.top jobs bounds l.start l.from l.additions)
