-- `overfull::overfull_end` meets its contract. The loop's invariant: the sum is the cycles of the jobs inside the window up to the
-- end, and no window up to it is overfull (proofs/EndSteps.antt). Assumes nothing.
use mathlib.Core.List.{List}
use Prim.Native.Nat.{ℕ, ◌≤◌}
use Rattle.model.specs.declared.Job.{Job}
use Rattle.windows.specs.WindowTests.{TestArrays, HasReleasedFrom}
use Rattle.windows.proofs.EndSteps.{Moving}
use Rattle.windows.proofs.overfull.overfull_end.Given as goal

abbrev pub invariant-loop-last : goal.invariant-loop-last
invariant-loop-last l =
    (l.start ≤ l.last)
    × (l.last ≤ l.intervals)
    × ((jobs : List Job) (bounds : List ℕ) → TestArrays jobs bounds l.times l.cycles l.sets l.intervals → HasReleasedFrom jobs bounds l.from l.start
    → Moving l.top jobs bounds l.start l.last l.sum.cycles l.sum.additions)
