-- `moving::move_jobs` meets its contract. The loop's invariant: the jobs before `job` have had their turn. Assumes nothing.
use Prim.Native.Nat.{◌≤◌}
use Rattle.planner.specs.BandPasses.{WindowsRaised}
use Rattle.planner.proofs.moving.move_jobs.Given as goal

abbrev pub invariant-loop-job : goal.invariant-loop-job
invariant-loop-job l =
    (l.job ≤ l.jobs) × WindowsRaised l.jobs l.first l.last l.initial.shares l.initial.room l.initial.holders l.initial.prices l.initial.left l.shares l.room l.holders l.prices l.left l.band l.job
