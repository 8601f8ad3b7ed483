-- `smallest::raise_jobs` meets its contract. The loop's invariant: the jobs before `job` have raised prices or are settled
-- (proofs/RisePasses.antt). Assumes nothing.
use mathlib.Core.List.{List}
use Prim.Native.Nat.{ℕ, ◌≤◌}
use Rattle.workloads.specs.Workloads.{Workload}
use Rattle.workloads.specs.Arrays.{lent_windows}
use Rattle.prices.specs.RisingPrices.{CanRaise, RisePass}
use Rattle.prices.proofs.smallest.raise_jobs.Given as goal

abbrev pub invariant-loop-job : goal.invariant-loop-job
invariant-loop-job l =
    (l.job ≤ l.jobs)
    × ((work : Workload) (table : List ℕ) → CanRaise (lent_windows work l.jobs l.first l.last) table l.highest l.initial.prices
    → RisePass (lent_windows work l.jobs l.first l.last) table l.initial.prices l.prices l.job l.changed)
