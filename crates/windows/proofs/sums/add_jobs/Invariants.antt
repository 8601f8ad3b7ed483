-- `sums::add_jobs` meets its contract. The loop's invariant: what is added and what the rest adds up to are the whole.
-- Assumes nothing.
use mathlib.Core.Path.{◌≡◌}
use Prim.Native.Nat.{◌+◌}
use Rattle.job_sets.specs.JobSets.{member_count}
use Rattle.windows.specs.RunningSums.{total_over}
use Rattle.windows.proofs.sums.add_jobs.Given as goal

abbrev pub invariant-loop-rest : goal.invariant-loop-rest
invariant-loop-rest l =
    (l.sum + total_over l.rest l.cycles ≡ l.initial.sum + total_over l.initial.rest l.cycles)
    × (l.additions + member_count l.rest ≡ l.initial.additions + member_count l.initial.rest)

abbrev pub decreases-loop-rest : goal.decreases-loop-rest
decreases-loop-rest l = member_count l.rest
