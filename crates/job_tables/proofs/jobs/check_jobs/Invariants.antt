-- `jobs::check_jobs` meets its contract. The loop's invariant: no entry passed has a fault. What the reading then
-- answers is in proofs/ByEntry.antt of the crate reading. Assumes nothing.
use mathlib.Core.Path.{◌≡◌}
use Prim.Native.Nat.{ℕ, ◌≤◌, ◌<◌}
use Rattle.model.specs.Jobs.{job_fault}
use Rattle.job_tables.specs.Tables.{jobs_in}
use Rattle.job_tables.proofs.jobs.check_jobs.Given as goal

abbrev pub invariant-loop-i : goal.invariant-loop-i
invariant-loop-i l =
    (l.i ≤ l.count) × ((k : ℕ) → k < l.i → job_fault (jobs_in l.count l.releases l.deadlines l.cycles) k ≡ 0)
