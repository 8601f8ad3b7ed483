-- `window::cycles_inside` meets its contract. The loop's invariant: the sum is that of the jobs passed, each at most
-- the largest number of cycles. Assumes nothing.
use mathlib.Core.Path.{◌≡◌}
use Prim.Native.Nat.{ℕ, ◌*◌, ◌≤◌}
use Rattle.model.specs.declared.Job.{Job}
use Rattle.model.specs.Limits.{max_jobs, max_cycles}
use Rattle.model.specs.Sum.{sum as total, only_if}
use Rattle.model.specs.Jobs.{job_of}
use Rattle.model.specs.Windows.{is_inside}
use Rattle.job_tables.specs.Tables.{jobs_in}
use Rattle.spare.proofs.window.cycles_inside.Given as goal

-- a job's cycles where it is inside the window, otherwise 0
abbrev pub counted : (start end : ℕ) → Job → ℕ
counted start end job = only_if (is_inside start end job) job.cycles

abbrev pub invariant-loop-j : goal.invariant-loop-j
invariant-loop-j l =
    (l.count ≤ max_jobs)
    × (l.j ≤ l.count)
    × (l.sum ≡ total l.j (λ k. counted l.start l.end (job_of (jobs_in l.count l.releases l.deadlines l.cycles) k)))
    × (l.sum ≤ max_cycles * l.j)
