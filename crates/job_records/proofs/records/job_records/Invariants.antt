-- `records::job_records` meets its contract. The loop's invariant: the records passed are those of the arrays. Assumes nothing.
use mathlib.Core.Path.{◌≡◌}
use mathlib.Core.List.{List}
use Prim.Native.Nat.{ℕ, ◌<◌, ◌≤◌}
use lib.ListN.{length, get_or}
use Rattle.model.specs.declared.Job.{Job}
use Rattle.model.specs.Limits.{max_jobs}
use Rattle.model.specs.Jobs.{job_of}
use Rattle.job_records.proofs.records.job_records.Given as goal

module _ (releases deadlines cycles : List ℕ) where
  -- the record of job k, from the arrays
  abbrev pub entry : ℕ → Job
  entry k = record { release = get_or releases k 0; deadline = get_or deadlines k 0; cycles = get_or cycles k 0 }

  -- the first j records are those of the arrays
  abbrev pub Filled : ℕ → List Job → Type 0
  Filled j jobs = (k : ℕ) → k < j → job_of jobs k ≡ entry k

abbrev pub invariant-loop-j : goal.invariant-loop-j
invariant-loop-j l = (l.j ≤ l.count) × (length l.jobs ≡ max_jobs) × Filled l.releases l.deadlines l.cycles l.j l.jobs
