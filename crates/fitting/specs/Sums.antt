-- The cycles of a plan's steps, added by job and by interval.
use Rattle.std.specs.Prelude.{ℕ, cond, List, replicate, eqb}
use Rattle.model.specs.Limits.{max_intervals, max_jobs}
use Rattle.model.specs.Entries.{list_of}
use Rattle.model.specs.Sum.{sum, only_if}
use Rattle.model.specs.Steps.{step_count, step_at, wrong_plan_length}

-- Values added by key: at each key the sum of the values of the first `count` entries that have it.
unfoldable pub tally_of : (size count : ℕ) → (key value : ℕ → ℕ) → List ℕ
tally_of size count key value = list_of size (λ k. sum count (λ s. only_if (eqb (key s) k) (value s)))

-- The cycles of each job's steps, and of each interval's.
abbrev pub job_sums : (plan : List ℕ) → List ℕ
job_sums plan = tally_of max_jobs (step_count plan) (λ s. (step_at plan s).job) (λ s. (step_at plan s).cycles)

abbrev pub interval_loads : (plan : List ℕ) → List ℕ
interval_loads plan = tally_of max_intervals (step_count plan) (λ s. (step_at plan s).interval) (λ s. (step_at plan s).cycles)

-- The same where the plan has the right length, otherwise zeros.
unfoldable pub plan_sums : (plan : List ℕ) → List ℕ
plan_sums plan = cond (wrong_plan_length plan) (replicate max_jobs 0) (job_sums plan)

unfoldable pub plan_loads : (plan : List ℕ) → List ℕ
plan_loads plan = cond (wrong_plan_length plan) (replicate max_intervals 0) (interval_loads plan)
