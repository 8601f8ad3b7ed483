-- The cells of a plan's steps, kept as one set of jobs for each interval.
use Rattle.std.specs.Prelude.{ℕ, Bool, List, eqb}
use Rattle.model.specs.Search.{some_below}
use Rattle.model.specs.Steps.{step_count, cell_of, cell_at}
use Rattle.job_records.specs.SetsHave.{SetsHave}

-- A step before step s has the cell of the interval and the job.
abbrev pub is_seen : (plan : List ℕ) → (s interval job : ℕ) → Bool
is_seen plan s interval job = some_below s (λ r. eqb (cell_at plan r) (cell_of interval job))

-- The sets have exactly the cells of the plan's steps.
abbrev pub CellsSeen : (plan sets : List ℕ) → Type 0
CellsSeen plan sets = SetsHave sets (is_seen plan (step_count plan))
