-- What touches a span of ticks (document 02, Change 5). The span goes from its start up to, not including, its end.
use Rattle.std.specs.Prelude.{ℕ, suc, ◌*◌, ◌/◌, Bool, ◌&&◌, List, length, ltb, leb, eqb}
use Rattle.std.proofs.Math.Option.{Option}
use Rattle.model.specs.declared.Job.{Job}
use Rattle.model.specs.Limits.{max_jobs}
use Rattle.model.specs.Search.{some_below, passing_below, least_below}
use Rattle.model.specs.Jobs.{job_of}
use Rattle.model.specs.Intervals.{interval_count, bound_at}
use Rattle.model.specs.Windows.{is_inside}
use Rattle.model.specs.Steps.{step_count, cell_at}

-- What touches a span: three lists of numbers that rise, and the nearest deadline or none.
pub record Touched : Type 0 where
  pub open_jobs : List ℕ
  pub inside_jobs : List ℕ
  pub steps : List ℕ
  pub deadline : Option ℕ

module _ (start end : ℕ) where
  -- "open somewhere in it": released before its end, with a deadline after its start
  abbrev pub opens_within : Job → Bool
  opens_within job = ltb job.release end && ltb start job.deadline

  -- "whose interval shares a tick with it": the interval begins before its end, and ends after its start
  abbrev pub shares_tick : (bounds : List ℕ) → (interval : ℕ) → Bool
  shares_tick bounds i = ltb (bound_at bounds i) end && ltb start (bound_at bounds (suc i))

-- A step of the plan has the cell.
abbrev pub has_cell : (plan : List ℕ) → (cell : ℕ) → Bool
has_cell plan cell = some_below (step_count plan) (λ s. eqb (cell_at plan s) cell)

-- "the jobs open somewhere in it", by job number
abbrev pub jobs_open : List Job → (start end : ℕ) → List ℕ
jobs_open jobs start end = passing_below (length jobs) (λ j. opens_within start end (job_of jobs j))

-- "the jobs wholly inside it", by job number
abbrev pub jobs_inside : List Job → (start end : ℕ) → List ℕ
jobs_inside jobs start end = passing_below (length jobs) (λ j. is_inside start end (job_of jobs j))

-- "the plan's steps whose interval shares a tick with it", by cell. Each interval has a row of 64 cells.
abbrev pub steps_touched : (bounds plan : List ℕ) → (start end : ℕ) → List ℕ
steps_touched bounds plan start end =
    passing_below (interval_count bounds * max_jobs) (λ cell. has_cell plan cell && shares_tick start end bounds (cell / max_jobs))

-- "the nearest deadline at or after its start, or none"
abbrev pub nearest_deadline : List Job → (start : ℕ) → Option ℕ
nearest_deadline jobs start = least_below (length jobs) (λ j. (job_of jobs j).deadline) (λ j. leb start (job_of jobs j).deadline)

-- What touches the span, of jobs, the bounds that cut the time, and a plan.
unfoldable pub touched : List Job → (bounds plan : List ℕ) → (start end : ℕ) → Touched
touched jobs bounds plan start end = record {
  open_jobs = jobs_open jobs start end;
  inside_jobs = jobs_inside jobs start end;
  steps = steps_touched bounds plan start end;
  deadline = nearest_deadline jobs start;
}
