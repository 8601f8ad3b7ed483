-- A plan in bytes (document 01, "Tables in bytes", "Walking"): N and step count S, 16 bits each; cells, 16 bits each;
-- cycles, 32 bits each. A cell is interval × 64 + job.
use Rattle.std.specs.Prelude.{ℕ, ◌+◌, ◌*◌, ◌/◌, ◌%◌, Bool, not, ◌||◌, ◌&&◌, List, length, ltb, eqb}
use Rattle.model.specs.Limits.{max_jobs}
use Rattle.model.specs.Sum.{sum, only_if}
use Rattle.model.specs.Outcome.{Outcome, answer, refuse_when}
use Rattle.model.specs.Bytes.{number16, number32}
use Rattle.model.specs.Entries.{list_of}
use Rattle.model.specs.Plans.{Shares}

-- A step gives a job some cycles in an interval.
pub record Step : Type 0 where
  pub interval : ℕ
  pub job : ℕ
  pub cycles : ℕ

-- A cell is interval × 64 + job: each interval has a row of 64 cells.
abbrev pub cell_of : (interval job : ℕ) → ℕ
cell_of interval job = interval * max_jobs + job

module _ (bytes : List ℕ) where
  abbrev pub plan_intervals : ℕ
  plan_intervals = number16 bytes 0

  abbrev pub step_count : ℕ
  step_count = number16 bytes 2

  abbrev pub cell_at : (step : ℕ) → ℕ
  cell_at s = number16 bytes (4 + 2 * s)

  -- Step s, counted from 0.
  unfoldable pub step_at : (step : ℕ) → Step
  step_at s = record {
    interval = cell_at s / max_jobs;
    job = cell_at s % max_jobs;
    cycles = number32 bytes (4 + 2 * step_count + 4 * s);
  }

  -- 15: plan under 4 bytes or length not 4 + 6S.
  abbrev pub wrong_plan_length : Bool
  wrong_plan_length = ltb (length bytes) 4 || not (eqb (length bytes) (4 + 6 * step_count))

  -- Walking: a plan's steps one after another, each once in file order. Only 15 is possible.
  unfoldable pub walk : Outcome (List Step)
  walk = refuse_when wrong_plan_length 15 (answer (list_of step_count step_at))

  -- The cycles of a job's steps, added.
  unfoldable pub job_sum : (job : ℕ) → ℕ
  job_sum j = sum step_count (λ s. only_if (eqb (step_at s).job j) (step_at s).cycles)

  -- The share of a job in an interval: the cycles of the steps with that cell.
  unfoldable pub shares_of : Shares
  shares_of i j =
      sum step_count (λ s. only_if (eqb (step_at s).interval i && eqb (step_at s).job j) (step_at s).cycles)
