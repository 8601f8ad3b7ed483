-- One cell, in plain arrays, with nothing said of what else is to be placed.
use Rattle.std.specs.Prelude.{ℕ, ◌+◌, ◌*◌, ◌^◌, ◌<◌, ◌≤◌, ◌≡◌, ◌⊎◌, List, length}
use Rattle.model.specs.Limits.{max_jobs, max_intervals, max_bounds}
use Rattle.job_sets.specs.IntervalSets.{set_words, Added}
use Rattle.workloads.specs.Arrays.{numbers_in}
use Rattle.paths.specs.Moves.{put_at}
use Rattle.loads.specs.Crossing.{Takes}

-- The most that a cell of interval i takes of `left` cycles of a job that is due at bound d: no more than the cross of any bound strictly
-- between.
pub record Most (cross : ℕ → ℕ) (left i d amount : ℕ) : Type 0 where
  pub fits : amount ≤ left
  pub crosses : (b : ℕ) → i < b → b < d → amount ≤ cross b
  pub met : (amount ≡ left) ⊎ ((b : ℕ) × (i < b) × (b < d) × (amount ≡ cross b))

pub record CanTake (jobs : ℕ) (last table holders left cross : List ℕ) (i j : ℕ) : Type 0 where
  pub below : j < jobs
  pub jobs_most : jobs ≤ max_jobs
  pub inside : i < numbers_in last j
  pub intervals_most : numbers_in last j ≤ max_intervals
  pub room : numbers_in last j * jobs ≤ length table
  pub empty : numbers_in table (i * jobs + j) ≡ 0
  pub holders_length : length holders ≡ set_words
  pub left_length : length left ≡ max_jobs
  pub cross_length : length cross ≡ max_bounds
  pub left_small : numbers_in left j < 2 ^ 32

-- The job joins the interval's set where it takes some.
pub record CellTaken (jobs : ℕ) (last table holders left cross table-after holders-after left_after cross-after : List ℕ) (i j : ℕ) : Type 0 where
  pub amount : ℕ
  pub takes : Takes i j (numbers_in last j) amount (numbers_in left) (numbers_in cross) (numbers_in left_after) (numbers_in cross-after)
  pub table_is : table-after ≡ put_at table (i * jobs + j) amount
  pub joined : 0 < amount → Added holders holders-after i j
  pub not_joined : amount ≡ 0 → holders-after ≡ holders
  pub left_length : length left_after ≡ max_jobs
  pub cross_length : length cross-after ≡ max_bounds
