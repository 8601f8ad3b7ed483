-- The invariants of placing jobs, of shares, room and prices in plain arrays.
use Rattle.std.specs.Prelude.{ℕ, ◌≡◌, List, length}
use Rattle.model.specs.Limits.{max_jobs, max_intervals}
use Rattle.model.specs.Plans.{shares_in}
use Rattle.workloads.specs.Workloads.{Workload}
use Rattle.workloads.specs.Placement.{Placed}
use Rattle.workloads.specs.Arrays.{numbers_in, problem_in, Stored}
use Rattle.paths.specs.FilledTargets.{StoredShares}
use Rattle.filling.specs.Filling.{Filling}

-- All jobs are placed.
pub record PlacedTables (work : Workload) (table loads prices : List ℕ) : Type 0 where
  pub stored : Stored work table loads
  pub prices_length : length prices ≡ max_intervals
  pub placed : Placed (problem_in work) (shares_in work.jobs table) (numbers_in prices)

-- Between two bands: the bands before `band` are done, and no interval has more room than up to their end. An array has what is
-- left of each job.
pub record BandStart (work : Workload) (table room holders left : List ℕ) (prices : ℕ → ℕ) (band : ℕ) : Type 0 where
  pub stored : StoredShares work table room holders (numbers_in work.frequency band)
  pub left_length : length left ≡ max_jobs
  pub filling : Filling (problem_in work) (shares_in work.jobs table) prices (numbers_in left) band 0
