-- The invariant between two jobs, over plain functions and in plain arrays.
use Rattle.std.specs.Prelude.{ℕ, suc, ◌+◌, ◌<◌, ◌≤◌, ◌≡◌, List, length}
use Rattle.model.specs.Limits.{max_jobs}
use Rattle.model.specs.Plans.{Shares, shares_in}
use Rattle.workloads.specs.Workloads.{Workload}
use Rattle.workloads.specs.Placement.{Problem, Open, placed_of, Priced}
use Rattle.workloads.specs.Arrays.{numbers_in, problem_in}
use Rattle.paths.specs.FilledTargets.{StoredShares}

-- The invariant between two jobs at a band, with `lefts j` cycles of each job j still to be placed: no interval in which a
-- job with cycles left is open has a price below the band, nor, for the first `count` jobs, at the band.
pub record Filling (p : Problem) (shares : Shares) (prices lefts : ℕ → ℕ) (band count : ℕ) : Type 0 where
  pub priced : Priced p shares prices
  pub rest : (j : ℕ) → j < p.jobs → placed_of p shares j + lefts j ≡ p.cycles j
  pub reaches : (i j : ℕ) → i < p.intervals → j < p.jobs → 0 < lefts j → Open p i j → band ≤ prices i
  pub passed : (i j : ℕ) → i < p.intervals → j < count → 0 < lefts j → Open p i j → band < prices i

-- Between two jobs at a band, with the room up to its end; an array has what is left of each job.
pub record FillingTables (work : Workload) (table room holders left : List ℕ) (prices : ℕ → ℕ) (band count : ℕ) : Type 0 where
  pub stored : StoredShares work table room holders (numbers_in work.frequency (suc band))
  pub band_below : band < work.bands
  pub left_length : length left ≡ max_jobs
  pub filling : Filling (problem_in work) (shares_in work.jobs table) prices (numbers_in left) band count
