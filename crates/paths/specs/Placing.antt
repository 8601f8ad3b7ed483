-- The invariant while a job is placed.
use Rattle.std.specs.Prelude.{ℕ, ◌+◌, ◌<◌, ◌≤◌, ◌≡◌}
use Rattle.model.specs.Plans.{Shares}
use Rattle.workloads.specs.Placement.{Problem, Open, placed_of, Priced}

-- The invariant while job `job` has `left` cycles still to be placed at band `band` or above, and each other job j has
-- `lefts j`: no interval in which the job is open has a price below the band.
pub record Placing (p : Problem) (shares : Shares) (prices lefts : ℕ → ℕ) (job left band : ℕ) : Type 0 where
  pub priced : Priced p shares prices
  pub job_below : job < p.jobs
  pub here : placed_of p shares job + left ≡ p.cycles job
  pub others : (j : ℕ) → j < p.jobs → (j ≡ job → ⊥) → placed_of p shares j + lefts j ≡ p.cycles j
  pub band_below : band < p.bands
  pub reaches : (i : ℕ) → i < p.intervals → Open p i job → band ≤ prices i
