-- The lengths wanted, as a site's open sets give them.
-- Assumes nothing.
use mathlib.Core.Path.{◌≡◌, sym, ◌∙◌}
use mathlib.Core.List.{List}
use Prim.Native.Nat.{ℕ, ◌+◌, ◌-◌, ◌*◌, ◌≤◌, min}
use native.Mathlib.Nat.{mul-le-mul_left}
use native.Mathlib.Omega.{arith}
use lib.ListN.{length}
use Rattle.model.specs.Limits.{max_jobs, max_intervals}
use Rattle.model.specs.Sum.{sum}
use Rattle.model.specs.Intervals.{interval_count, open_pairs}
use Rattle.model.specs.Sites.{Site, ValidSite}
use Rattle.model.specs.Planning.{step_limit}
use Rattle.model.proofs.OpenSets.{open_pairs_none}
use Rattle.model.proofs.StepLimit.{limit_sum}
use Rattle.job_sets.specs.JobSets.{member_count}
use Rattle.job_sets.specs.IntervalSets.{set_in}
use Rattle.intervals.proofs.OpenSets.{open_pairs_are}
use Rattle.rooms.specs.WantedRooms.{OpenIn, WantedRooms}

-- a valid site has few jobs and intervals, and few pairs of them
module _ {site : Site} (valid : ValidSite site) where
  pub intervals_few : interval_count site.bounds ≤ max_intervals
  intervals_few = omega (arith, valid.few_bounds)

  pub cells_few : length site.jobs * interval_count site.bounds ≤ max_jobs * max_intervals
  cells_few =
      let intervals : ℕ = interval_count site.bounds in
      let row : intervals * length site.jobs ≤ intervals * max_jobs = mul-le-mul_left intervals valid.jobs.few in
      omega (arith, intervals_few)

  -- and so have its plans few steps
  pub limit_few : step_limit site ≤ max_jobs + max_intervals - 1
  limit_few = omega (arith, limit_sum site, valid.jobs.few, intervals_few)

module _ {site : Site} {jobs intervals : ℕ} {sets : List ℕ} (held : OpenIn site jobs intervals sets)
    (pairs : ℕ) (counted : pairs ≡ sum intervals (λ i. member_count (set_in sets i))) where
  pairs_are : pairs ≡ open_pairs site.bounds site.jobs
  pairs_are = rw held.intervals_are at counted ∙ open_pairs_are held.open_are

  -- few jobs and intervals, and without jobs no pairs
  pub counts_few : (jobs ≤ max_jobs) × (intervals ≤ max_intervals) × (jobs ≡ 0 → pairs ≡ 0)
  counts_few = (
    omega (arith, held.jobs_are, held.valid.jobs.few),
    omega (arith, held.intervals_are, intervals_few held.valid),
    λ none. pairs_are ∙ open_pairs_none site.bounds site.jobs (sym held.jobs_are ∙ none),
  )

  pub shares_few : jobs * intervals ≤ max_jobs * max_intervals
  shares_few = rw (held.jobs_are, held.intervals_are) (cells_few held.valid)

  module _ (steps : ℕ) (smaller : steps ≡ min (jobs + intervals - 1) pairs) where
    steps_are : steps ≡ step_limit site
    unfolding step_limit
    steps_are = rw (pairs_are, held.jobs_are, held.intervals_are) at smaller

    pub steps_few : steps ≤ max_jobs + max_intervals - 1
    steps_few = rw steps_are (limit_few held.valid)

    pub wanted_rooms : WantedRooms site (4 + 6 * steps) (2 + 5 * intervals) (jobs * intervals)
    wanted_rooms =
        record {
          plan_is = rw steps_are;
          prices_are = rw held.intervals_are;
          shares_are = rw (held.jobs_are, held.intervals_are);
          plan_fits = omega (arith, steps_few);
          prices_fit = omega (arith, counts_few.1);
          shares_fit = omega (arith, shares_few);
        }
