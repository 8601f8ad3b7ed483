-- Laws of the step limit (document 02, Change 10).
-- Assumes nothing.
use mathlib.Core.Path.{◌≡◌}
use Prim.Native.Nat.{ℕ, ◌+◌, ◌-◌, ◌*◌, ◌≤◌}
use native.Mathlib.Omega.{arith}
use lib.ListN.{length}
use Rattle.model.specs.Intervals.{interval_count, open_pairs}
use Rattle.model.specs.Sites.{Site}
use Rattle.model.specs.Planning.{step_limit, plan_length}
use Rattle.model.proofs.OpenSets.{open_pairs_none}

module _ (site : Site) where
  -- what is no more than each of the two numbers is within the limit
  pub within_limit : (steps : ℕ) → steps ≤ length site.jobs + interval_count site.bounds - 1
      → steps ≤ open_pairs site.bounds site.jobs → steps ≤ step_limit site
  unfolding step_limit
  within_limit steps few open-few = omega arith

  -- the limit is no more than each of them
  pub limit_pairs : step_limit site ≤ open_pairs site.bounds site.jobs
  unfolding step_limit
  limit_pairs = omega arith

  pub limit_sum : step_limit site ≤ length site.jobs + interval_count site.bounds - 1
  unfolding step_limit
  limit_sum = omega arith

  -- with a job: jobs + intervals − 1
  pub limit_jobs : 1 ≤ length site.jobs → step_limit site + 1 ≤ length site.jobs + interval_count site.bounds
  limit_jobs some = omega (arith, limit_sum)

  -- without jobs: no steps, and 4 bytes
  pub limit_none : length site.jobs ≡ 0 → step_limit site ≡ 0
  limit_none none = omega (arith, limit_pairs, open_pairs_none site.bounds site.jobs none)

  pub length_none : length site.jobs ≡ 0 → plan_length site ≡ 4
  length_none none = omega (arith, limit_none none)

  -- a buffer for all pairs is long enough
  pub length_pairs : plan_length site ≤ 4 + 6 * open_pairs site.bounds site.jobs
  length_pairs = omega (arith, limit_pairs)
