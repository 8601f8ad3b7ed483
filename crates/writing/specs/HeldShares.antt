-- The set of the jobs with a share in an interval.
use Rattle.std.specs.Prelude.{ℕ, ◌<◌, ◌≤◌, ◌≡◌, false, ltb}
use Rattle.job_sets.specs.declared.JobSet.{JobSet}
use Rattle.job_sets.specs.JobSets.{is_member}

-- The set has the jobs whose share is not 0, and no other.
pub record SharesHeld (jobs : ℕ) (shares : (job : ℕ) → ℕ) (set : JobSet) : Type 0 where
  pub held : (j : ℕ) → j < jobs → is_member set j ≡ ltb 0 (shares j)
  pub held_past : (j : ℕ) → jobs ≤ j → is_member set j ≡ false
