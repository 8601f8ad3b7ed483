-- Taking all shares out of the table, in plain arrays.
use Rattle.std.specs.Prelude.{ℕ, ◌+◌, ◌*◌, ◌<◌, ◌≤◌, ◌≡◌, true, false, List, ltb, length, replicate}
use Rattle.model.specs.Limits.{max_jobs, max_intervals}
use Rattle.model.specs.Plans.{shares_in}
use Rattle.job_sets.specs.declared.JobSet.{JobSet}
use Rattle.job_sets.specs.JobSets.{is_member}
use Rattle.job_sets.specs.IntervalSets.{set_words, set_in}
use Rattle.workloads.specs.Arrays.{numbers_in, KeptPast}

-- For each interval a set has the jobs with a share there, and no other.
pub record HoldsShares (jobs intervals : ℕ) (table holders : List ℕ) : Type 0 where
  pub jobs_most : jobs ≤ max_jobs
  pub intervals_most : intervals ≤ max_intervals
  pub room : intervals * jobs ≤ length table
  pub held : (i j : ℕ) → i < intervals → j < jobs → is_member (set_in holders i) j ≡ ltb 0 (shares_in jobs table i j)
  pub held_past : (i j : ℕ) → i < intervals → jobs ≤ j → is_member (set_in holders i) j ≡ false

-- In one interval the shares of a set's members are 0, and all else stays.
pub record RowCleared (jobs interval : ℕ) (set : JobSet) (before after : List ℕ) : Type 0 where
  pub gone : (j : ℕ) → is_member set j ≡ true → numbers_in after (interval * jobs + j) ≡ 0
  pub others : (k : ℕ) → ((j : ℕ) → is_member set j ≡ true → k ≡ interval * jobs + j → ⊥) → numbers_in after k ≡ numbers_in before k
  pub kept : (count : ℕ) → interval * jobs + jobs ≤ count → KeptPast count before after

-- No job has a share, and no set has a job.
pub record Cleared (jobs intervals : ℕ) (before after holders : List ℕ) : Type 0 where
  pub kept : KeptPast (intervals * jobs) before after
  pub empty : (i j : ℕ) → i < intervals → j < jobs → shares_in jobs after i j ≡ 0
  pub holders_are : holders ≡ replicate set_words 0
