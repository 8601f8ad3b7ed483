-- The sets of the intervals, by their members.
use Rattle.std.specs.Prelude.{ℕ, ◌<◌, ◌≡◌, Bool, false, ◌&&◌, ◌||◌, List, length, eqb}
use Rattle.model.specs.Limits.{max_intervals, max_jobs}
use Rattle.job_sets.specs.JobSets.{is_member}
use Rattle.job_sets.specs.IntervalSets.{set_words, set_in}

-- The set of each interval has the jobs that pass a test, and no others.
pub record SetsHave (sets : List ℕ) (test : (interval job : ℕ) → Bool) : Type 0 where
  pub size : length sets ≡ set_words
  pub has : (i j : ℕ) → i < max_intervals → j < max_jobs → is_member (set_in sets i) j ≡ test i j

-- No set has a job.
abbrev pub NoJobs : (sets : List ℕ) → Type 0
NoJobs sets = SetsHave sets (λ i j. false)

-- A job more in the sets of the intervals that pass a test.
abbrev pub with_job_in : (sets : List ℕ) → (job : ℕ) → (test : (interval : ℕ) → Bool) → (interval job : ℕ) → Bool
with_job_in sets job test i j = (test i && eqb j job) || is_member (set_in sets i) j
