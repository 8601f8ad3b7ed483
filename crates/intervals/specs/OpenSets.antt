-- The sets of the jobs that are open, for all intervals.
use Rattle.std.specs.Prelude.{ℕ, ◌<◌, ◌≡◌, true, ◌&&◌, List, length, get_or, ltb, leb}
use Rattle.model.specs.declared.Job.{Job}
use Rattle.model.specs.Jobs.{job_of}
use Rattle.model.specs.Intervals.{interval_count, is_open}
use Rattle.job_sets.specs.JobSets.{is_member}
use Rattle.job_sets.specs.IntervalSets.{set_words, set_in, sets_of}

-- For each interval the set of the first `jobs` jobs that are open there: each is open in the intervals from its first up to,
-- not including, its last.
abbrev pub open_sets : (jobs : ℕ) → (first last : List ℕ) → List ℕ
open_sets jobs first last = sets_of (λ i j. ltb j jobs && (leb (get_or first j 0) i && ltb i (get_or last j 0)))

-- An array that has, for each interval between the bounds, the set of the jobs that are open there.
pub record HoldsOpen (jobs : List Job) (bounds sets : List ℕ) : Type 0 where
  pub size : length sets ≡ set_words
  pub members : (i j : ℕ) → i < interval_count bounds → j < length jobs → is_member (set_in sets i) j ≡ is_open bounds (job_of jobs j) i
  pub only : (i j : ℕ) → i < interval_count bounds → is_member (set_in sets i) j ≡ true → j < length jobs
