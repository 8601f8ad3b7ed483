-- How often the window test adds a job's cycles to a sum (document 02, Change 4): "for a fitting set exactly one for each
-- distinct release and each job released at or after it".
use Rattle.std.specs.Prelude.{ℕ, Bool, not, List, length, ltb, leb, eqb}
use Rattle.model.specs.declared.Job.{Job}
use Rattle.model.specs.Sum.{sum, only_if}
use Rattle.model.specs.Search.{some_below}
use Rattle.model.specs.Jobs.{job_of}

module _ (jobs : List Job) where
  -- How many jobs are released at or after a time.
  unfoldable pub released_from : (time : ℕ) → ℕ
  released_from time = sum (length jobs) (λ j. only_if (leb time (job_of jobs j).release) 1)

  -- No job before job j has its release. Of the jobs with one release only the first is such, so that each distinct release
  -- is counted once.
  unfoldable pub is_new_release : (j : ℕ) → Bool
  is_new_release j = not (some_below j (λ i. eqb (job_of jobs i).release (job_of jobs j).release))

  -- One for each distinct release that is before a time, and each job released at or after that release.
  unfoldable pub additions_before : (time : ℕ) → ℕ
  additions_before time =
      sum (length jobs) (λ j. only_if (is_new_release j) (only_if (ltb (job_of jobs j).release time) (released_from (job_of jobs j).release)))

  -- One for each distinct release and each job released at or after it.
  unfoldable pub additions : ℕ
  additions = sum (length jobs) (λ j. only_if (is_new_release j) (released_from (job_of jobs j).release))
