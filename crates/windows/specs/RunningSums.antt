-- The sum that the window test keeps as a window's end moves on (document 02, Change 4).
use Rattle.std.specs.Prelude.{ℕ, ◌≡◌, List, length, get_or}
use Rattle.model.specs.declared.Job.{Job}
use Rattle.model.specs.Limits.{max_jobs}
use Rattle.model.specs.Sum.{sum, only_if}
use Rattle.model.specs.Jobs.{job_of}
use Rattle.model.specs.Windows.{is_inside, cycles_inside}
use Rattle.job_sets.specs.declared.JobSet.{JobSet}
use Rattle.job_sets.specs.JobSets.{is_member}

-- How many jobs are inside a window.
unfoldable pub jobs_inside : List Job → (start end : ℕ) → ℕ
jobs_inside jobs start end = sum (length jobs) (λ j. only_if (is_inside start end (job_of jobs j)) 1)

-- "Keep the sum as the end moves on; at every end it is proved to be the cycles of the jobs inside." Each of them was added once.
pub record RunningSum (jobs : List Job) (start end cycles additions : ℕ) : Type 0 where
  pub cycles-inside : cycles ≡ cycles_inside jobs start end
  pub added_once : additions ≡ jobs_inside jobs start end

-- The sum of an array's numbers over the members of a set.
unfoldable pub total_over : JobSet → (numbers : List ℕ) → ℕ
total_over set numbers = sum max_jobs (λ j. only_if (is_member set j) (get_or numbers j 0))
