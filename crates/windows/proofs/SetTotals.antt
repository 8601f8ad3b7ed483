-- Laws of sums over the members of a set: one member less, and a set that has the jobs which pass a test.
-- Assumes nothing.
use mathlib.Core.Path.{◌≡◌, ◌∙◌}
use mathlib.Core.Bool.{Bool, true, false}
use mathlib.Core.List.{List}
use Prim.Native.Nat.{ℕ, ◌+◌, ◌<◌, ◌≤◌}
use native.Mathlib.Omega.{arith}
use lib.ListN.{get_or}
use Rattle.model.specs.Limits.{max_jobs}
use Rattle.model.specs.Sum.{sum, only_if}
use Rattle.model.proofs.Sum.{sum_zero, sum_cong, sum_shorter, sum_update}
use Rattle.job_sets.specs.declared.JobSet.{JobSet}
use Rattle.job_sets.specs.JobSets.{is_member, is_empty, least_member, member_count, without_job}
use Rattle.job_sets.proofs.JobSets.{member_small, without_here, without_other, count_without, empty_has, least_has}
use Rattle.windows.specs.RunningSums.{total_over}

module _ (set : JobSet) (numbers : List ℕ) where
  pub total_empty : is_empty set ≡ true → total_over set numbers ≡ 0
  unfolding total_over
  total_empty empty = sum_zero max_jobs (λ j below. rw (empty_has set empty j))

  pub total_without : (job : ℕ) → is_member set job ≡ true → total_over set numbers ≡ total_over (without_job set job) numbers + get_or numbers job 0
  unfolding total_over
  total_without job has =
      sum_update max_jobs (λ j. only_if (is_member (without_job set job) j) (get_or numbers j 0)) (λ j. only_if (is_member set j) (get_or numbers j 0))
      job (get_or numbers job 0) (member_small set job has)
      (rw (without_here set job, has) (omega arith)) (λ j inside other. rw (without_other set job j other))

pub count_empty : (set : JobSet) → is_empty set ≡ true → member_count set ≡ 0
count_empty set empty = sum_zero max_jobs (λ j below. rw (empty_has set empty j))

-- one turn of a loop over the members, least first
pub total_turn : (set : JobSet) (numbers : List ℕ) (job : ℕ) (rest : JobSet) → is_empty set ≡ false → job ≡ least_member set
    → rest ≡ without_job set job
    → (job < max_jobs) × (total_over set numbers ≡ total_over rest numbers + get_or numbers job 0) × (member_count set ≡ member_count rest + 1)
total_turn set numbers job rest some is_least is-rest =
    let (small, has) = rw (← is_least) at (least_has set some) in
    (small, rw is-rest (total_without set numbers job has), rw is-rest (count_without set job has))

-- a sum over a set is one over the jobs that pass its test
pub total_tested : (set : JobSet) (count : ℕ) (test : ℕ → Bool) (weight other : ℕ → ℕ) → count ≤ max_jobs
    → ((j : ℕ) → j < count → is_member set j ≡ test j) → ((j : ℕ) → count ≤ j → is_member set j ≡ false)
    → ((j : ℕ) → j < count → weight j ≡ other j)
    → sum max_jobs (λ j. only_if (is_member set j) (weight j)) ≡ sum count (λ j. only_if (test j) (other j))
total_tested set count test weight other few members none same =
    sum_shorter count max_jobs (λ j. only_if (is_member set j) (weight j)) few (λ j past inside. rw (none j past))
    ∙ sum_cong count (λ j below. rw (members j below, same j below))
