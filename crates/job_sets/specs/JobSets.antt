-- A set of jobs and its members.
use Rattle.std.specs.Prelude.{ℕ, ◌/◌, ◌%◌, ◌^◌, Bool, true, false, not, ◌&&◌, ◌||◌, ltb, eqb}
use Rattle.model.specs.Limits.{max_jobs}
use Rattle.model.specs.Sum.{sum, only_if}
use Rattle.model.specs.Search.{some_below, first_below}
use Rattle.job_sets.specs.declared.JobSet.{JobSet}

-- "The jobs open in an interval form a 64-bit set, bit number equal to job number": job numbers are below max_jobs, and a
-- job is a member where its bit is set.
unfoldable pub is_member : JobSet → (job : ℕ) → Bool
is_member set job = ltb job max_jobs && eqb (set.word / 2 ^ job % 2) 1

-- The set of the jobs that pass a test.
unfoldable pub set_of : (test : ℕ → Bool) → JobSet
set_of test = record { word = sum max_jobs (λ j. only_if (test j) (2 ^ j)) }

-- The set of the jobs below a number that pass a test.
abbrev pub set_below : (count : ℕ) → (test : ℕ → Bool) → JobSet
set_below count test = set_of (λ j. ltb j count && test j)

-- "and their number is its count of ones"
abbrev pub member_count : JobSet → ℕ
member_count set = sum max_jobs (λ j. only_if (is_member set j) 1)

-- The number of members below a job number.
abbrev pub members_below : JobSet → (job : ℕ) → ℕ
members_below set job = sum job (λ j. only_if (is_member set j) 1)

-- The least member, max_jobs where there is none.
abbrev pub least_member : JobSet → ℕ
least_member set = first_below max_jobs (is_member set)

abbrev pub is_empty : JobSet → Bool
is_empty set = not (some_below max_jobs (is_member set))

-- No job, and every job.
abbrev pub no_jobs : JobSet
no_jobs = set_of (λ j. false)

abbrev pub all_jobs : JobSet
all_jobs = set_of (λ j. true)

-- One job more, and one less.
abbrev pub with_job : JobSet → (job : ℕ) → JobSet
with_job set job = set_of (λ j. eqb j job || is_member set j)

abbrev pub without_job : JobSet → (job : ℕ) → JobSet
without_job set job = set_of (λ j. not (eqb j job) && is_member set j)

-- The members of both sets, and those of one or the other.
abbrev pub in_both : (a b : JobSet) → JobSet
in_both a b = set_of (λ j. is_member a j && is_member b j)

abbrev pub in_either : (a b : JobSet) → JobSet
in_either a b = set_of (λ j. is_member a j || is_member b j)

-- The members of the first set that are not in the second.
abbrev pub in_first_only : (a b : JobSet) → JobSet
in_first_only a b = set_of (λ j. is_member a j && not (is_member b j))
