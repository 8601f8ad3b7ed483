-- Laws of what the check finds of the jobs: before the first record and after one more, and that the sets found have the
-- jobs that are open.
-- Assumes nothing.
use mathlib.Core.Path.{◌≡◌, refl, sym, ◌∙◌}
use mathlib.Core.Bool.{Bool, true, false, not, cond, ◌&&◌, ◌||◌, and-true, and-false, or-false}
use mathlib.Core.Logic.{◌⊎◌, inl, inr}
use mathlib.Core.List.{List}
use Prim.Native.Nat.{ℕ, ◌+◌, ◌-◌, ◌<◌, ◌≤◌}
use native.Mathlib.Decide.{ℕ_discrete}
use native.Mathlib.Omega.{arith}
use lib.Dec.{eqb}
use borrow.Author.Tests.{lt-ltb, le-ltb, eq-eqb, ne_eqb}
use Rattle.model.specs.declared.Job.{Job}
use Rattle.model.specs.Limits.{max_intervals, max_jobs}
use Rattle.model.specs.Search.{first_from, first_below}
use Rattle.model.specs.Jobs.{job_of}
use Rattle.model.proofs.Numbers.{lt_or_le, true_or_false}
use Rattle.model.proofs.Search.{FirstBelow, first_below_law, first_below_is, first_below_none}
use Rattle.job_sets.specs.JobSets.{is_member}
use Rattle.job_sets.specs.IntervalSets.{set_in}
use Rattle.job_records.specs.SetsHave.{SetsHave, NoJobs}
use Rattle.job_records.specs.TestedJobs.{open_between, opens_in, open_below, adds_up, TestedBelow, JobTested}
use Rattle.job_records.proofs.SetsHave.{have_cong}

-- how many numbers there are before the first that fails a test: one more where all before the next pass, and it too
module _ (test : ℕ → Bool) (j : ℕ) where
  abbrev fails : ℕ → Bool
  fails i = not (test i)

  abbrev before : ℕ
  before = first_below j fails

  before_more : cond (eqb before j && test j) (j + 1) before ≡ first_below (j + 1) fails
  before_more = go (lt_or_le before j) (true_or_false (test j))
    where
      law : FirstBelow j fails before
      law = first_below_law j fails

      go : (before < j) ⊎ (j ≤ before) → (test j ≡ true) ⊎ (test j ≡ false) → cond (eqb before j && test j) (j + 1) before ≡ first_below (j + 1) fails
      go (inl found) either =
          rw (ne_eqb before j (λ e. omega arith)) (sym (first_below_is (j + 1) fails before (omega arith) law.before (law.here found)))
      go (inr none) (inl passes) =
          rw (eq-eqb before j (omega (arith, law.within)), passes) (sym (first_below_none (j + 1) fails (λ k below. all k below (ℕ_discrete k j))))
        where
          all : (k : ℕ) → k < j + 1 → Dec (k ≡ j) → fails k ≡ false
          all k below (yes last) = rw (last, passes)
          all k below (no other) = law.before k (omega arith)
      go (inr none) (inr failed) =
          let same : before ≡ j = omega (arith, law.within) in
          rw (failed, and-false) (same ∙ sym (first_below_is (j + 1) fails j (omega arith) (λ k below. law.before k (omega arith)) (rw failed)))

module _ (jobs : List Job) (times : List ℕ) (bounds : ℕ) where
  abbrev opens : (i j : ℕ) → Bool
  opens i j = opens_in (job_of jobs j).release (job_of jobs j).deadline times bounds i

  -- a job is in the set of an interval exactly when it is open there
  pub open_has : (count : ℕ) {sets : List ℕ} → SetsHave sets (open_below jobs count times bounds)
      → (i j : ℕ) → i < bounds - 1 → i < max_intervals → j < count → j < max_jobs
      → is_member (set_in sets i) j ≡ open_between (job_of jobs j).release (job_of jobs j).deadline times i
  open_has count opened i j interval inside job below =
      opened.has i j inside below ∙ rw (lt-ltb j count job, lt-ltb i (bounds - 1) interval)

  -- one job more: it is open where it is, and the others are where they were
  open_more : (j i k : ℕ) → Dec (k ≡ j) → (k < j) ⊎ (j ≤ k) → ((opens i j && eqb k j) || open_below jobs j times bounds i k) ≡ open_below jobs (j + 1) times bounds i k
  open_more j i k (yes same) either =
      rw (same, eq-eqb j j refl, le-ltb j j (omega arith), lt-ltb j (j + 1) (omega arith), and-true, or-false)
  open_more j i k (no other) (inl before) = rw (ne_eqb k j other, lt-ltb k j before, lt-ltb k (j + 1) (omega arith), and-false)
  open_more j i k (no other) (inr after) =
      let past : j + 1 ≤ k = omega arith in rw (ne_eqb k j other, le-ltb k j after, le-ltb k (j + 1) past, and-false)

  module _ (sums : List ℕ) where
    pub tests_none : {sets : List ℕ} → NoJobs sets → TestedBelow jobs 0 times bounds sums sets 0
    unfolding first_from
    tests_none none = record { opened = have_cong none (λ i j inside below. rw (le-ltb j 0 (omega arith))); added = refl }

    pub tests_more : {j : ℕ} {sets : List ℕ} {summed : ℕ} {after : List ℕ} {next : ℕ} → TestedBelow jobs j times bounds sums sets summed
        → JobTested summed j (job_of jobs j) times bounds sums sets after next → TestedBelow jobs (j + 1) times bounds sums after next
    tests_more {j} found one = record {
      opened = have_cong one.opened (λ i k inside below. rw (found.opened.has i k inside below) (open_more j i k (ℕ_discrete k j) (lt_or_le k j)));
      added = one.added ∙ rw found.added (before_more (adds_up jobs sums) j);
    }
