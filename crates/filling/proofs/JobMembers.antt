-- Laws of sets whose members are all jobs: without a job they still are, and so are the jobs that leave an interval.
-- Assumes nothing.
use mathlib.Core.Path.{◌≡◌, sym, ◌∙◌}
use mathlib.Core.Bool.{true, not}
use mathlib.Core.Logic.{◌⊎◌, inl, inr}
use mathlib.Core.List.{List}
use Prim.Native.Nat.{ℕ, suc, ◌<◌, ◌≤◌}
use lib.Dec.{eqb}
use Rattle.model.proofs.Numbers.{lt_or_le, both_true}
use Rattle.job_sets.specs.declared.JobSet.{JobSet}
use Rattle.job_sets.specs.JobSets.{is_member, without_job}
use Rattle.job_sets.specs.IntervalSets.{set_in, leaving_set}
use Rattle.job_sets.proofs.JobSets.{without_has, less_has}
use Rattle.job_sets.proofs.IntervalSets.{leaving_next, leaving_last}

-- without a job
pub rest_below : (jobs : ℕ) (set rest : JobSet) (job : ℕ) → rest ≡ without_job set job → ((j : ℕ) → is_member set j ≡ true → j < jobs)
    → (j : ℕ) → is_member rest j ≡ true → j < jobs
rest_below jobs set rest job is-rest below j has =
    below j (both_true (not (eqb j job)) (is_member set j) (sym (without_has set job j) ∙ rw is-rest at has)).1

-- the jobs that leave the set of an interval are members of it
pub leaving_below : (jobs intervals : ℕ) (sets : List ℕ) → ((i j : ℕ) → i < intervals → is_member (set_in sets i) j ≡ true → j < jobs)
    → (i : ℕ) → i < intervals → (set : JobSet) → set ≡ leaving_set intervals sets i → (j : ℕ) → is_member set j ≡ true → j < jobs
leaving_below jobs intervals sets below i inside set is_set j has = below i j inside (go (lt_or_le (suc i) intervals))
  where
    go : (suc i < intervals) ⊎ (intervals ≤ suc i) → is_member (set_in sets i) j ≡ true
    go (inl next) =
        (both_true (is_member (set_in sets i) j) (not (is_member (set_in sets (suc i)) j))
        (sym (less_has (set_in sets i) (set_in sets (suc i)) j) ∙ rw (is_set, leaving_next intervals sets i next) at has)).0
    go (inr last) = rw (is_set, leaving_last intervals sets i last) at has
