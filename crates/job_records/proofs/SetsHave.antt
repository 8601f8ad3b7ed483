-- Laws of the sets of the intervals by their members: tests that agree, no jobs, and one job more in one set.
-- Assumes nothing.
use mathlib.Core.Path.{◌≡◌, ◌∙◌}
use mathlib.Core.Bool.{Bool, ◌&&◌, ◌||◌}
use mathlib.Core.List.{List}
use Prim.Native.Nat.{ℕ, ◌<◌}
use lib.ListN.{replicate, length-replicate}
use lib.Dec.{eqb}
use Rattle.model.specs.Limits.{max_intervals, max_jobs}
use Rattle.job_sets.specs.IntervalSets.{set_words, Added}
use Rattle.job_sets.proofs.JobSets.{none_has}
use Rattle.job_sets.proofs.IntervalSets.{zeros_are, added_has}
use Rattle.job_records.specs.SetsHave.{SetsHave, NoJobs}

pub have_cong : {sets : List ℕ} {f g : (i j : ℕ) → Bool} → SetsHave sets f → ((i j : ℕ) → i < max_intervals → j < max_jobs → f i j ≡ g i j) → SetsHave sets g
have_cong have same = record { size = have.size; has = λ i j inside below. have.has i j inside below ∙ same i j inside below }

pub no-jobs : NoJobs (replicate set_words 0)
no-jobs = record { size = length-replicate {A = ℕ} set_words 0; has = λ i j inside below. rw (zeros_are i) (none_has j) }

pub have_added : {before after : List ℕ} {interval job : ℕ} {f g : (i j : ℕ) → Bool} → SetsHave before f → Added before after interval job → job < max_jobs
    → ((i j : ℕ) → i < max_intervals → j < max_jobs → ((eqb i interval && eqb j job) || f i j) ≡ g i j) → SetsHave after g
have_added have added small same = record {
  size = added.size;
  has = λ i j inside below. added_has added small i j ∙ rw (have.has i j inside below) (same i j inside below);
}
