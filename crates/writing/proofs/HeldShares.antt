-- Laws of a set that has the jobs with a share in an interval: its members are these, and all intervals' sets together have
-- as many as there are steps.
-- Assumes nothing.
use mathlib.Core.Path.{◌≡◌, sym, ◌∙◌}
use mathlib.Core.Bool.{true, false}
use mathlib.Core.Logic.{◌⊎◌, inl, inr}
use mathlib.Core.List.{List}
use Prim.Native.Nat.{ℕ, ◌<◌, ◌≤◌}
use lib.Dec.{ltb}
use lib.ListN.{length}
use borrow.Author.Tests.{ltb-true, ltb-false}
use Rattle.model.specs.Limits.{max_jobs}
use Rattle.model.specs.Sum.{sum, only_if}
use Rattle.model.specs.Plans.{Shares}
use Rattle.model.proofs.Numbers.{lt_or_le, true≢false}
use Rattle.model.proofs.Sum.{sum_cong, sum_shorter}
use Rattle.job_sets.specs.declared.JobSet.{JobSet}
use Rattle.job_sets.specs.JobSets.{is_member, member_count}
use Rattle.job_sets.specs.IntervalSets.{set_in}
use Rattle.writing.specs.StepList.{steps_of}
use Rattle.writing.specs.HeldShares.{SharesHeld}
use Rattle.writing.proofs.CellOrder.{step_total}

module _ {jobs : ℕ} {shares : ℕ → ℕ} {set : JobSet} (holds : SharesHeld jobs shares set) where
  -- a member is a job with a share
  pub member_share : (j : ℕ) → is_member set j ≡ true → (j < jobs) × (0 < shares j)
  member_share j has = go (lt_or_le j jobs)
    where
      go : (j < jobs) ⊎ (jobs ≤ j) → (j < jobs) × (0 < shares j)
      go (inl below) = (below, ltb-true 0 (shares j) (sym (holds.held j below) ∙ has))
      go (inr past) = absurd (true≢false (sym has ∙ holds.held_past j past))

  -- any other job has none
  pub other_share : (j : ℕ) → j < jobs → is_member set j ≡ false → shares j ≤ 0
  other_share j below lacks = ltb-false 0 (shares j) (sym (holds.held j below) ∙ lacks)

  members_counted : jobs ≤ max_jobs → member_count set ≡ sum jobs (λ j. only_if (ltb 0 (shares j)) 1)
  members_counted few =
      sum_shorter jobs max_jobs _ few (λ j past below. rw (holds.held_past j past)) ∙ sum_cong jobs (λ j below. rw (holds.held j below))

-- one step for each member of each interval's set
pub members_are_steps : (jobs intervals : ℕ) (shares : Shares) (sets : List ℕ) → jobs ≤ max_jobs
    → ((i : ℕ) → i < intervals → SharesHeld jobs (shares i) (set_in sets i))
    → sum intervals (λ i. member_count (set_in sets i)) ≡ length (steps_of jobs intervals shares)
members_are_steps jobs intervals shares sets few holds =
    sum_cong intervals (λ i below. members_counted (holds i below) few) ∙ sym (step_total jobs intervals shares)
