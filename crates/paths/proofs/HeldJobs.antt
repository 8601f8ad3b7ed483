-- Laws of the sets of jobs with a share in each interval: a job joins the set where its share grows, and leaves it where its share
-- becomes 0.
-- Assumes nothing.
use mathlib.Core.Path.{◌≡◌, sym, ◌∙◌}
use mathlib.Core.Bool.{false}
use mathlib.Core.Logic.{◌⊎◌, inl, inr}
use mathlib.Core.List.{List}
use Prim.Native.Nat.{ℕ, ◌<◌, ◌≤◌}
use native.Mathlib.Decide.{ℕ_discrete}
use native.Mathlib.Omega.{arith}
use lib.Dec.{ltb}
use lib.ListN.{length, replicate, length-replicate}
use borrow.Author.Tests.{lt-ltb, le-ltb}
use Rattle.model.specs.Limits.{max_jobs}
use Rattle.model.specs.Plans.{Shares}
use Rattle.job_sets.specs.JobSets.{is_member, with_job, without_job}
use Rattle.job_sets.specs.IntervalSets.{set_words, set_in, Added}
use Rattle.job_sets.proofs.JobSets.{none_has, with_here, with_other, without_here, without_other}
use Rattle.job_sets.proofs.IntervalSets.{zeros_are}
use Rattle.workloads.specs.Placement.{Problem}
use Rattle.workloads.specs.Arrays.{Holding}
use Rattle.paths.specs.Paths.{Grown}
use Rattle.paths.specs.Moves.{Lessened}
use Rattle.paths.proofs.GrownShares.{grown_case, grown_elsewhere}

-- no job has a share
pub holding_start : {p : Problem} {shares : Shares} → ((i j : ℕ) → i < p.intervals → j < p.jobs → shares i j ≡ 0)
    → Holding p shares (replicate set_words 0)
holding_start no_share =
    record {
      holders_length = length-replicate {A = ℕ} set_words 0;
      held = λ i j inside below. rw (zeros_are i, no_share i j inside below) (none_has j);
      held_past = λ i j inside past. rw (zeros_are i) (none_has j);
    }

-- the set of one interval changes with its shares
holding_change : {p : Problem} {before after : Shares} {holders holders-after : List ℕ} → Holding p before holders → (interval : ℕ)
    → length holders-after ≡ set_words → ((i : ℕ) → (i ≡ interval → ⊥) → set_in holders-after i ≡ set_in holders i)
    → ((i j : ℕ) → i < p.intervals → j < p.jobs → (i ≡ interval → ⊥) → after i j ≡ before i j)
    → ((j : ℕ) → j < p.jobs → is_member (set_in holders-after interval) j ≡ ltb 0 (after interval j))
    → ((j : ℕ) → p.jobs ≤ j → is_member (set_in holders-after interval) j ≡ false)
    → Holding p after holders-after
holding_change {p} {before} {after} {holders} {holders-after} holding interval size elsewhere others held past =
    record {
      holders_length = size;
      held = λ i j inside below. held_at i j inside below (ℕ_discrete i interval);
      held_past = λ i j inside over. past_at i j inside over (ℕ_discrete i interval);
    }
  where
    held_at : (i j : ℕ) → i < p.intervals → j < p.jobs → Dec (i ≡ interval) → is_member (set_in holders-after i) j ≡ ltb 0 (after i j)
    held_at i j inside below (yes here) = rw here (held j below)
    held_at i j inside below (no other) = rw (elsewhere i other, others i j inside below other) (holding.held i j inside below)

    past_at : (i j : ℕ) → i < p.intervals → p.jobs ≤ j → Dec (i ≡ interval) → is_member (set_in holders-after i) j ≡ false
    past_at i j inside over (yes here) = rw here (past j over)
    past_at i j inside over (no other) = rw (elsewhere i other) (holding.held_past i j inside over)

module _ {p : Problem} (jobs_most : p.jobs ≤ max_jobs) {before after : Shares} {holders holders-after : List ℕ} (holding : Holding p before holders)
    {interval job amount : ℕ} (some : 0 < amount) where
  -- a share grows
  pub holding_put : Grown p before after interval job amount → Added holders holders-after interval job → Holding p after holders-after
  holding_put grown added =
      holding_change holding interval added.size added.elsewhere (grown_elsewhere grown)
      (λ j below. rw added.here (joined j below (ℕ_discrete j job)))
      (λ j past. rw added.here (with_other (set_in holders interval) job j small (λ e. omega (arith, grown.job_below)) ∙ holding.held_past interval j grown.interval_below past))
    where
      small : job < max_jobs
      small = omega (arith, grown.job_below)

      joined : (j : ℕ) → j < p.jobs → Dec (j ≡ job) → is_member (with_job (set_in holders interval) job) j ≡ ltb 0 (after interval j)
      joined j below (yes its) =
          rw its (with_here (set_in holders interval) job small ∙ sym (lt-ltb 0 (after interval job) (omega (arith, grown.here))))
      joined j below (no other) =
          rw (with_other (set_in holders interval) job j small other, grown.other_job interval j grown.interval_below below other)
          (holding.held interval j grown.interval_below below)

  -- a share falls
  pub holding_taken : Grown p after before interval job amount → Lessened holders holders-after interval job (before interval job) amount
      → Holding p after holders-after
  holding_taken grown lessened = go (ℕ_discrete (before interval job) amount)
    where
      left : before interval job ≡ amount → (j : ℕ) → j < p.jobs → Dec (j ≡ job) → is_member (without_job (set_in holders interval) job) j ≡ ltb 0 (after interval j)
      left all j below (yes its) =
          rw its (without_here (set_in holders interval) job ∙ sym (le-ltb 0 (after interval job) (omega (arith, grown.here))))
      left all j below (no other) =
          rw (without_other (set_in holders interval) job j other, ← grown.other_job interval j grown.interval_below below other)
          (holding.held interval j grown.interval_below below)

      -- a share that is not taken whole stays above 0
      stays : (before interval job ≡ amount → ⊥) → (i j : ℕ) → (before i j ≡ after i j) ⊎ ((i ≡ interval) × (j ≡ job)) → ltb 0 (before i j) ≡ ltb 0 (after i j)
      stays more i j (inl same) = rw same
      stays more i j (inr (here, its)) =
          rw (here, its)
          (lt-ltb 0 (before interval job) (omega (arith, grown.here)) ∙ sym (lt-ltb 0 (after interval job) (omega (arith, grown.here, more))))

      go : Dec (before interval job ≡ amount) → Holding p after holders-after
      go (yes all) =
          let removed = lessened.leaves all in
          holding_change holding interval removed.size removed.elsewhere (λ i j inside below other. sym (grown_elsewhere grown i j inside below other))
          (λ j below. rw removed.here (left all j below (ℕ_discrete j job)))
          (λ j past. rw removed.here (without_other (set_in holders interval) job j (λ e. omega (arith, grown.job_below)) ∙ holding.held_past interval j grown.interval_below past))
      go (no more) =
          rw (lessened.stays more)
          (record {
            holders_length = holding.holders_length;
            held = λ i j inside below. holding.held i j inside below ∙ stays more i j (grown_case grown i j inside below);
            held_past = holding.held_past;
          })
