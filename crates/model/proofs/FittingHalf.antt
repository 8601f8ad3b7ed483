-- The first half of the check, 15 to 20: it passes exactly when the bytes are a plan for the jobs that gives each job
-- its cycles and loads no interval past its length × top frequency.
-- Assumes nothing.
use mathlib.Core.Path.{◌≡◌, ◌∙◌, sym}
use mathlib.Core.Bool.{not}
use mathlib.Core.Logic.{◌↔◌}
use mathlib.Core.List.{List}
use Prim.Native.Nat.{ℕ, ◌+◌, ◌*◌, ◌<◌}
use native.Mathlib.Omega.{arith}
use lib.ListN.{length}
use lib.Dec.{eqb}
use borrow.Author.Tests.{eqb-true, eq-eqb, not-false}
use Rattle.model.specs.declared.Job.{Job}
use Rattle.model.specs.Outcome.{Outcome, answer, and_then}
use Rattle.model.specs.Jobs.{job_of}
use Rattle.model.specs.Processors.{top_of}
use Rattle.model.specs.Intervals.{interval_count}
use Rattle.model.specs.Sites.{Site}
use Rattle.model.specs.Plans.{Gives}
use Rattle.model.specs.Steps.{plan_intervals, step_count, wrong_plan_length, job_sum, shares_of}
use Rattle.model.specs.Checking.{step_fault, stepping, job_sum_fault, load_fault, fitting}
use Rattle.model.specs.Accepted.{IsPlan}
use Rattle.model.proofs.Numbers.{true≢false}
use Rattle.model.proofs.Outcome.{answered_past, by_entry_answered, by_entry_passes, after_test, after-entries}
use Rattle.model.proofs.Steps.{share_none, shares-of-job, step_in_job_sum}
use Rattle.model.proofs.Faults.{SoundCell, SoundCycles, plan-length, step_sound, job-sum-fault, load-fault}

module _ (jobs : List Job) (bounds plan : List ℕ) where
  -- no fault at any step makes a plan
  steps_are_plan : length plan ≡ 4 + 6 * step_count plan → plan_intervals plan ≡ interval_count bounds
      → ((s : ℕ) → s < step_count plan → step_fault jobs bounds plan s ≡ 0) → IsPlan jobs bounds plan
  steps_are_plan size intervals faultless =
      record {
        size = size;
        intervals = intervals;
        step_interval = λ s below. (sound s below).0.interval;
        step_job = λ s below. (sound s below).0.job;
        step_open = λ s below. (sound s below).0.is_open_true;
        step_some = λ s below. (sound s below).1.some;
        cells_differ = λ r s before below. (sound s below).0.new r before;
      }
    where
      sound : (s : ℕ) → s < step_count plan → SoundCell jobs bounds plan s × SoundCycles jobs plan s
      sound s below = (step_sound jobs bounds plan s).0 (faultless s below)

  -- an answer says that the steps are those of a plan
  pub stepping_answered : {A : Type 0} {a : A} (next : Outcome A) → stepping jobs bounds plan next ≡ answer a
      → IsPlan jobs bounds plan × (next ≡ answer a)
  stepping_answered next e =
      let (size, e) = answered_past (wrong_plan_length plan) 15 _ e in
      let (intervals, e) = answered_past (not (eqb (plan_intervals plan) (interval_count bounds))) 16 _ e in
      let (steps, e) = by_entry_answered _ _ (step_count plan) e in
      (steps_are_plan ((plan-length plan).0 size) (eqb-true _ _ (not-false _ intervals)) steps, e)

module _ (site : Site) (plan : List ℕ) where
  module _ (is-plan : IsPlan site.jobs site.bounds plan) where
    -- no fault at any job and any interval: the plan gives each job its cycles
    sums_give : ((j : ℕ) → j < length site.jobs → job_sum_fault site plan j ≡ 0)
        → ((i : ℕ) → i < interval_count site.bounds → load_fault site plan i ≡ 0) → Gives (top_of site.processor) site.jobs site.bounds (shares_of plan)
    sums_give whole fits =
        record {
          whole = λ j job.
              shares-of-job plan _ is-plan.step_interval j ∙ (job-sum-fault site plan j).sound.0 (whole j job);
          shut = λ i j interval job is-shut. share_none plan i j
              (λ s below there its. true≢false (sym (is-plan.step_open s below) ∙ rw (there, its) is-shut));
          fits = λ i interval. (load-fault site plan i).sound.0 (fits i interval);
        }

    module _ (gives : Gives (top_of site.processor) site.jobs site.bounds (shares_of plan)) where
      whole_sum : (j : ℕ) → j < length site.jobs → job_sum plan j ≡ (job_of site.jobs j).cycles
      whole_sum j job = sym (shares-of-job plan _ is-plan.step_interval j) ∙ gives.whole j job

      -- a plan that gives each job its cycles has no fault at any step, any job and any interval
      steps_faultless : (s : ℕ) → s < step_count plan → step_fault site.jobs site.bounds plan s ≡ 0
      steps_faultless s below =
          (step_sound site.jobs site.bounds plan s).1 (
            record {
              interval = is-plan.step_interval s below;
              job = is-plan.step_job s below;
              is_open_true = is-plan.step_open s below;
              new = λ r before. is-plan.cells_differ r s before below;
            },
            record {
              some = is-plan.step_some s below;
              upto = omega (arith, step_in_job_sum plan s below, whole_sum _ (is-plan.step_job s below));
            },
          )

      job_sums_faultless : (j : ℕ) → j < length site.jobs → job_sum_fault site plan j ≡ 0
      job_sums_faultless j job = (job-sum-fault site plan j).sound.1 (whole_sum j job)

      loads_faultless : (i : ℕ) → i < interval_count site.bounds → load_fault site plan i ≡ 0
      loads_faultless i interval = (load-fault site plan i).sound.1 (gives.fits i interval)

      -- such a plan passes, and what comes next decides
      pub fitting_passes : {A : Type 0} (next : Outcome A) → fitting site plan next ≡ next
      unfolding fitting
      fitting_passes next =
          rw ((plan-length plan).1 is-plan.size, eq-eqb _ _ is-plan.intervals)
          (by_entry_passes _ _ (step_count plan) steps_faultless
          ∙ by_entry_passes _ _ (length site.jobs) job_sums_faultless
          ∙ by_entry_passes _ _ (interval_count site.bounds) loads_faultless)

  -- an answer says that the first half passed
  pub fitting_answered : {A : Type 0} {a : A} (next : Outcome A) → fitting site plan next ≡ answer a
      → (IsPlan site.jobs site.bounds plan × Gives (top_of site.processor) site.jobs site.bounds (shares_of plan)) × (next ≡ answer a)
  unfolding fitting
  fitting_answered next e =
      let (is-plan, e) = stepping_answered site.jobs site.bounds plan _ e in
      let (sums, e) = by_entry_answered _ _ (length site.jobs) e in
      let (loads, e) = by_entry_answered _ _ (interval_count site.bounds) e in
      ((is-plan, sums_give is-plan sums loads), e)

  -- The first half: it passes exactly for a plan that gives each job its cycles.
  pub fitting_half : {A : Type 0} (next : Outcome A) (a : A)
      → (fitting site plan next ≡ answer a)
      ↔ ((IsPlan site.jobs site.bounds plan × Gives (top_of site.processor) site.jobs site.bounds (shares_of plan)) × (next ≡ answer a))
  fitting_half next a = (fitting_answered next, λ h. fitting_passes h.0.0 h.0.1 next ∙ h.1)

  -- what is done after the first half is done after what comes next
  pub after_fitting : {A B : Type 0} (then : A → Outcome B) (next : Outcome A) → and_then (fitting site plan next) then ≡ fitting site plan (and_then next then)
  unfolding fitting
  after_fitting then next = simp (after_test, after-entries)
