-- The first half over what was found of the jobs, one law for each way out of the code: what the verdict on the steps says, the
-- refusal 19, and that the loads added by step are the plan's.
-- Assumes nothing.
use mathlib.Core.Path.{◌≡◌, sym, ◌∙◌, ap}
use mathlib.Core.Bool.{false, not, cond}
use mathlib.Core.List.{List}
use Prim.Native.Nat.{ℕ, ◌-◌, ◌<◌, ◌≤◌}
use native.Mathlib.Omega.{arith}
use lib.ListN.{length, get_or}
use borrow.Author.Tests.{not-true, not-false}
use Rattle.std.specs.Prelude.{Result, Ok, Err}
use Rattle.model.specs.declared.refusal.Fault.TheVariants.{JobSum}
use Rattle.model.specs.declared.refusal.Refusal.{Refusal}
use Rattle.model.specs.declared.Job.{Job}
use Rattle.model.specs.Limits.{max_intervals, max_jobs, max_bounds}
use Rattle.model.specs.Outcome.{Outcome, by_entry}
use Rattle.model.specs.Jobs.{job_of}
use Rattle.model.specs.Processors.{Processor, top_of}
use Rattle.model.specs.Intervals.{interval_count, is_open}
use Rattle.model.specs.Sites.{Site}
use Rattle.model.specs.Plans.{load}
use Rattle.model.specs.Steps.{step_count, step_at, wrong_plan_length, job_sum, shares_of}
use Rattle.model.specs.Checking.{stepping, job_sum_fault, load_fault, fitting}
use Rattle.model.specs.Accepted.{IsPlan}
use Rattle.model.proofs.Search.{FirstBelow, first_below_law}
use Rattle.model.proofs.Outcome.{by_entry_passes, by_entry_stops}
use Rattle.model.proofs.Steps.{load_of_steps}
use Rattle.model.proofs.Refusals.{refused_returned}
use Rattle.model.proofs.Faults.{plan-length}
use Rattle.model.proofs.FittingHalf.{stepping_answered}
use Rattle.job_sets.specs.JobSets.{is_member}
use Rattle.job_sets.specs.IntervalSets.{set_in}
use Rattle.fitting.specs.Verdicts.{verdict_of, passed}
use Rattle.job_records.specs.TestedJobs.{adds_up, TestedBelow, HoldsCycles}
use Rattle.fitting.specs.Sums.{job_sums, plan_sums, interval_loads, plan_loads}
use Rattle.fitting.specs.FirstHalf.{bounds_in, site_in, stepping_in, load_fault_in}
use Rattle.fitting.proofs.Verdicts.{by_entry_cong, both_alone, both_stepping, both_refused, both_passed}
use Rattle.fitting.proofs.Tallies.{tally_at}
use Rattle.fitting.proofs.BoundsIn.{length_bounds_in, intervals_in, open_in}
use Rattle.fitting.proofs.StepFaults.{stepping_same}
use Rattle.job_records.proofs.TestedJobs.{open_has}

-- the sums of a plan of the right length, and its loads, which are those of its intervals where each step has one of the jobs
module _ (plan : List ℕ) (right : wrong_plan_length plan ≡ false) where
  are_sums : plan_sums plan ≡ job_sums plan
  unfolding plan_sums
  are_sums = rw right

  pub are_loads : plan_loads plan ≡ interval_loads plan
  unfolding plan_loads
  are_loads = rw right

  pub load_at : (jobs : List Job) → ((s : ℕ) → s < step_count plan → (step_at plan s).job < length jobs) → (i : ℕ) → i < max_intervals
      → get_or (plan_loads plan) i 0 ≡ load jobs (shares_of plan) i
  load_at jobs job i inside =
      rw are_loads
      (tally_at max_intervals (λ s. (step_at plan s).interval) (λ s. (step_at plan s).cycles) (step_count plan) i inside
      ∙ sym (load_of_steps plan jobs job i))

module _
    (top : ℕ) (processor : Processor) (is-top : top_of processor ≡ top) (sets cycles : List ℕ) (summed count bounds : ℕ) (times plan : List ℕ) (few : count ≤ max_jobs) (few_bounds : bounds ≤ max_bounds)
    (jobs : List Job) (counted : length jobs ≡ count) (tested : TestedBelow jobs count times bounds (plan_sums plan) sets summed)
    (held : HoldsCycles jobs cycles) where
  abbrev bs : List ℕ
  bs = bounds_in bounds times

  abbrev site : Site
  site = site_in processor jobs times bounds

  abbrev outcome : Outcome (Unit {0})
  outcome = fitting site plan passed

  -- what is left to go through after the steps, and after the jobs
  abbrev after_sums : Outcome (Unit {0})
  after_sums = by_entry (interval_count bs) (load_fault site plan) passed

  abbrev after_steps : Outcome (Unit {0})
  after_steps = by_entry (length jobs) (job_sum_fault site plan) after_sums

  -- the open sets are those of the bounds
  opened : (i j : ℕ) → i < interval_count bs → j < length jobs → is_member (set_in sets i) j ≡ is_open bs (job_of jobs j) i
  opened i j interval job =
      let inside : i < bounds - 1 = omega (arith, intervals_in bounds times) in
      open_has jobs times bounds count tested.opened i j inside (omega arith) (omega arith) (omega arith)
      ∙ sym (open_in bounds times (job_of jobs j) i (omega arith))

  module _ (steps : Result (Unit {0}) Refusal) (went : steps ≡ verdict_of (stepping_in sets cycles count bounds plan passed)) where
    judged : steps ≡ verdict_of (stepping jobs bs plan passed)
    judged =
        let in_arrays : stepping_in sets cycles (length jobs) (length bs) plan passed ≡ stepping_in sets cycles count bounds plan passed =
        rw (counted, length_bounds_in bounds times) in
        went ∙ ap verdict_of (sym (stepping_same jobs bs sets cycles opened held plan passed ∙ in_arrays))

    pub steps_refused : (own : Refusal) → steps ≡ Err own → Err own ≡ verdict_of outcome
    unfolding fitting
    steps_refused own e =
        refused_returned _ (both_refused (stepping jobs bs plan passed) _ (both_stepping jobs bs plan (both_alone tt)) own (sym judged ∙ e))

    module _ (sound : steps ≡ Ok tt) where
      past_steps : outcome ≡ after_steps
      unfolding fitting
      past_steps = both_passed (stepping jobs bs plan passed) _ (both_stepping jobs bs plan (both_alone tt)) (sym judged ∙ sound)

      is-plan : IsPlan jobs bs plan
      is-plan =
          (stepping_answered jobs bs plan passed
          (both_passed (stepping jobs bs plan passed) _ (both_stepping jobs bs plan (both_alone tt)) (sym judged ∙ sound))).0

      right : wrong_plan_length plan ≡ false
      right = (plan-length plan).1 is-plan.size

      -- the jobs before the first whose steps do not add to its cycles
      first : FirstBelow (length jobs) (λ j. not (adds_up jobs (plan_sums plan) j)) summed
      first = rw (counted, tested.added) (first_below_law count _)

      fault : (j : ℕ) → j < length jobs → job_sum_fault site plan j ≡ cond (adds_up jobs (plan_sums plan) j) 0 19
      unfolding job_sum_fault job_sum
      fault j below =
          rw (
            are_sums plan right,
            tally_at max_jobs (λ s. (step_at plan s).job) (λ s. (step_at plan s).cycles) (step_count plan) j (omega arith),
          )

      adds : (j : ℕ) → j < length jobs → j < summed → job_sum_fault site plan j ≡ 0
      adds j below earlier = fault j below ∙ rw (not-false (adds_up jobs (plan_sums plan) j) (first.before j earlier))

      pub sums_refused : summed < count → Err (record { fault = JobSum; place = summed }) ≡ verdict_of outcome
      sums_refused short =
          let below : summed < length jobs = omega arith in
          let bad : job_sum_fault site plan summed ≡ 19 = fault summed below ∙ rw (not-true (adds_up jobs (plan_sums plan) summed) (first.here below)) in
          rw (
            past_steps,
            by_entry_stops (job_sum_fault site plan) after_sums (length jobs) summed (λ j earlier. adds j (omega arith) earlier) below (omega arith),
            bad,
          )

      module _ (whole : count ≤ summed) where
        past_sums : outcome ≡ after_sums
        past_sums = past_steps ∙ by_entry_passes (job_sum_fault site plan) after_sums (length jobs) (λ j below. adds j below (omega arith))

        same_load : (i : ℕ) → i < bounds - 1 → load_fault site plan i ≡ load_fault_in top bs (plan_loads plan) i
        unfolding load_fault
        same_load i below = rw (is-top, load_at plan right jobs is-plan.step_job i (omega arith))

        pub loads_decide : (loads : List ℕ) → loads ≡ plan_loads plan → (last : Result (Unit {0}) Refusal) → last ≡ verdict_of (by_entry (bounds - 1) (load_fault_in top bs loads) passed)
            → last ≡ verdict_of outcome
        loads_decide loads added last found =
            let same : after_sums ≡ by_entry (bounds - 1) (load_fault_in top bs (plan_loads plan)) passed =
            rw (intervals_in bounds times) (by_entry_cong (bounds - 1) _ _ passed same_load) in
            found ∙ rw added (ap verdict_of (sym (past_sums ∙ same)))
