-- Refusals 17 and 18 at a step, one law for each way out of the code, over open sets and cycles that stand in arrays; that
-- with the pairs of the earlier steps marked they are those of the plan's cells; and that over the open sets and the cycles of the jobs
-- the refusals 15 to 18 are the definition's.
-- Assumes nothing.
use mathlib.Core.Path.{◌≡◌, sym, ◌∙◌, ap}
use mathlib.Core.Bool.{Bool, true, false, not, ◌&&◌, ◌||◌}
use mathlib.Core.Logic.{◌⊎◌, inl, inr}
use mathlib.Core.List.{List}
use Prim.Native.Nat.{ℕ, ◌+◌, ◌-◌, ◌<◌, ◌≤◌}
use native.Mathlib.Omega.{arith}
use lib.ListN.{length, get_or}
use lib.Dec.{ltb, leb, eqb}
use borrow.Author.Tests.{lt-ltb, le-ltb, lt-leb, le-leb, ltb-true, not-false}
use Rattle.std.specs.Prelude.{Option, Some, None}
use Rattle.model.specs.declared.refusal.Fault.{Fault}
use Rattle.model.specs.declared.Job.{Job}
use Rattle.model.specs.Limits.{max_intervals, max_jobs, max_bounds}
use Rattle.model.specs.Outcome.{Outcome, refuse_when}
use Rattle.model.specs.Jobs.{job_of}
use Rattle.model.specs.Refusals.{fault_of}
use Rattle.model.specs.Intervals.{interval_count, is_open}
use Rattle.model.specs.Steps.{Step, plan_intervals, step_count, step_at, wrong_plan_length}
use Rattle.model.specs.Checking.{is_open_pair, step_fault, stepping}
use Rattle.model.proofs.Numbers.{lt_or_le, true_or_false, both_true}
use Rattle.model.proofs.Steps.{step_cell}
use Rattle.model.proofs.Refusals.{fault_none}
use Rattle.model.proofs.Tests.{neither, no_fault}
use Rattle.walking.specs.declared.steps.Step.{Step as CodeStep}
use Rattle.walking.specs.Walking.{code_step, model_step}
use Rattle.job_sets.specs.JobSets.{is_member}
use Rattle.job_sets.specs.IntervalSets.{set_words, set_in, Added}
use Rattle.job_records.specs.SetsHave.{SetsHave}
use Rattle.fitting.specs.SeenCells.{is_seen}
use Rattle.job_records.specs.TestedJobs.{HoldsCycles}
use Rattle.fitting.specs.FirstHalf.{open_pair_in, fault_where, fault_of_step, step_fault_in, stepping_in}
use Rattle.fitting.proofs.Verdicts.{by_entry_cong}
use Rattle.fitting.proofs.SeenSets.{seen_more}

module _ (sets cycles : List ℕ) (count bounds : ℕ) (seen : List ℕ) (step : Step) where
  abbrev fault : ℕ
  fault = fault_of_step sets cycles count bounds seen step

  abbrev open_here : Bool
  open_here = is_member (set_in sets step.interval) step.job

  -- no such interval, no such job
  pub no_interval : bounds ≤ step.interval + 1 → 17 ≡ fault
  unfolding fault_of_step
  no_interval outside = rw (le-ltb step.interval (bounds - 1) (omega arith))

  pub no-job : step.interval + 1 < bounds → count ≤ step.job → 17 ≡ fault
  unfolding fault_of_step
  no-job interval outside = rw (lt-ltb step.interval (bounds - 1) (omega arith), le-ltb step.job count outside)

  module _ (interval : step.interval + 1 < bounds) (job : step.job < count) where
    -- the pair's number is that of an interval and a job: the other tests decide
    is_pair : open_pair_in sets count bounds step ≡ open_here
    is_pair = rw (lt-ltb step.interval (bounds - 1) (omega arith), lt-ltb step.job count job)

    pub shut_pair : open_here ≡ false → 17 ≡ fault
    unfolding fault_of_step
    shut_pair shut = rw (is_pair, shut)

    module _ (is_open_true : open_here ≡ true) where
      pub marked_pair : is_member (set_in seen step.interval) step.job ≡ true → 17 ≡ fault
      unfolding fault_of_step
      marked_pair marked = rw (is_pair, is_open_true, marked)

      module _ (new : is_member (set_in seen step.interval) step.job ≡ false) where
        pub no_cycles : step.cycles < 1 → 18 ≡ fault
        unfolding fault_of_step
        no_cycles few = rw (is_pair, is_open_true, new, lt-leb 1 step.cycles few)

        pub many_cycles : 1 ≤ step.cycles → get_or cycles step.job 0 < step.cycles → 18 ≡ fault
        unfolding fault_of_step
        many_cycles some many =
            rw (is_pair, is_open_true, new, le-leb 1 step.cycles some, lt-leb step.cycles (get_or cycles step.job 0) many)

        pub sound_step : 1 ≤ step.cycles → step.cycles ≤ get_or cycles step.job 0 → 0 ≡ fault
        unfolding fault_of_step
        sound_step some few =
            rw (is_pair, is_open_true, new, le-leb 1 step.cycles some, le-leb step.cycles (get_or cycles step.job 0) few)

module _ (sets cycles : List ℕ) (count bounds : ℕ) where
  -- an open pair is that of an interval and a job
  pair_numbers : (step : Step) → open_pair_in sets count bounds step ≡ true → (step.interval < bounds - 1) × (step.job < count)
  pair_numbers step pair =
      let interval : Bool = ltb step.interval (bounds - 1) in
      let job : Bool = ltb step.job count in
      let numbers = both_true interval job (both_true (interval && job) _ pair).0 in
      (ltb-true _ _ numbers.0, ltb-true _ _ numbers.1)

  -- a step without fault has an interval and a job, and its cell is new
  sound_pair : (earlier : Bool) (step : Step) → fault_where sets cycles count bounds earlier step ≡ 0
      → (step.interval < bounds - 1) × (step.job < count) × (earlier ≡ false)
  sound_pair earlier step none =
      let pair : Bool = open_pair_in sets count bounds step in
      let few : Bool = leb 1 step.cycles && leb step.cycles (get_or cycles step.job 0) in
      let cell = neither (not pair) earlier (no_fault (not pair || earlier) (not few) 16 17 none).0 in
      let numbers = pair_numbers step (not-false pair cell.0) in
      (numbers.0, numbers.1, cell.1)

  -- where the pairs of the steps before s are marked, the faults of step s are those of the plan's cells
  marked_fault : (plan : List ℕ) (s : ℕ) (seen : List ℕ) → SetsHave seen (is_seen plan s) → bounds ≤ max_bounds → count ≤ max_jobs
      → fault_of_step sets cycles count bounds seen (step_at plan s) ≡ step_fault_in sets cycles count bounds plan s
  unfolding fault_of_step step_fault_in
  marked_fault plan s seen filled few_bounds few_jobs = go (true_or_false (open_pair_in sets count bounds (step_at plan s)))
    where
      go : (open_pair_in sets count bounds (step_at plan s) ≡ true) ⊎ (open_pair_in sets count bounds (step_at plan s) ≡ false)
          → fault_of_step sets cycles count bounds seen (step_at plan s) ≡ step_fault_in sets cycles count bounds plan s
      go (inr no-pair) = rw no-pair
      go (inl pair) =
          let numbers = pair_numbers (step_at plan s) pair in
          let below-interval : (step_at plan s).interval < max_intervals = omega (arith, numbers.0) in
          let below-job : (step_at plan s).job < max_jobs = omega (arith, numbers.1) in
          rw (filled.has (step_at plan s).interval (step_at plan s).job below-interval below-job, ← step_cell plan s)

-- One turn of going through the steps, as the code has it.
module _
    (sets cycles : List ℕ) (count bounds : ℕ) (plan : List ℕ) (s : ℕ) (seen : List ℕ) (step : CodeStep) (told : Option Fault)
    (few_jobs : count ≤ max_jobs) (few_bounds : bounds ≤ max_bounds) (filled : SetsHave seen (is_seen plan s)) (decoded : step ≡ code_step (step_at plan s))
    (found : told ≡ fault_of (fault_of_step sets cycles count bounds seen (model_step step))) where
  here : fault_of_step sets cycles count bounds seen (model_step step) ≡ step_fault_in sets cycles count bounds plan s
  here = rw decoded (marked_fault sets cycles count bounds plan s seen filled few_bounds few_jobs)

  -- what is told is the step's fault
  pub turn_fault : (own : Fault) → told ≡ Some own → fault_of (step_fault_in sets cycles count bounds plan s) ≡ Some own
  turn_fault own e = ap fault_of (sym here) ∙ sym found ∙ e

  -- a step without fault has a pair, which is marked, and is then among those seen
  module _ (none : told ≡ None) where
    no_number : fault_of_step sets cycles count bounds seen (model_step step) ≡ 0
    no_number = fault_none _ (sym found ∙ none)

    pub turn_sound : step_fault_in sets cycles count bounds plan s ≡ 0
    turn_sound = sym here ∙ no_number

    pub turn_pair : (step.interval < max_intervals) × (step.job < max_jobs) × (length seen ≡ set_words)
    unfolding fault_of_step
    turn_pair =
        let sound = sound_pair sets cycles count bounds (is_member (set_in seen step.interval) step.job) (model_step step) no_number in
        (omega (arith, sound.0), omega (arith, sound.1), filled.size)

    pub turn_marked : (next : List ℕ) → Added seen next step.interval step.job → SetsHave next (is_seen plan (s + 1))
    turn_marked next added = seen_more plan s step.interval step.job filled added turn_pair.1 (step_cell plan s ∙ rw decoded)

-- Over the open sets and the cycles of the jobs the faults are the definition's.
module _ (jobs : List Job) (bs sets cycles : List ℕ)
    (opened : (i j : ℕ) → i < interval_count bs → j < length jobs → is_member (set_in sets i) j ≡ is_open bs (job_of jobs j) i)
    (held : HoldsCycles jobs cycles) where
  same_pair : (step : Step) → is_open_pair jobs bs step ≡ open_pair_in sets (length jobs) (length bs) step
  same_pair step = go (lt_or_le step.interval (length bs - 1)) (lt_or_le step.job (length jobs))
    where
      go : (step.interval < length bs - 1) ⊎ (length bs - 1 ≤ step.interval) → (step.job < length jobs) ⊎ (length jobs ≤ step.job)
          → is_open_pair jobs bs step ≡ open_pair_in sets (length jobs) (length bs) step
      go (inr outside) either = rw (le-ltb step.interval (length bs - 1) outside)
      go (inl interval) (inr outside) = rw (lt-ltb step.interval (length bs - 1) interval, le-ltb step.job (length jobs) outside)
      go (inl interval) (inl job) =
          rw (
            lt-ltb step.interval (length bs - 1) interval,
            lt-ltb step.job (length jobs) job,
            opened step.interval step.job interval job,
          )

  same_fault : (plan : List ℕ) (s : ℕ) → step_fault jobs bs plan s ≡ step_fault_in sets cycles (length jobs) (length bs) plan s
  unfolding step_fault step_fault_in
  same_fault plan s = go (true_or_false (open_pair_in sets (length jobs) (length bs) (step_at plan s)))
    where
      go : (open_pair_in sets (length jobs) (length bs) (step_at plan s) ≡ true) ⊎ (open_pair_in sets (length jobs) (length bs) (step_at plan s) ≡ false)
          → step_fault jobs bs plan s ≡ step_fault_in sets cycles (length jobs) (length bs) plan s
      go (inr no-pair) = rw (same_pair (step_at plan s), no-pair)
      go (inl pair) = rw (same_pair (step_at plan s), held.at (step_at plan s).job (pair_numbers sets cycles (length jobs) (length bs) (step_at plan s) pair).1)

  -- and so are the refusals, whatever is next
  pub stepping_same : {A : Type 0} (plan : List ℕ) (next : Outcome A)
      → stepping jobs bs plan next ≡ stepping_in sets cycles (length jobs) (length bs) plan next
  unfolding stepping_in
  stepping_same plan next =
      ap (λ (rest : Outcome _). refuse_when (wrong_plan_length plan) 15 (refuse_when (not (eqb (plan_intervals plan) (interval_count bs))) 16 rest))
      (by_entry_cong (step_count plan) _ _ next (λ s below. same_fault plan s))
