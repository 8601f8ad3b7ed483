-- Laws of the plan that is written for a table of shares: its steps are those of the shares, in cell order, and its
-- shares are the table's. Where only open pairs have a share, it is a plan for the jobs, of at most K steps.
-- Assumes nothing.
use mathlib.Core.Path.{◌≡◌, refl, sym, ◌∙◌, ap}
use mathlib.Core.Bool.{true, false, ◌&&◌}
use mathlib.Core.List.{List}
use Prim.Native.Nat.{ℕ, zero, suc, ◌+◌, ◌*◌, ◌^◌, ◌<◌, ◌≤◌}
use native.Mathlib.Nat.{mul-le-mul_left}
use native.Mathlib.Omega.{arith}
use lib.Dec.{ltb, eqb}
use lib.ListN.{length, get_or}
use borrow.Author.Tests.{ltb-true, eq-eqb, ne_eqb}
use Rattle.model.specs.declared.Job.{Job}
use Rattle.model.specs.Limits.{max_jobs, max_intervals}
use Rattle.model.specs.Sum.{sum, only_if}
use Rattle.model.specs.Jobs.{job_of}
use Rattle.model.specs.Intervals.{interval_count, is_open, open_count, open_pairs}
use Rattle.model.specs.Plans.{Shares}
use Rattle.model.specs.Steps.{Step, plan_intervals, step_count, cell_at, step_at, shares_of}
use Rattle.model.specs.Accepted.{IsPlan}
use Rattle.model.proofs.Tests.{never_false}
use Rattle.model.proofs.Sum.{sum_cong, sum_mono, sum_zero, sum_const, sum_only}
use Rattle.model.proofs.SumMore.{only_if_le, only_if_mono, only_if_zero}
use Rattle.model.proofs.Steps.{step_cell}
use Rattle.writing.specs.StepList.{step_of, steps_of}
use Rattle.writing.specs.PlanBytes.{encode_plan}
use Rattle.model.proofs.Joined.{sum_over}
use Rattle.writing.proofs.CellOrder.{no_step, ShareStep, cells_rise, share_steps, sum_steps, step_total}
use Rattle.writing.proofs.EncodedPlan.{StepFits, length_plan, intervals_read, count_read, step_read}

-- the plan of a table of shares
abbrev pub plan_of : (jobs intervals : ℕ) → Shares → List ℕ
plan_of jobs intervals shares = encode_plan intervals (steps_of jobs intervals shares)

-- the cycles of a step that count for a share
abbrev cycles_at : (interval job : ℕ) → Step → ℕ
cycles_at i j step = only_if (eqb step.interval i && eqb step.job j) step.cycles

-- a share counts for itself alone
share_alone : (i j interval job share : ℕ)
    → sum_over no_step (cycles_at i j) (step_of interval job share) ≡ only_if (eqb interval i && eqb job j) share
unfolding sum step_of
share_alone i j interval job zero = sym (only_if_zero (eqb interval i && eqb job j))
share_alone i j interval job (suc n) = omega arith

-- of a table of numbers only one counts
sum_cell : (intervals jobs i j : ℕ) (number : Shares) → i < intervals → j < jobs
    → sum intervals (λ k. sum jobs (λ l. only_if (eqb k i && eqb l j) (number k l))) ≡ number i j
sum_cell intervals jobs i j number below inside =
    sum_only intervals _ i below (λ k h other. sum_zero jobs (λ l g. rw (ne_eqb k i other)))
    ∙ (sum_only jobs _ j inside (λ l g other. rw (ne_eqb l j other, eq-eqb i i refl)) ∙ rw (eq-eqb i i refl, eq-eqb j j refl))

module _ (jobs intervals : ℕ) (shares : Shares) where
  steps_most : length (steps_of jobs intervals shares) ≤ intervals * jobs
  steps_most =
      let row : (i : ℕ) → sum jobs (λ j. only_if (ltb 0 (shares i j)) 1) ≤ jobs =
      λ i. omega (arith, sum_mono jobs {g = λ j. 1} (λ j inside. only_if_le (ltb 0 (shares i j)) 1), sum_const jobs 1) in
      omega (arith, step_total jobs intervals shares, sum_mono intervals {g = λ i. jobs} (λ i below. row i), sum_const intervals jobs)

  module _ (few_jobs : jobs ≤ max_jobs) (few_intervals : intervals ≤ max_intervals)
      (fit : (i j : ℕ) → i < intervals → j < jobs → shares i j < 2 ^ 32) where
    pub few : length (steps_of jobs intervals shares) < 256 ^ 2
    few = omega (arith, steps_most, mul-le-mul_left intervals few_jobs)

    fits : (s : ℕ) → s < length (steps_of jobs intervals shares) → StepFits (get_or (steps_of jobs intervals shares) s no_step)
    fits s below =
        let step = share_steps jobs intervals shares s below in
        record {
          cell_fits = omega (arith, step.interval_below, step.job_below);
          job_fits = omega (arith, step.job_below);
          cycles_fit = omega (arith, step.cycles_are, fit _ _ step.interval_below step.job_below);
        }

    pub written_intervals : plan_intervals (plan_of jobs intervals shares) ≡ intervals
    written_intervals = intervals_read intervals (steps_of jobs intervals shares) (omega arith)

    pub written_count : step_count (plan_of jobs intervals shares) ≡ length (steps_of jobs intervals shares)
    written_count = count_read intervals (steps_of jobs intervals shares) few

    pub written_length : length (plan_of jobs intervals shares) ≡ 4 + 6 * step_count (plan_of jobs intervals shares)
    written_length = rw written_count (length_plan intervals (steps_of jobs intervals shares))

    pub written_step : (s : ℕ) → s < length (steps_of jobs intervals shares)
        → step_at (plan_of jobs intervals shares) s ≡ get_or (steps_of jobs intervals shares) s no_step
    written_step s below = step_read intervals (steps_of jobs intervals shares) few s below (fits s below)

    -- each step is that of a share that is not 0
    pub written_steps : (s : ℕ) → s < step_count (plan_of jobs intervals shares)
        → ShareStep jobs intervals shares (step_at (plan_of jobs intervals shares) s)
    written_steps s below =
        let inside : s < length (steps_of jobs intervals shares) = rw written_count at below in
        rw (written_step s inside) (share_steps jobs intervals shares s inside)

    -- the steps stand in cell order
    pub written_cells : (r s : ℕ) → r < s → s < step_count (plan_of jobs intervals shares)
        → cell_at (plan_of jobs intervals shares) r < cell_at (plan_of jobs intervals shares) s
    written_cells r s less below =
        let inside : s < length (steps_of jobs intervals shares) = rw written_count at below in
        rw (
          step_cell (plan_of jobs intervals shares) r,
          step_cell (plan_of jobs intervals shares) s,
          written_step r (omega arith),
          written_step s inside,
        )
        ((cells_rise jobs shares few_jobs intervals).rises r s less inside)

    -- the plan's shares are the table's
    pub written_shares : (i j : ℕ) → i < intervals → j < jobs → shares_of (plan_of jobs intervals shares) i j ≡ shares i j
    unfolding shares_of
    written_shares i j below inside =
        let counted : sum (step_count (plan_of jobs intervals shares)) (λ s. cycles_at i j (step_at (plan_of jobs intervals shares) s))
        ≡ sum_over no_step (cycles_at i j) (steps_of jobs intervals shares) =
        rw written_count (sum_cong (length (steps_of jobs intervals shares)) (λ s h. ap (cycles_at i j) (written_step s h))) in
        counted
        ∙ (sum_steps jobs intervals shares (cycles_at i j)
        ∙ (sum_cong intervals (λ k h. sum_cong jobs (λ l g. share_alone i j k l (shares k l))) ∙ sum_cell intervals jobs i j shares below inside))

-- Only open pairs have a share.
module _ (jobs : List Job) (bounds : List ℕ) (shares : Shares)
    (shut : (i j : ℕ) → i < interval_count bounds → j < length jobs → is_open bounds (job_of jobs j) i ≡ false → shares i j ≡ 0) where
  share_open : (i j : ℕ) → i < interval_count bounds → j < length jobs → 1 ≤ shares i j → is_open bounds (job_of jobs j) i ≡ true
  share_open i j below inside some_share = never_false (is_open bounds (job_of jobs j) i) (λ e. omega (arith, shut i j below inside e))

  -- the steps are at most the open pairs
  pub few_steps : length (steps_of (length jobs) (interval_count bounds) shares) ≤ open_pairs bounds jobs
  unfolding open_count open_pairs
  few_steps =
      rw (step_total (length jobs) (interval_count bounds) shares)
      (sum_mono (interval_count bounds)
      (λ i below. sum_mono (length jobs)
      (λ j inside. only_if_mono (ltb 0 (shares i j)) (is_open bounds (job_of jobs j) i) 1
      (λ e. share_open i j below inside (ltb-true 0 (shares i j) e)))))

  -- what is written is a plan for the jobs
  pub written_plan : length jobs ≤ max_jobs → interval_count bounds ≤ max_intervals
      → ((i j : ℕ) → i < interval_count bounds → j < length jobs → shares i j < 2 ^ 32)
      → IsPlan jobs bounds (plan_of (length jobs) (interval_count bounds) shares)
  written_plan few_jobs few_intervals fit =
      let step = written_steps (length jobs) (interval_count bounds) shares few_jobs few_intervals fit in
      record {
        size = written_length (length jobs) (interval_count bounds) shares few_jobs few_intervals fit;
        intervals = written_intervals (length jobs) (interval_count bounds) shares few_jobs few_intervals fit;
        step_interval = λ s below. (step s below).interval_below;
        step_job = λ s below. (step s below).job_below;
        step_open =
            λ s below. share_open _ _ (step s below).interval_below (step s below).job_below
            (omega (arith, (step s below).some-cycles, (step s below).cycles_are));
        step_some = λ s below. (step s below).some-cycles;
        cells_differ =
            λ r s less below same.
            omega (arith, written_cells (length jobs) (interval_count bounds) shares few_jobs few_intervals fit r s less below);
      }
