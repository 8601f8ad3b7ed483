-- Laws of a plan's steps and the shares that they make: a cell has one interval and one job, a share that is not 0 has
-- a step, a share is the cycles of the one step with that cell where cells differ, and shares added over intervals or
-- over jobs are the cycles of the steps added.
-- Assumes nothing.
use mathlib.Core.Path.{◌≡◌, refl, sym, ◌∙◌}
use mathlib.Core.Bool.{Bool, true, false, ◌&&◌}
use mathlib.Core.Logic.{◌⊎◌, inl, inr, ◌↔◌}
use mathlib.Core.List.{List}
use Prim.Native.Nat.{ℕ, ◌/◌, ◌%◌, ◌<◌, ◌≤◌}
use native.Mathlib.Nat.{eq-zero-or-pos}
use native.Mathlib.Omega.{arith}
use lib.ListN.{length}
use lib.Dec.{eqb}
use borrow.Author.Tests.{eqb-true, eq-eqb}
use Rattle.model.specs.declared.Job.{Job}
use Rattle.model.specs.Limits.{max_jobs}
use Rattle.model.specs.Sum.{sum, only_if}
use Rattle.model.specs.Plans.{load}
use Rattle.model.specs.Steps.{cell_of, step_count, cell_at, step_at, job_sum, shares_of}
use Rattle.model.proofs.Numbers.{lt_or_le, true_or_false, both_true}
use Rattle.model.proofs.Sum.{sum_cong, sum_swap, sum_pos, sum_only, sum_hit, sum_term}
use Rattle.model.proofs.SumMore.{only_if_pos}

-- the interval and the job of a cell
pub cell_interval : (interval job : ℕ) → job < max_jobs → cell_of interval job / max_jobs ≡ interval
cell_interval interval job below = omega arith

pub cell_job : (interval job : ℕ) → job < max_jobs → cell_of interval job % max_jobs ≡ job
cell_job interval job below = omega arith

-- a term under two tests, in either order
only_if_both : (a b : Bool) (n : ℕ) → only_if (a && b) n ≡ only_if a (only_if b n)
only_if_both true b n = refl
only_if_both false b n = refl

pub only_if_swap : (a b : Bool) (n : ℕ) → only_if (a && b) n ≡ only_if b (only_if a n)
only_if_swap true true n = refl
only_if_swap true false n = refl
only_if_swap false true n = refl
only_if_swap false false n = refl

module _ (plan : List ℕ) where
  -- a step's cell is that of its interval and its job
  pub step_cell : (s : ℕ) → cell_at plan s ≡ cell_of (step_at plan s).interval (step_at plan s).job
  unfolding step_at
  step_cell s = omega arith

  -- cells are equal exactly where the intervals and the jobs are
  pub same_cell : (r s : ℕ)
      → (cell_at plan r ≡ cell_at plan s)
      ↔ (((step_at plan r).interval ≡ (step_at plan s).interval) × ((step_at plan r).job ≡ (step_at plan s).job))
  unfolding step_at
  same_cell r s = (λ e. rw e (refl, refl), λ e. omega arith)

  -- a share that is not 0 has a step
  pub share_found : (i j : ℕ) → 0 < shares_of plan i j
      → (s : ℕ) × (s < step_count plan) × ((step_at plan s).interval ≡ i) × ((step_at plan s).job ≡ j)
  unfolding shares_of
  share_found i j more =
      let (s, below, term) = sum_pos (step_count plan) _ more in
      let tests = both_true _ _ (only_if_pos _ _ term).0 in
      (s, below, eqb-true _ _ tests.0, eqb-true _ _ tests.1)

  -- without a step there is no share
  pub share_none : (i j : ℕ)
      → ((s : ℕ) → s < step_count plan → (step_at plan s).interval ≡ i → (step_at plan s).job ≡ j → ⊥)
      → shares_of plan i j ≡ 0
  share_none i j without = go (eq-zero-or-pos (shares_of plan i j))
    where
      go : (shares_of plan i j ≡ 0) ⊎ (0 < shares_of plan i j) → shares_of plan i j ≡ 0
      go (inl zero-share) = zero-share
      go (inr more) = let (s, below, interval, job) = share_found i j more in absurd (without s below interval job)

  -- a step's share is its cycles where no other step has its cell
  pub share_of_step : ((r s : ℕ) → r < s → s < step_count plan → cell_at plan r ≡ cell_at plan s → ⊥)
      → (s : ℕ) → s < step_count plan → shares_of plan (step_at plan s).interval (step_at plan s).job ≡ (step_at plan s).cycles
  unfolding shares_of
  share_of_step differ s below =
      sum_only (step_count plan) _ s below (λ r inside other. elsewhere r inside other (true_or_false _))
      ∙ rw (eq-eqb (step_at plan s).interval _ refl, eq-eqb (step_at plan s).job _ refl)
    where
      same : ℕ → Bool
      same r = eqb (step_at plan r).interval (step_at plan s).interval && eqb (step_at plan r).job (step_at plan s).job

      never : (r : ℕ) → r < step_count plan → (r ≡ s → ⊥) → cell_at plan r ≡ cell_at plan s → (r < s) ⊎ (s ≤ r) → ⊥
      never r inside other e (inl before) = differ r s before below e
      never r inside other e (inr after) = differ s r (omega arith) inside (sym e)

      elsewhere : (r : ℕ) → r < step_count plan → (r ≡ s → ⊥) → (same r ≡ true) ⊎ (same r ≡ false) → only_if (same r) (step_at plan r).cycles ≡ 0
      elsewhere r inside other (inl here) =
          let tests = both_true _ _ here in
          absurd (never r inside other ((same_cell r s).1 (eqb-true _ _ tests.0, eqb-true _ _ tests.1)) (lt_or_le r s))
      elsewhere r inside other (inr away) = rw away

  -- a job's shares over all intervals are the cycles of its steps
  pub shares-of-job : (count : ℕ) → ((s : ℕ) → s < step_count plan → (step_at plan s).interval < count)
      → (j : ℕ) → sum count (λ i. shares_of plan i j) ≡ job_sum plan j
  unfolding shares_of job_sum
  shares-of-job count inside j =
      sum_swap count (step_count plan)
      (λ i s. only_if (eqb (step_at plan s).interval i && eqb (step_at plan s).job j) (step_at plan s).cycles)
      ∙ sum_cong (step_count plan) (λ s below. simp only_if_both (sum_hit count (step_at plan s).interval _ (inside s below)))

  -- an interval's load is the cycles of its steps
  pub load_of_steps : (jobs : List Job) → ((s : ℕ) → s < step_count plan → (step_at plan s).job < length jobs)
      → (i : ℕ) → load jobs (shares_of plan) i ≡ sum (step_count plan) (λ s. only_if (eqb (step_at plan s).interval i) (step_at plan s).cycles)
  unfolding shares_of load
  load_of_steps jobs inside i =
      sum_swap (length jobs) (step_count plan)
      (λ j s. only_if (eqb (step_at plan s).interval i && eqb (step_at plan s).job j) (step_at plan s).cycles)
      ∙ sum_cong (step_count plan) (λ s below. simp only_if_swap (sum_hit (length jobs) (step_at plan s).job _ (inside s below)))

  -- a step's cycles are among its job's
  pub step_in_job_sum : (s : ℕ) → s < step_count plan → (step_at plan s).cycles ≤ job_sum plan (step_at plan s).job
  unfolding job_sum
  step_in_job_sum s below =
      rw (eq-eqb (step_at plan s).job _ refl)
      at (sum_term (step_count plan) (λ r. only_if (eqb (step_at plan r).job (step_at plan s).job) (step_at plan r).cycles) s below)
