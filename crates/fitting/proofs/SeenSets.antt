-- Laws of the pairs that the steps before a step have, kept as one set of jobs for each interval: the sets have exactly the
-- pairs that an earlier step has, before the first step, after one more and after the last.
-- Assumes nothing.
use mathlib.Core.Path.{◌≡◌, refl}
use mathlib.Core.Bool.{◌&&◌, ◌||◌, and-false, or-true, or-false}
use mathlib.Core.List.{List}
use Prim.Native.Nat.{ℕ, ◌+◌, ◌<◌}
use native.Mathlib.Decide.{ℕ_discrete}
use native.Mathlib.Omega.{arith}
use lib.Dec.{eqb}
use borrow.Author.Tests.{eq-eqb, ne_eqb}
use Rattle.model.specs.Limits.{max_jobs}
use Rattle.model.specs.Search.{some_below}
use Rattle.model.specs.Steps.{step_count, cell_of, cell_at}
use Rattle.model.proofs.Search.{some_below_next}
use Rattle.job_sets.specs.IntervalSets.{Added}
use Rattle.job_records.specs.SetsHave.{SetsHave, NoJobs}
use Rattle.fitting.specs.SeenCells.{is_seen, CellsSeen}
use Rattle.job_records.proofs.SetsHave.{have_cong, have_added}

module _ (plan : List ℕ) where
  pub seen_none : {seen : List ℕ} → NoJobs seen → SetsHave seen (is_seen plan 0)
  unfolding some_below
  seen_none none = have_cong none (λ i j inside below. refl)

  -- one step more has its own cell and no other
  pub seen_more : (s interval job : ℕ) {seen next : List ℕ} → SetsHave seen (is_seen plan s) → Added seen next interval job → job < max_jobs
      → cell_at plan s ≡ cell_of interval job → SetsHave next (is_seen plan (s + 1))
  seen_more s interval job filled added small here =
      have_added filled added small (λ i j inside below. rw (some_below_next, here) (at i j below (ℕ_discrete i interval) (ℕ_discrete j job)))
    where
      at : (i j : ℕ) → j < max_jobs → Dec (i ≡ interval) → Dec (j ≡ job)
          → ((eqb i interval && eqb j job) || is_seen plan s i j) ≡ (is_seen plan s i j || eqb (cell_of interval job) (cell_of i j))
      at i j below (yes same) (yes equal) =
          rw (eq-eqb i interval same, eq-eqb j job equal, eq-eqb (cell_of interval job) (cell_of i j) (omega arith), or-true)
      at i j below (yes same) (no other) =
          rw (ne_eqb j job other, and-false, ne_eqb (cell_of interval job) (cell_of i j) (λ e. other (omega arith)), or-false)
      at i j below (no other) either =
          rw (ne_eqb i interval other, ne_eqb (cell_of interval job) (cell_of i j) (λ e. other (omega arith)), or-false)

  -- after the last step the sets have the cells of all steps
  pub seen_whole : (s : ℕ) {seen : List ℕ} → SetsHave seen (is_seen plan s) → s ≡ step_count plan → CellsSeen plan seen
  seen_whole s filled last = rw (← last) filled
