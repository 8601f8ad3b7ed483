-- The cells that the check has seen are those of the shares that are not 0.
-- Assumes nothing.
use mathlib.Core.Path.{◌≡◌, sym, ◌∙◌}
use mathlib.Core.Bool.{true, false}
use mathlib.Core.Logic.{◌⊎◌, inl, inr}
use mathlib.Core.List.{List}
use Prim.Native.Nat.{ℕ, ◌<◌, ◌≤◌}
use native.Mathlib.Omega.{arith}
use lib.Dec.{ltb}
use borrow.Author.Tests.{lt-ltb, le-ltb, eqb-true, eq-eqb}
use Rattle.model.specs.Limits.{max_jobs}
use Rattle.model.specs.Steps.{cell_of, step_count, cell_at, step_at, shares_of}
use Rattle.model.proofs.Numbers.{lt_or_le, true_or_false}
use Rattle.model.proofs.Search.{some_below_found, some_below_holds}
use Rattle.model.proofs.Steps.{step_cell, share_found, share_of_step}
use Rattle.job_sets.specs.IntervalSets.{set_in}
use Rattle.job_sets.proofs.JobSets.{member_past}
use Rattle.fitting.specs.SeenCells.{is_seen, CellsSeen}
use Rattle.ordering.specs.OrderedPlan.{Orderable}
use Rattle.ordering.specs.Ranks.{JobsWithShares}
use Rattle.ordering.proofs.Ranks.{job_small}

module _ (plan : List ℕ) (orderable : Orderable plan) where
  -- a cell that was seen has a share
  seen_share : (i j : ℕ) → j < max_jobs → is_seen plan (step_count plan) i j ≡ true → 0 < shares_of plan i j
  seen_share i j small seen =
      let (s, below, found) = some_below_found (step_count plan) _ seen in
      let cell : cell_at plan s ≡ cell_of i j = eqb-true _ _ found in
      let interval : (step_at plan s).interval ≡ i = omega (arith, step_cell plan s, job_small plan s) in
      let job : (step_at plan s).job ≡ j = omega (arith, step_cell plan s, job_small plan s) in
      omega (arith, rw (interval, job) at (share_of_step plan orderable.cells_differ s below), orderable.step_some s below)

  -- and a share has a cell that was seen
  share_seen : (i j : ℕ) → 0 < shares_of plan i j → is_seen plan (step_count plan) i j ≡ true
  share_seen i j more =
      let (s, below, interval, job) = share_found plan i j more in
      let cell : cell_at plan s ≡ cell_of i j = rw (interval, job) at (step_cell plan s) in
      some_below_holds (step_count plan) _ s below (eq-eqb (cell_at plan s) (cell_of i j) cell)

  seen_is : (i j : ℕ) → j < max_jobs → is_seen plan (step_count plan) i j ≡ ltb 0 (shares_of plan i j)
  seen_is i j small = go (lt_or_le 0 (shares_of plan i j)) (true_or_false (is_seen plan (step_count plan) i j))
    where
      go : (0 < shares_of plan i j) ⊎ (shares_of plan i j ≤ 0) → (is_seen plan (step_count plan) i j ≡ true) ⊎ (is_seen plan (step_count plan) i j ≡ false)
          → is_seen plan (step_count plan) i j ≡ ltb 0 (shares_of plan i j)
      go (inl more) either = share_seen i j more ∙ sym (lt-ltb 0 (shares_of plan i j) more)
      go (inr none) (inr unseen) = unseen ∙ sym (le-ltb 0 (shares_of plan i j) none)
      go (inr none) (inl seen) = absurd (omega (arith, seen_share i j small seen))

  pub seen_sets : (sets : List ℕ) → CellsSeen plan sets → JobsWithShares plan sets
  seen_sets sets seen = record {
    held = λ i below. record {
      held = λ j small. seen.has i j (omega (arith, orderable.few_intervals)) small ∙ seen_is i j small;
      held_past = λ j past. member_past (set_in sets i) j past;
    };
  }
