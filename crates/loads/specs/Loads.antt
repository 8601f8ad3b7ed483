-- What the loads of intervals say of the shares that have them, over plain functions.
use Rattle.std.specs.Prelude.{ℕ, ◌+◌, ◌<◌, ◌≤◌, ◌≡◌}
use Rattle.model.specs.Sum.{sum, only_if}
use Rattle.model.specs.Plans.{Shares}
use Rattle.workloads.specs.Placement.{Problem, Open, OnlyOpen, placed_of}
use Rattle.workloads.specs.RangesFit.{is_within}

module _ (p : Problem) where
  -- The cycles of the jobs whose windows lie in a range of intervals.
  unfoldable pub within : (start end : ℕ) → ℕ
  within start end = sum p.jobs (λ j. only_if (is_within p start end j) (p.cycles j))

  -- Shares of a plan, whatever its loads: shares only where jobs are open, and all cycles of each job.
  pub record Serving (shares : Shares) : Type 0 where
    pub shut : OnlyOpen p shares
    pub whole : (j : ℕ) → j < p.jobs → placed_of p shares j ≡ p.cycles j

  -- Loads that a plan can have: each range holds the jobs inside it, and all loads together are all cycles. Sums from interval 0
  -- on stand on both sides, so that nothing is subtracted.
  pub record Fillable (loads : ℕ → ℕ) : Type 0 where
    pub holds : (start end : ℕ) → start ≤ end → end ≤ p.intervals → within start end + sum start loads ≤ sum end loads
    pub total : sum p.intervals loads ≡ sum p.jobs p.cycles

  -- The least price in each job's window.
  pub record LeastPrices (prices least : ℕ → ℕ) : Type 0 where
    pub low : (i j : ℕ) → i < p.intervals → j < p.jobs → Open p i j → least j ≤ prices i
    pub met : (j : ℕ) → j < p.jobs → (i : ℕ) × (i < p.intervals) × Open p i j × (prices i ≡ least j)

  -- Refusal 24 never comes: each job runs at the least price of its window alone.
  abbrev pub AtLeast : Shares → (prices least : ℕ → ℕ) → Type 0
  AtLeast shares prices least = (i j : ℕ) → i < p.intervals → j < p.jobs → 0 < shares i j → prices i ≡ least j
