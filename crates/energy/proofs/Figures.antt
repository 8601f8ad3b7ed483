-- A law for callers: the figure over loads is the plan's figure where the loads are the plan's.
-- Assumes nothing.
use mathlib.Core.Path.{◌≡◌, ap}
use mathlib.Core.List.{List}
use Prim.Native.Nat.{ℕ, ◌+◌, ◌<◌}
use lib.ListN.{get_or}
use Rattle.model.specs.declared.Job.{Job}
use Rattle.model.specs.Points.{Point}
use Rattle.model.specs.Bands.{band_count, frequency_of, power_at, gap}
use Rattle.model.specs.Intervals.{interval_count}
use Rattle.model.specs.Plans.{Shares, load}
use Rattle.model.specs.Energy.{band_cycles, band_total, energy_figure}
use Rattle.model.proofs.Sum.{sum_cong}
use Rattle.energy.specs.Figures.{band_total_of, idle_of, figure_of_loads}

module _ (ws : List Point) (jobs : List Job) (bounds loads : List ℕ) (shares : Shares)
    (loaded : (i : ℕ) → i < interval_count bounds → get_or loads i 0 ≡ load jobs shares i) where
  total_of_plan : (k : ℕ) → band_total_of bounds loads (frequency_of ws k) (gap ws k) ≡ band_total ws jobs bounds shares k
  unfolding band_total_of band_total band_cycles
  total_of_plan k = sum_cong (interval_count bounds) (λ i below. rw (loaded i below))

  pub figure_of_plan : figure_of_loads ws bounds loads ≡ energy_figure ws jobs bounds shares
  unfolding figure_of_loads idle_of energy_figure
  figure_of_plan = ap (λ (x : ℕ). x + idle_of bounds (power_at ws 0)) (sum_cong (band_count ws) (λ k below. rw (total_of_plan k)))
