-- Energy of a plan (document 01, "Energy"; document 02, Change 2). Idling draws power_at ws 0: what the idle entry says, or 0.
use Rattle.std.specs.Prelude.{ℕ, ◌+◌, ◌-◌, ◌*◌, ◌/◌, min, List}
use Rattle.model.specs.declared.Job.{Job}
use Rattle.model.specs.Sum.{sum}
use Rattle.model.specs.Points.{Point}
use Rattle.model.specs.Bands.{band_count, frequency_of, power_at, gap, rise, scale, price}
use Rattle.model.specs.Intervals.{interval_count, length_of}
use Rattle.model.specs.Plans.{Shares, load}

-- In an interval, band k takes the cycles of the load above length × f_(k−1), up to length × gap.
unfoldable pub band_cycles : List Point → (length load : ℕ) → (band : ℕ) → ℕ
band_cycles ws length load k = min (length * gap ws k) (load - length * frequency_of ws k)

-- The exact energy of one interval, multiplied out by all gaps: the sum over bands of cycles × price, and what idling
-- draws over the whole length.
unfoldable pub interval_energy : List Point → (length load : ℕ) → ℕ
interval_energy ws length load =
    sum (band_count ws) (λ k. band_cycles ws length load k * price ws k) + length * (power_at ws 0 * scale ws)

module _ (ws : List Point) (jobs : List Job) (bounds : List ℕ) (shares : Shares) where
  -- the exact energy, multiplied out by all gaps
  unfoldable pub exact_energy : ℕ
  exact_energy = sum (interval_count bounds) (λ i. interval_energy ws (length_of bounds i) (load jobs shares i))

  -- a band's total over all intervals
  unfoldable pub band_total : (band : ℕ) → ℕ
  band_total k = sum (interval_count bounds) (λ i. band_cycles ws (length_of bounds i) (load jobs shares i) k)

  -- The reported figure rounds each band's total, taken over all intervals, down and adds them, with what idling draws.
  unfoldable pub energy_figure : ℕ
  energy_figure =
      sum (band_count ws) (λ k. band_total k * rise ws k / gap ws k)
      + sum (interval_count bounds) (λ i. length_of bounds i * power_at ws 0)
