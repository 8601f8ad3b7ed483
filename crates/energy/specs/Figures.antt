-- The energy figure over loads that stand in an array. With the loads of a plan it is the plan's figure.
use Rattle.std.specs.Prelude.{ℕ, ◌+◌, ◌-◌, ◌*◌, ◌/◌, min, List, get_or}
use Rattle.model.specs.Sum.{sum}
use Rattle.model.specs.Points.{Point}
use Rattle.model.specs.Bands.{band_count, frequency_of, power_at, gap, rise}
use Rattle.model.specs.Intervals.{interval_count, length_of}

-- The cycles that a band takes in an interval, by its lower frequency and its gap.
abbrev pub cycles_in : (bounds loads : List ℕ) → (lower gap : ℕ) → (interval : ℕ) → ℕ
cycles_in bounds loads lower gap i = min (length_of bounds i * gap) (get_or loads i 0 - length_of bounds i * lower)

-- The cycles that it takes over all intervals.
unfoldable pub band_total_of : (bounds loads : List ℕ) → (lower gap : ℕ) → ℕ
band_total_of bounds loads lower gap = sum (interval_count bounds) (cycles_in bounds loads lower gap)

-- What idling draws over all intervals.
unfoldable pub idle_of : (bounds : List ℕ) → (idle_power : ℕ) → ℕ
idle_of bounds idle_power = sum (interval_count bounds) (λ i. length_of bounds i * idle_power)

-- The energy of a band over all intervals, rounded down.
abbrev pub band_energy_of : List Point → (bounds loads : List ℕ) → (band : ℕ) → ℕ
band_energy_of ws bounds loads k = band_total_of bounds loads (frequency_of ws k) (gap ws k) * rise ws k / gap ws k

-- The reported figure: each band's energy, and what idling draws.
unfoldable pub figure_of_loads : List Point → (bounds loads : List ℕ) → ℕ
figure_of_loads ws bounds loads = sum (band_count ws) (band_energy_of ws bounds loads) + idle_of bounds (power_at ws 0)
