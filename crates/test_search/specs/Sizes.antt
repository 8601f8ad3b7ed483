-- How large the numbers of the search are. Assumes nothing.
use Rattle.std.specs.Prelude.{ℕ, ◌*◌, ◌≤◌}
use Rattle.model.specs.Limits.{max_frequency, max_power}

-- the most cycles that are served in an interval of a small site, which has at most 255 ticks
abbrev pub most_served : ℕ
most_served = 255 * max_frequency

-- frequency and power of a point
abbrev pub SmallPoint : ℕ → ℕ → Type 0
SmallPoint f p = (f ≤ max_frequency) × (p ≤ max_power)

-- numerator and denominator of an energy, so small that two energies can be compared multiplied out
abbrev pub SmallEnergy : ℕ → ℕ → Type 0
SmallEnergy n d = (n ≤ 2 * (most_served * max_power)) × (d ≤ max_frequency)
