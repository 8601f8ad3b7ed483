-- Bands, gaps and prices over the working points (document 01, "Working levels").
-- Band k of document 01, counted from 1, is band k − 1 here: the step from working point k − 1 to working point k.
use Rattle.std.specs.Prelude.{ℕ, suc, ◌+◌, ◌-◌, ◌*◌, ◌<◌, ◌≤◌, ◌≡◌, cond, List, length, eqb}
use Rattle.model.specs.Sum.{product}
use Rattle.model.specs.Points.{Point, point_at}

module _ (ws : List Point) where
  -- m, the number of bands and of working levels
  abbrev pub band_count : ℕ
  band_count = length ws - 1

  abbrev pub frequency_of : ℕ → ℕ
  frequency_of k = (point_at ws k).frequency

  abbrev pub power_at : ℕ → ℕ
  power_at k = (point_at ws k).power

  -- a band's gap is the difference in frequency
  unfoldable pub gap : (band : ℕ) → ℕ
  gap k = frequency_of (suc k) - frequency_of k

  -- the difference in power
  unfoldable pub rise : (band : ℕ) → ℕ
  rise k = power_at (suc k) - power_at k

  -- prices and energies are fractions of whole numbers, written multiplied out by all gaps
  unfoldable pub scale : ℕ
  scale = product band_count gap

  -- a band's price per cycle is the difference in power over the gap; multiplied out it is that difference times all other gaps
  unfoldable pub price : (band : ℕ) → ℕ
  price k = rise k * product band_count (λ l. cond (eqb l k) 1 (gap l))

-- T1. The working points start at frequency 0, rise, and prices rise strictly with the band: compared crosswise, the
-- difference in power of a band times the next gap is below the next difference times its own gap.
pub record Curve (ws : List Point) : Type 0 where
  pub some : 2 ≤ length ws
  pub start : frequency_of ws 0 ≡ 0
  pub frequency_rises : (k : ℕ) → k < band_count ws → frequency_of ws k < frequency_of ws (suc k)
  pub power_rises : (k : ℕ) → k < band_count ws → power_at ws k < power_at ws (suc k)
  pub price_rises : (k : ℕ) → suc k < band_count ws → rise ws k * gap ws (suc k) < rise ws (suc k) * gap ws k

-- T2. A point lies on or above the line through each band.
abbrev pub Above : List Point → Point → Type 0
Above ws point =
    (k : ℕ) → k < band_count ws
    → power_at ws k * gap ws k + rise ws k * point.frequency ≤ point.power * gap ws k + rise ws k * frequency_of ws k
