-- Laws of the bands of a curve: gaps, differences in power and the scale are positive; frequencies and prices rise; a
-- price times its gap is the difference in power times the scale; the line through a band, multiplied out by all gaps.
-- Assumes nothing.
use mathlib.Core.Path.{◌≡◌, ap}
use mathlib.Core.Logic.{◌⊎◌, inl, inr}
use mathlib.Core.List.{List}
use Prim.Native.Nat.{ℕ, suc, ◌+◌, ◌*◌, ◌<◌, ◌≤◌}
use native.Mathlib.Nat.{eq-or-lt_of_le, mul-le-mul_left, mul-lt-mul_of_pos_right, le_of_mul-le-mul_right, lt_of_mul-lt-mul_right}
use native.Mathlib.Omega.{arith}
use Rattle.model.specs.Points.{Point}
use Rattle.model.specs.Bands.{band_count, frequency_of, power_at, gap, rise, scale, price, Curve, Above}
use Rattle.model.proofs.Numbers.{rises_between}
use Rattle.model.proofs.Sum.{product_pos, product_others}

-- a price times its gap is the difference in power times all gaps
pub price_gap : (ws : List Point) (k : ℕ) → k < band_count ws → price ws k * gap ws k ≡ rise ws k * scale ws
unfolding price scale
price_gap ws k inside = omega (arith, ap (λ (x : ℕ). rise ws k * x) (product_others (band_count ws) (gap ws) k inside))

module _ (ws : List Point) (curve : Curve ws) where
  -- a band leads from one working point to the next
  pub gap_step : (k : ℕ) → k < band_count ws → frequency_of ws k + gap ws k ≡ frequency_of ws (suc k)
  unfolding gap
  gap_step k inside = omega (arith, curve.frequency_rises k inside)

  pub rise_step : (k : ℕ) → k < band_count ws → power_at ws k + rise ws k ≡ power_at ws (suc k)
  unfolding rise
  rise_step k inside = omega (arith, curve.power_rises k inside)

  pub gap_positive : (k : ℕ) → k < band_count ws → 0 < gap ws k
  gap_positive k inside = omega (arith, gap_step k inside, curve.frequency_rises k inside)

  pub scale_positive : 0 < scale ws
  unfolding scale
  scale_positive = product_pos (band_count ws) gap_positive

  pub curve_frequencies_rise : (k l : ℕ) → k < l → l ≤ band_count ws → frequency_of ws k < frequency_of ws l
  curve_frequencies_rise k l less inside =
      rises_between (frequency_of ws) (suc (band_count ws)) (λ i h. curve.frequency_rises i (omega arith)) k l less (omega arith)

  pub curve_frequencies_never_fall : (k l : ℕ) → k ≤ l → l ≤ band_count ws → frequency_of ws k ≤ frequency_of ws l
  curve_frequencies_never_fall k l less inside = go (eq-or-lt_of_le less)
    where
      go : (k ≡ l) ⊎ (k < l) → frequency_of ws k ≤ frequency_of ws l
      go (inl same) = rw same (omega arith)
      go (inr below) = omega (arith, curve_frequencies_rise k l below inside)

  price_step : (k : ℕ) → suc k < band_count ws → price ws k < price ws (suc k)
  price_step k inside =
      lt_of_mul-lt-mul_right (gap ws k * gap ws (suc k))
      (omega (
        arith,
        ap (λ (x : ℕ). x * gap ws (suc k)) (price_gap ws k (omega arith)),
        ap (λ (x : ℕ). x * gap ws k) (price_gap ws (suc k) inside),
        mul-lt-mul_of_pos_right (curve.price_rises k inside) scale_positive,
      ))

  pub prices_rise : (k l : ℕ) → k < l → l < band_count ws → price ws k < price ws l
  prices_rise = rises_between (price ws) (band_count ws) price_step

  pub prices_never_fall : (k l : ℕ) → k ≤ l → l < band_count ws → price ws k ≤ price ws l
  prices_never_fall k l order inside = go (eq-or-lt_of_le order)
    where
      go : (k ≡ l) ⊎ (k < l) → price ws k ≤ price ws l
      go (inl same) = rw same (omega arith)
      go (inr less) = omega (arith, prices_rise k l less inside)

  -- a point on or above each band's line, multiplied out by all gaps
  pub above_scaled : (point : Point) → Above ws point → (k : ℕ) → k < band_count ws
      → scale ws * power_at ws k + price ws k * point.frequency ≤ scale ws * point.power + price ws k * frequency_of ws k
  above_scaled point above k inside =
      le_of_mul-le-mul_right {k = gap ws k}
      (omega (
        arith,
        mul-le-mul_left (scale ws) (above k inside),
        ap (λ (x : ℕ). x * point.frequency) (price_gap ws k inside),
        ap (λ (x : ℕ). x * frequency_of ws k) (price_gap ws k inside),
      ))
      (gap_positive k inside)
