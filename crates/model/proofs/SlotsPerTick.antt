-- The slots that a tick is cut into: their number is positive, and each working frequency and each gap divides it.
-- Assumes nothing.
use mathlib.Core.Path.{◌≡◌}
use mathlib.Core.Logic.{◌⊎◌, inl, inr}
use mathlib.Core.List.{List}
use Prim.Native.Nat.{ℕ, zero, suc, ◌<◌, ◌∣◌}
use native.Mathlib.Nat.{mul-pos, dvd-mul_left_of_dvd, dvd-mul_right_of_dvd}
use native.Mathlib.Omega.{arith}
use Rattle.model.specs.Sum.{product}
use Rattle.model.specs.Points.{Point}
use Rattle.model.specs.Bands.{band_count, frequency_of, gap, scale, Curve}
use Rattle.model.specs.CarriedOut.{slots_per_tick}
use Rattle.model.proofs.Sum.{product_pos}
use Rattle.model.proofs.Divides.{factor_divides}
use Rattle.model.proofs.Bands.{scale_positive}

module _ {ws : List Point} (curve : Curve ws) where
  pub slots_positive : 0 < slots_per_tick ws
  unfolding slots_per_tick
  slots_positive = mul-pos (product_pos (band_count ws) positive) (scale_positive ws curve)
    where
      positive : (k : ℕ) → k < band_count ws → 0 < frequency_of ws (suc k)
      positive k below = omega (arith, curve.frequency_rises k below)

  pub frequency_divides : (k : ℕ) → k < band_count ws → frequency_of ws (suc k) ∣ slots_per_tick ws
  unfolding slots_per_tick
  frequency_divides k below =
      dvd-mul_right_of_dvd (frequency_of ws (suc k)) (factor_divides (band_count ws) (λ k. frequency_of ws (suc k)) k below) (scale ws)

  pub gap_divides : (k : ℕ) → k < band_count ws → gap ws k ∣ slots_per_tick ws
  unfolding slots_per_tick scale
  gap_divides k below =
      dvd-mul_left_of_dvd (gap ws k) (factor_divides (band_count ws) (gap ws) k below) (product (band_count ws) (λ k. frequency_of ws (suc k)))

  -- the lower point of a band idles or has a frequency that divides
  pub lower_divides : (k : ℕ) → k < band_count ws → (frequency_of ws k ≡ 0) ⊎ (frequency_of ws k ∣ slots_per_tick ws)
  lower_divides zero below = inl curve.start
  lower_divides (suc k) below = inr (frequency_divides k (omega arith))
