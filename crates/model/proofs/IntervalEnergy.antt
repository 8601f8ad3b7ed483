-- The exact energy of one interval whose load lies between the ends of a band: the bands below it are full, those above
-- empty, and so the energy lies on the band's line.
-- Assumes nothing.
use mathlib.Core.Path.{◌≡◌, ◌∙◌, ap}
use mathlib.Core.List.{List}
use Prim.Native.Nat.{ℕ, suc, ◌+◌, ◌-◌, ◌*◌, ◌<◌}
use native.Mathlib.Nat.{zero-mul, mul-le-mul_left}
use native.Mathlib.Omega.{arith}
use Rattle.model.specs.Sum.{sum}
use Rattle.model.specs.Points.{Point}
use Rattle.model.specs.Bands.{band_count, frequency_of, power_at, gap, scale, price, Curve}
use Rattle.model.specs.Energy.{band_cycles, interval_energy}
use Rattle.model.proofs.Sum.{sum_telescopes, sum_shorter}
use Rattle.model.proofs.Bands.{price_gap, gap_step, rise_step, curve_frequencies_never_fall}
use Rattle.model.proofs.Fitting.{Between}

module _ {ws : List Point} (curve : Curve ws) {length load k : ℕ} (here : Between ws length load k) where
  -- a lower band is full
  full : (l : ℕ) → l < k → band_cycles ws length load l ≡ length * gap ws l
  unfolding band_cycles
  full l less =
      omega (
        arith,
        here.low,
        ap (λ (x : ℕ). length * x) (gap_step ws curve l (omega (arith, here.band))),
        mul-le-mul_left length (curve_frequencies_never_fall ws curve (suc l) k less (omega (arith, here.band))),
      )

  -- the load's own band takes what is above its start
  own : band_cycles ws length load k ≡ load - length * frequency_of ws k
  unfolding band_cycles
  own = omega (arith, here.high, ap (λ (x : ℕ). length * x) (gap_step ws curve k here.band))

  -- a higher band is empty
  empty : (l : ℕ) → k < l → l < band_count ws → band_cycles ws length load l ≡ 0
  unfolding band_cycles
  empty l more below =
      omega (arith, here.high, mul-le-mul_left length (curve_frequencies_never_fall ws curve (suc k) l more (omega arith)))

  -- a full band leads from the power at its start, over the whole length, to that at its end
  full_step : (l : ℕ) → l < k
      → length * (power_at ws l * scale ws) + band_cycles ws length load l * price ws l ≡ length * (power_at ws (suc l) * scale ws)
  full_step l less =
      let below : l < band_count ws = omega (arith, here.band) in
      rw (full l less, ← rise_step ws curve l below) (omega (arith, ap (λ (x : ℕ). length * x) (price_gap ws l below)))

  pub energy_on_band : interval_energy ws length load
      ≡ length * (power_at ws k * scale ws) + (load - length * frequency_of ws k) * price ws k
  unfolding interval_energy sum
  energy_on_band =
      let cost : ℕ → ℕ = λ l. band_cycles ws length load l * price ws l in
      let below : length * (power_at ws 0 * scale ws) + sum k cost ≡ length * (power_at ws k * scale ws) =
      sum_telescopes k (λ l. length * (power_at ws l * scale ws)) cost full_step in
      let above : sum (band_count ws) cost ≡ sum k cost + cost k =
      sum_shorter (suc k) (band_count ws) cost here.band (λ l more less. ap (λ (x : ℕ). x * price ws l) (empty l more less) ∙ zero-mul (price ws l)) in
      omega (arith, ap (λ (x : ℕ). x * price ws k) own)

  -- the same without subtraction
  pub energy_on_line : interval_energy ws length load + length * (price ws k * frequency_of ws k)
      ≡ length * (scale ws * power_at ws k) + load * price ws k
  energy_on_line =
      let all : load - length * frequency_of ws k + length * frequency_of ws k ≡ load = omega (arith, here.low) in
      omega (arith, energy_on_band, ap (λ (x : ℕ). x * price ws k) all)
