-- The slots of one interval, by the working points that they stand on: they deliver exactly the load, no slot crosses a
-- multiple of q in what is delivered, and their powers add up to the interval's energy.
-- Assumes nothing.
use mathlib.Core.Path.{◌≡◌, refl, sym, ap, ◌∙◌}
use mathlib.Core.Bool.{Bool, true, false, cond}
use mathlib.Core.List.{List}
use Prim.Native.Nat.{ℕ, zero, suc, ◌+◌, ◌-◌, ◌*◌, ◌/◌, ◌<◌, ◌≤◌}
use native.Mathlib.Nat.{mul-div_cancel', eq_of_mul-eq-mul_left}
use native.Mathlib.Omega.{arith}
use lib.Dec.{ltb}
use lib.ListN.{length}
use borrow.Author.Tests.{le-ltb}
use Rattle.model.specs.Sum.{sum}
use Rattle.model.specs.Points.{Point}
use Rattle.model.specs.Bands.{band_count, frequency_of, power_at, gap, rise, scale, price, Curve}
use Rattle.model.specs.Setting.{Setting, band_of, setting_of}
use Rattle.model.specs.Energy.{interval_energy}
use Rattle.model.specs.CarriedOut.{slots_per_tick}
use Rattle.model.proofs.Sum.{sum_cong}
use Rattle.model.proofs.TwoSpeeds.{switched, switched_sum, switched_uncrossed}
use Rattle.model.proofs.Bands.{price_gap, gap_step, rise_step, gap_positive}
use Rattle.model.proofs.Fitting.{Between, band_of_law}
use Rattle.model.proofs.IntervalEnergy.{energy_on_band}
use Rattle.model.proofs.SlotsPerTick.{frequency_divides, gap_divides, lower_divides}

-- the working point that a slot stands on, by its setting
abbrev setting_point : (q : ℕ) → Setting → (u : ℕ) → ℕ
setting_point q setting u = cond (ltb (u * setting.gap) (q * setting.extra)) setting.band (setting.band - 1)

-- the working point that slot u of an interval stands on
abbrev pub working_point_in : (ws : List Point) (ticks load u : ℕ) → ℕ
working_point_in ws ticks load u = setting_point (slots_per_tick ws) (setting_of ws ticks load) u

cond_same : (t : Bool) (x : ℕ) → cond t x x ≡ x
cond_same true x = refl
cond_same false x = refl

-- a function of one of two numbers
of_cond : (f : ℕ → ℕ) (t : Bool) (x y : ℕ) → f (cond t x y) ≡ cond t (f x) (f y)
of_cond f true x y = refl
of_cond f false x y = refl

-- The load lies between the ends of band k, and the slots stand on its two points, the upper one first.
pub record OnBand (ws : List Point) (ticks load k : ℕ) : Type 0 where
  pub between : Between ws ticks load k
  pub point : (u : ℕ) → working_point_in ws ticks load u ≡ switched (slots_per_tick ws) (gap ws k) (load - ticks * frequency_of ws k) (suc k) k u

module _ {ws : List Point} (curve : Curve ws) where
  pub on_band : (ticks load : ℕ) → load ≤ ticks * frequency_of ws (band_count ws) → (k : ℕ) × OnBand ws ticks load k
  unfolding setting_of
  on_band ticks zero fits = (
    0,
    record {
      between = record { band = omega (arith, curve.some); low = rw curve.start (omega arith); high = omega arith };
      point = idles;
    },
  )
    where
      idles : (u : ℕ) → working_point_in ws ticks 0 u ≡ switched (slots_per_tick ws) (gap ws 0) (0 - ticks * frequency_of ws 0) 1 0 u
      idles u =
          let none : 0 - ticks * frequency_of ws 0 ≡ 0 = omega arith in
          rw (none, le-ltb (u * gap ws 0) (slots_per_tick ws * 0) (omega arith)) (cond_same (ltb (u * 0) (slots_per_tick ws * 0)) 0)
  on_band ticks (suc cycles) fits =
      let found = band_of_law curve ticks (suc cycles) (omega arith) fits in
      let k : ℕ = band_of ws ticks (suc cycles) in (
        k,
        record {
          between = record { band = found.band; low = omega (arith, found.above); high = found.upto };
          point = λ u. let e : suc k - 1 ≡ k = omega arith in rw e;
        },
      )

  module _ {ticks load k : ℕ} (here : OnBand ws ticks load k) where
    pub point_exists : (u : ℕ) → working_point_in ws ticks load u < length ws
    point_exists u = rw (here.point u) (either (ltb (u * gap ws k) (slots_per_tick ws * (load - ticks * frequency_of ws k))))
      where
        either : (t : Bool) → cond t (suc k) k < length ws
        either true = omega (arith, here.between.band)
        either false = omega (arith, here.between.band)

    -- a sum over slots, of what each working point adds
    sum_on_band : (of : ℕ → ℕ) (n : ℕ) → sum n (λ u. of (working_point_in ws ticks load u))
        ≡ sum n (switched (slots_per_tick ws) (gap ws k) (load - ticks * frequency_of ws k) (of (suc k)) (of k))
    sum_on_band of n =
        sum_cong n (λ u below. ap of (here.point u) ∙ of_cond of (ltb (u * gap ws k) (slots_per_tick ws * (load - ticks * frequency_of ws k))) (suc k) k)

    cut : gap ws k * (slots_per_tick ws / gap ws k) ≡ slots_per_tick ws
    cut = mul-div_cancel' (gap ws k) (gap_divides curve k here.between.band)

    -- Over all slots, multiplied by the gap: what the lower point adds in every slot, and what the upper one adds to that.
    whole_sum : (of : ℕ → ℕ) (more : ℕ) → of (suc k) ≡ of k + more
        → gap ws k * sum (slots_per_tick ws * ticks) (λ u. of (working_point_in ws ticks load u))
        ≡ slots_per_tick ws * (ticks * gap ws k * of k + (load - ticks * frequency_of ws k) * more)
    whole_sum of more upper =
        let q : ℕ = slots_per_tick ws in
        let extra : ℕ = load - ticks * frequency_of ws k in
        let rest : ℕ = ticks * frequency_of ws (suc k) - load in
        let step : ticks * (frequency_of ws k + gap ws k) ≡ ticks * frequency_of ws (suc k) =
        ap (λ (x : ℕ). ticks * x) (gap_step ws curve k here.between.band) in
        let parts : extra + rest ≡ ticks * gap ws k = omega (arith, here.between.low, here.between.high) in
        let switches : gap ws k * sum (q * ticks) (switched q (gap ws k) extra (of (suc k)) (of k)) ≡ q * (extra * of (suc k) + rest * of k) =
        switched_sum q (gap ws k) extra (q / gap ws k) (gap_positive ws curve k here.between.band) cut ticks rest parts (of (suc k)) (of k) in
        rw (sum_on_band of (q * ticks), switches, upper) (omega (arith, ap (λ (x : ℕ). q * (x * of k)) parts))

    -- the slots deliver the load
    pub load_delivered : sum (slots_per_tick ws * ticks) (λ u. frequency_of ws (working_point_in ws ticks load u)) ≡ slots_per_tick ws * load
    load_delivered =
        let all : ticks * frequency_of ws k + (load - ticks * frequency_of ws k) ≡ load = omega (arith, here.between.low) in
        let times : gap ws k * sum (slots_per_tick ws * ticks) (λ u. frequency_of ws (working_point_in ws ticks load u)) ≡ gap ws k * (slots_per_tick ws * load) =
        rw (whole_sum (frequency_of ws) (gap ws k) (sym (gap_step ws curve k here.between.band)))
        (omega (arith, ap (λ (x : ℕ). slots_per_tick ws * (x * gap ws k)) all)) in
        eq_of_mul-eq-mul_left (gap ws k) (gap_positive ws curve k here.between.band) _ _ times

    pub uncrossed : (u cycles : ℕ) → sum u (λ v. frequency_of ws (working_point_in ws ticks load v)) < slots_per_tick ws * cycles
        → sum (suc u) (λ v. frequency_of ws (working_point_in ws ticks load v)) ≤ slots_per_tick ws * cycles
    uncrossed u cycles =
        let step = gap_step ws curve k here.between.band in
        rw (sum_on_band (frequency_of ws) u, sum_on_band (frequency_of ws) (suc u), ← step)
        (switched_uncrossed (slots_per_tick ws) (gap ws k) (load - ticks * frequency_of ws k) (slots_per_tick ws / gap ws k)
        (gap_positive ws curve k here.between.band) cut (frequency_of ws k) (rw step (frequency_divides curve k here.between.band))
        (lower_divides curve k here.between.band) u cycles)

    -- and their powers add up to its energy
    pub powers_add : scale ws * sum (slots_per_tick ws * ticks) (λ u. power_at ws (working_point_in ws ticks load u))
        ≡ slots_per_tick ws * interval_energy ws ticks load
    powers_add =
        let q : ℕ = slots_per_tick ws in
        let total : ℕ = sum (q * ticks) (λ u. power_at ws (working_point_in ws ticks load u)) in
        let extra : ℕ = load - ticks * frequency_of ws k in
        let times : gap ws k * (scale ws * total) ≡ gap ws k * (q * (ticks * (power_at ws k * scale ws) + extra * price ws k)) =
        omega (
          arith,
          ap (λ (x : ℕ). scale ws * x) (whole_sum (power_at ws) (rise ws k) (sym (rise_step ws curve k here.between.band))),
          ap (λ (x : ℕ). q * (extra * x)) (price_gap ws k here.between.band),
        ) in
        rw (energy_on_band curve here.between)
        (eq_of_mul-eq-mul_left (gap ws k) (gap_positive ws curve k here.between.band) _ _ times)
