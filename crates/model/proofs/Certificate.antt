-- T3, the certificate: no schedule that meets all deadlines needs less energy than a plan with fitting prices. Each slot's
-- power lies on or above the line of its interval's band, on which the plan's energy lies; what the lines charge for the
-- cycles is compared by the exchange step.
-- Assumes nothing.
use mathlib.Core.Path.{◌≡◌, ap, sym}
use mathlib.Core.Bool.{true, false}
use mathlib.Core.Logic.{◌⊎◌, inl, inr}
use mathlib.Core.List.{List}
use Prim.Native.Nat.{ℕ, zero, suc, ◌+◌, ◌-◌, ◌*◌, ◌<◌, ◌≤◌}
use native.Mathlib.Nat.{le_trans}
use native.Mathlib.Omega.{arith}
use lib.ListN.{length}
use Rattle.model.specs.declared.Level.{Level}
use Rattle.model.specs.declared.Job.{Job}
use Rattle.model.specs.Sum.{sum}
use Rattle.model.specs.Jobs.{job_of}
use Rattle.model.specs.Points.{Point, points, working, top_frequency, RisingPoints}
use Rattle.model.specs.Bands.{band_count, frequency_of, power_at, scale, price, Curve, Above}
use Rattle.model.specs.Intervals.{Bounds, interval_count, length_of, is_open}
use Rattle.model.specs.Plans.{Shares, load, Gives}
use Rattle.model.specs.Energy.{interval_energy, exact_energy}
use Rattle.model.specs.Prices.{PriceList, FittingPrices, is_band_number, fits_load}
use Rattle.model.specs.Schedules.{Slot, idles, runs, IsGiven, slot_power, Schedule, Serves, slot_powers}
use Rattle.model.proofs.Numbers.{true_or_false, true≢false}
use Rattle.model.proofs.Sum.{sum_mono, sum_add, sum_mul_left, sum_const}
use Rattle.model.proofs.Points.{points_length, points_level}
use Rattle.model.proofs.Working.{working_curve, working_top}
use Rattle.model.proofs.Support.{points_above}
use Rattle.model.proofs.Bands.{prices_never_fall, above_scaled}
use Rattle.model.proofs.Fitting.{Between, fits_between}
use Rattle.model.proofs.IntervalEnergy.{energy_on_line}
use Rattle.model.proofs.Exchange.{Exchange, exchange}
use Rattle.model.proofs.SlotsOfBounds.{sum_of_slots}
use Rattle.model.proofs.Supply.{slot_frequency, slot_in, supplied, given-in, served_where_open, supplied_together}

-- what holds of each of n slots holds of all of them together
slots_line : (n G π p f : ℕ) (frequency power : ℕ → ℕ) → ((u : ℕ) → u < n → G * p + π * frequency u ≤ G * power u + π * f)
    → n * (G * p) + sum n frequency * π ≤ G * sum n power + n * (π * f)
slots_line n G π p f frequency power each =
    let all : sum n (λ u. G * p + π * frequency u) ≤ sum n (λ u. G * power u + π * f) = sum_mono n each in
    omega (arith, simp (sum_add, sum_mul_left, sum_const) at all)

-- rule 23 of a price, with the band counted from 0
price_between : {ws : List Point} → Curve ws → (length load : ℕ) → load ≤ length * frequency_of ws (band_count ws)
    → (number : ℕ) → is_band_number ws number ≡ true → fits_load ws length load number ≡ true → Between ws length load (number - 1)
price_between curve length load high zero is_number fits = absurd (true≢false (sym is_number))
price_between curve length load high (suc k) is_number fits =
    let e : suc k - 1 ≡ k = omega arith in
    rw e (fits_between curve length load high k (rw (is_number, fits)))

module _ (idle_power : ℕ) (levels : List Level) where
  abbrev ws : List Point
  ws = working (points idle_power levels)

  -- The frequency and the power of a slot.
  abbrev slot_point : Slot → Point
  slot_point slot = record { frequency = slot_frequency levels slot; power = slot_power idle_power levels slot }

  module _ (rising : RisingPoints (points idle_power levels)) where
    curve : Curve ws
    curve = working_curve (points idle_power levels) rising

    -- idling and each level, dropped or not, lie on or above every band's line
    slot_above : (jobs : List Job) (slot : Slot) → IsGiven levels jobs slot → Above ws (slot_point slot)
    unfolding points
    slot_above jobs idles given = points_above (points idle_power levels) rising 0 (omega arith)
    slot_above jobs (runs level job) given =
        rw (points_level idle_power levels level) at
        (points_above (points idle_power levels) rising (suc level) (rw (points_length idle_power levels) (omega (arith, given.0))))

    module _ {jobs : List Job} {bounds : List ℕ} (B : Bounds jobs bounds)
        {shares : Shares} (gives : Gives (top_frequency levels) jobs bounds shares)
        {prices : PriceList} (fitting : FittingPrices ws jobs bounds shares prices)
        (schedule : Schedule levels jobs) (serves : Serves schedule) where
      between : (i : ℕ) → i < interval_count bounds → Between ws (length_of bounds i) (load jobs shares i) (prices i - 1)
      between i inside =
          price_between curve (length_of bounds i) (load jobs shares i) (rw (working_top idle_power levels rising) (gives.fits i inside))
          (prices i) (fitting.number i inside) (fitting.fits i inside)

      -- one interval: its slots lie on or above the line on which the plan's energy lies
      interval_line : (i : ℕ) → i < interval_count bounds
          → schedule.q * interval_energy ws (length_of bounds i) (load jobs shares i)
          + sum (length jobs) (supplied schedule bounds i) * price ws (prices i - 1)
          ≤ scale ws * sum (schedule.q * length_of bounds i) (λ u. slot_power idle_power levels (slot_in schedule bounds i u))
          + schedule.q * (load jobs shares i * price ws (prices i - 1))
      interval_line i inside =
          let k : ℕ = prices i - 1 in
          let slot : ℕ → Slot = slot_in schedule bounds i in
          let slots =
          slots_line (schedule.q * length_of bounds i) (scale ws) (price ws k) (power_at ws k) (frequency_of ws k)
          (λ u. slot_frequency levels (slot u)) (λ u. slot_power idle_power levels (slot u))
          (λ u below. above_scaled ws curve (slot_point (slot u))
          (slot_above jobs (slot u) (given-in schedule bounds B i u inside below)) k (between i inside).band) in
          rw (supplied_together schedule bounds B i inside)
          (omega (arith, ap (λ (x : ℕ). schedule.q * x) (energy_on_line curve (between i inside)), slots))

      exchanged : Exchange (interval_count bounds) (length jobs) schedule.q (λ i j. is_open bounds (job_of jobs j) i)
          (λ i. price ws (prices i - 1)) shares (supplied schedule bounds)
      exchanged =
          record {
            inside = λ i j inside job more. open_there i j inside job more (true_or_false (is_open bounds (job_of jobs j) i));
            cheapest = λ i other j inside next job more is_open_true.
                prices_never_fall ws curve (prices i - 1) (prices other - 1)
                (omega (arith, fitting.cheapest i other j inside next job more is_open_true)) (between other next).band;
            enough = λ j job. rw (gives.whole j job) (le_trans (serves j job) (served_where_open schedule bounds B j job));
          }
        where
          open_there : (i j : ℕ) → i < interval_count bounds → j < length jobs → 0 < shares i j
              → (is_open bounds (job_of jobs j) i ≡ true) ⊎ (is_open bounds (job_of jobs j) i ≡ false) → is_open bounds (job_of jobs j) i ≡ true
          open_there i j inside job more (inl is_open_true) = is_open_true
          open_there i j inside job more (inr is-shut) = absurd (omega (arith, gives.shut i j inside job is-shut))

      -- the intervals together
      pub least-energy : schedule.q * exact_energy ws jobs bounds shares ≤ scale ws * slot_powers idle_power schedule
      unfolding exact_energy slot_powers load
      least-energy =
          let lines = sum_mono (interval_count bounds) interval_line in
          rw (sum_of_slots B schedule.q (λ s. slot_power idle_power levels (schedule.slot s)))
          (omega (arith, simp (sum_add, sum_mul_left) at lines, exchange exchanged))
