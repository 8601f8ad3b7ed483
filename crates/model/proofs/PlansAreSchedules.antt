-- A plan, carried out as under Load, is a schedule that meets all deadlines, of equal exact energy (T5).
-- Assumes nothing.
use mathlib.Core.Path.{◌≡◌, refl, sym, ap, ◌∙◌}
use mathlib.Core.Bool.{true, false, ◌&&◌}
use mathlib.Core.Logic.{◌⊎◌, inl, inr}
use mathlib.Core.List.{List}
use Prim.Native.Nat.{ℕ, ◌+◌, ◌-◌, ◌*◌, ◌/◌, ◌<◌, ◌≤◌}
use native.Mathlib.Omega.{arith}
use lib.Dec.{ltb, leb}
use lib.ListN.{length}
use borrow.Author.Tests.{le-leb, lt-ltb}
use Rattle.model.specs.declared.Level.{Level}
use Rattle.model.specs.declared.Job.{Job}
use Rattle.model.specs.Sum.{sum, only_if}
use Rattle.model.specs.Jobs.{job_of}
use Rattle.model.specs.Points.{Point, points, working, top_frequency, RisingPoints}
use Rattle.model.specs.Bands.{frequency_of, scale, Curve}
use Rattle.model.specs.Intervals.{interval_count, bound_at, length_of, is_open, earliest_release, Bounds}
use Rattle.model.specs.Plans.{Shares, load, Gives}
use Rattle.model.specs.Energy.{interval_energy, exact_energy}
use Rattle.model.specs.Schedules.{Slot, IsGiven, frequency_for, slot_power, horizon, Schedule, Serves, served, slot_powers}
use Rattle.model.specs.CarriedOut.{slots_per_tick, point_in_slot, delivered_before, job_in_slot, point_number, slot_of_point, interval_of_slot, slot_of}
use Rattle.model.specs.LeastEnergy.{CarriedOut}
use Rattle.model.proofs.Numbers.{true_or_false}
use Rattle.model.proofs.Sum.{sum_cong, sum_mono, sum_mul_left, sum_before}
use Rattle.model.proofs.Turns.{some_turn, turns_serve}
use Rattle.model.proofs.Working.{working_curve, working_top}
use Rattle.model.proofs.Intervals.{tick_open}
use Rattle.model.proofs.SlotsPerTick.{slots_positive}
use Rattle.model.proofs.IntervalSlots.{OnBand, on_band, point_exists, load_delivered, uncrossed, powers_add}
use Rattle.model.proofs.PointNumbers.{slot-frequency, slot-power, slot_given}
use Rattle.model.proofs.SlotsOfBounds.{first_slot, sum_of_slots, slot_in_interval, slot_tick, interval_found}

module _ (idle_power : ℕ) (levels : List Level) (jobs : List Job) (bounds : List ℕ) (shares : Shares) where
  abbrev ws : List Point
  ws = working (points idle_power levels)

  abbrev q : ℕ
  q = slots_per_tick ws

  abbrev point_in : (interval u : ℕ) → ℕ
  point_in = point_in_slot idle_power levels jobs bounds shares

  abbrev job_in : (interval u : ℕ) → ℕ
  job_in = job_in_slot idle_power levels jobs bounds shares

  -- slot u of interval i
  abbrev slot_in : (interval u : ℕ) → Slot
  slot_in i u = slot_of_point (point_number (points idle_power levels) (point_in i u)) (job_in i u)

  -- what slot s of the whole adds to what job j gets between its release and its deadline
  abbrev service_of : (job s : ℕ) → ℕ
  service_of j s =
      only_if (leb (job_of jobs j).release (earliest_release jobs + s / q) && ltb (earliest_release jobs + s / q) (job_of jobs j).deadline)
      (frequency_for levels j (slot_of idle_power levels jobs bounds shares s))

  module _ (rising : RisingPoints (points idle_power levels)) (B : Bounds jobs bounds)
      (gives : Gives (top_frequency levels) jobs bounds shares) where
    curve : Curve ws
    curve = working_curve (points idle_power levels) rising

    module _ (i : ℕ) (inside : i < interval_count bounds) where
      band_in : (k : ℕ) × OnBand ws (length_of bounds i) (load jobs shares i) k
      band_in =
          on_band curve (length_of bounds i) (load jobs shares i) (rw (working_top idle_power levels rising) (gives.fits i inside))

      point-in : (u : ℕ) → point_in i u < length ws
      unfolding point_in_slot
      point-in = point_exists curve band_in.1

      -- the slots of one interval give each job its share
      job-in : (j : ℕ) → j < length jobs → sum (q * length_of bounds i) (λ u. frequency_for levels j (slot_in i u)) ≡ q * shares i j
      unfolding point_in_slot delivered_before job_in_slot load
      job-in j below =
          sum_cong (q * length_of bounds i)
          (λ u less. slot-frequency idle_power levels rising jobs (point_in i u) (job_in i u) (point-in u) j)
          ∙ turns_serve q (length jobs) (q * length_of bounds i) (shares i) (λ u. frequency_of ws (point_in i u))
          (uncrossed curve band_in.1) (load_delivered curve band_in.1) j below

      -- and draw its energy
      power_in : scale ws * sum (q * length_of bounds i) (λ u. slot_power idle_power levels (slot_in i u))
          ≡ q * interval_energy ws (length_of bounds i) (load jobs shares i)
      unfolding point_in_slot
      power_in =
          ap (λ (x : ℕ). scale ws * x)
          (sum_cong (q * length_of bounds i) (λ u less. slot-power idle_power levels rising jobs (point_in i u) (job_in i u) (point-in u)))
          ∙ powers_add curve band_in.1

      -- a slot that runs has a given level and a given job
      pub given-in : (u : ℕ) → u < slots_per_tick (working (points idle_power levels)) * length_of bounds i
          → IsGiven levels jobs (slot_of_point
          (point_number (points idle_power levels) (point_in_slot idle_power levels jobs bounds shares i u))
          (job_in_slot idle_power levels jobs bounds shares i u))
      unfolding point_in_slot delivered_before job_in_slot load
      given-in u below =
          slot_given idle_power levels rising jobs (point_in i u) (job_in i u) (point-in u)
          (λ runs. some_turn q (shares i) (length jobs) (sum u (λ v. frequency_of ws (point_in i v)))
          (rw (load_delivered curve band_in.1) at (sum_before u (q * length_of bounds i) (λ v. frequency_of ws (point_in i v)) below runs)))

    positive : 0 < q
    positive = slots_positive curve

    pub slot_found : (i u : ℕ) → i < interval_count bounds → u < slots_per_tick (working (points idle_power levels)) * length_of bounds i
        → slot_of idle_power levels jobs bounds shares (first_slot (slots_per_tick (working (points idle_power levels))) bounds i + u)
        ≡ slot_of_point
        (point_number (points idle_power levels) (point_in_slot idle_power levels jobs bounds shares i u))
        (job_in_slot idle_power levels jobs bounds shares i u)
    unfolding slot_of interval_of_slot
    slot_found i u inside below =
        let e : first_slot q bounds i + u - first_slot q bounds i ≡ u = omega arith in
        rw (interval_found B q i u inside below positive, e)

    carried : Schedule levels jobs
    carried = record {
      q = q;
      q_low = positive;
      slot = slot_of idle_power levels jobs bounds shares;
      given = given;
    }
      where
        given : (s : ℕ) → s < q * horizon jobs → IsGiven levels jobs (slot_of idle_power levels jobs bounds shares s)
        given s below =
            let (i, inside, found) = slot_in_interval B q s below in
            rw (← found.2, slot_found i found.0 inside found.1) (given-in i inside found.0 found.1)

    -- the slots of an interval where job j is open lie between its release and its deadline
    counts_in : (i u j : ℕ) → i < interval_count bounds → u < q * length_of bounds i → j < length jobs → is_open bounds (job_of jobs j) i ≡ true
        → service_of j (first_slot q bounds i + u) ≡ frequency_for levels j (slot_in i u)
    counts_in i u j inside below job opened =
        let place = slot_tick B q i u inside below positive in
        let tick : ℕ = bound_at bounds 0 + (first_slot q bounds i + u) / q in
        let window = (tick_open B i j tick inside job place.0 place.1).1 opened in
        rw (
          ← B.first,
          le-leb (job_of jobs j).release tick window.0,
          lt-ltb tick (job_of jobs j).deadline window.1,
          slot_found i u inside below,
        )

    share_served : (i j : ℕ) → i < interval_count bounds → j < length jobs
        → q * shares i j ≤ sum (q * length_of bounds i) (λ u. service_of j (first_slot q bounds i + u))
    share_served i j inside below = go (true_or_false (is_open bounds (job_of jobs j) i))
      where
        go : (is_open bounds (job_of jobs j) i ≡ true) ⊎ (is_open bounds (job_of jobs j) i ≡ false)
            → q * shares i j ≤ sum (q * length_of bounds i) (λ u. service_of j (first_slot q bounds i + u))
        go (inl opened) =
            let same = sum_cong (q * length_of bounds i) (λ u less. counts_in i u j inside less below opened) in
            omega (arith, same, job-in i inside j below)
        go (inr shut) = rw (gives.shut i j inside below shut) (omega arith)

    carried_serves : Serves carried
    unfolding served carried
    carried_serves j below =
        rw (← (gives.whole j below), ← sum_mul_left (interval_count bounds) q (λ i. shares i j), sum_of_slots B q (service_of j))
        (sum_mono (interval_count bounds) (λ i inside. share_served i j inside below))

    carried_energy : scale ws * slot_powers idle_power carried ≡ q * exact_energy ws jobs bounds shares
    unfolding slot_powers exact_energy carried
    carried_energy =
        rw (sum_of_slots B q (λ s. slot_power idle_power levels (slot_of idle_power levels jobs bounds shares s)))
        (sym (sum_mul_left (interval_count bounds) (scale ws) _)
        ∙ sum_cong (interval_count bounds) each
        ∙ sum_mul_left (interval_count bounds) q _)
      where
        each : (i : ℕ) → i < interval_count bounds
            → scale ws * sum (q * length_of bounds i) (λ u. slot_power idle_power levels (slot_of idle_power levels jobs bounds shares (first_slot q bounds i + u)))
            ≡ q * interval_energy ws (length_of bounds i) (load jobs shares i)
        each i inside =
            ap (λ (x : ℕ). scale ws * x)
            (sum_cong (q * length_of bounds i) (λ u less. ap (slot_power idle_power levels) (slot_found i u inside less)))
            ∙ power_in i inside

    pub carried_out : CarriedOut idle_power levels jobs bounds shares
    unfolding carried
    carried_out = record {
      schedule = carried;
      slots-per-tick = refl;
      slots = λ s below. refl;
      serves = carried_serves;
      energy = carried_energy;
    }
