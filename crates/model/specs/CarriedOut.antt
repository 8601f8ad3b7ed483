-- A plan carried out as under "Load", as the slots of a schedule (document 01, "Load" and "Any schedule").
use Rattle.std.specs.Prelude.{ℕ, zero, suc, ◌+◌, ◌-◌, ◌*◌, ◌/◌, cond, List, length, ltb, eqb}
use Rattle.model.specs.declared.Level.{Level}
use Rattle.model.specs.declared.Job.{Job}
use Rattle.model.specs.Sum.{sum, product}
use Rattle.model.specs.Search.{first_below}
use Rattle.model.specs.Points.{Point, points, point_at, working}
use Rattle.model.specs.Bands.{band_count, frequency_of, scale}
use Rattle.model.specs.Setting.{Setting, setting_of}
use Rattle.model.specs.Intervals.{interval_count, bound_at, length_of}
use Rattle.model.specs.Plans.{Shares, load}
use Rattle.model.specs.Schedules.{Slot, idles, runs}

-- q is the product of the frequencies of working levels 1 to m and all gaps.
unfoldable pub slots_per_tick : List Point → ℕ
slots_per_tick ws = product (band_count ws) (λ k. frequency_of ws (suc k)) * scale ws

-- The number, among all points, of working point k: the one of its frequency.
unfoldable pub point_number : List Point → (k : ℕ) → ℕ
point_number ps k = first_below (length ps) (λ i. eqb (point_at ps i).frequency (frequency_of (working ps) k))

-- Point 0 idles, and point i + 1 is level i.
abbrev pub slot_of_point : (point job : ℕ) → Slot
slot_of_point zero job = idles
slot_of_point (suc level) job = runs level job

-- The working points of a level table.
abbrev pub working_points : (idle_power : ℕ) → List Level → List Point
working_points idle_power levels = working (points idle_power levels)

module _ (idle_power : ℕ) (levels : List Level) (jobs : List Job) (bounds : List ℕ) (shares : Shares) where
  abbrev pub q : ℕ
  q = slots_per_tick (working_points idle_power levels)

  -- The working point that slot u of interval i stands on, slots counted from the interval's start: the band's upper
  -- point for extra / gap ticks, first, and the lower one for the remaining time. An interval without load idles.
  unfoldable pub point_in_slot : (interval u : ℕ) → ℕ
  point_in_slot i u =
      let setting : Setting = setting_of (working_points idle_power levels) (length_of bounds i) (load jobs shares i) in
      cond (ltb (u * setting.gap) (q * setting.extra)) setting.band (setting.band - 1)

  -- The cycles delivered in interval i before slot u, times q.
  unfoldable pub delivered_before : (interval u : ℕ) → ℕ
  delivered_before i u = sum u (λ v. frequency_of (working_points idle_power levels) (point_in_slot i v))

  -- Meanwhile the interval's jobs run in order of number, each for its own cycles: the job that runs is the first whose
  -- cycles, with those of the jobs before it, are not yet delivered.
  unfoldable pub job_in_slot : (interval u : ℕ) → ℕ
  job_in_slot i u = first_below (length jobs) (λ j. ltb (delivered_before i u) (q * sum (suc j) (shares i)))

  -- The interval of a tick that lies s / q ticks after the first bound.
  unfoldable pub interval_of_slot : (s : ℕ) → ℕ
  interval_of_slot s = first_below (interval_count bounds) (λ i. ltb (bound_at bounds 0 + s / q) (bound_at bounds (suc i)))

  -- Slot s of the whole schedule.
  unfoldable pub slot_of : (s : ℕ) → Slot
  slot_of s =
      let i : ℕ = interval_of_slot s in
      let u : ℕ = s - q * (bound_at bounds i - bound_at bounds 0) in
      slot_of_point (point_number (points idle_power levels) (point_in_slot i u)) (job_in_slot i u)
