-- What a draw of idling does to points, energies, schedules and windows (document 02, Change 2: "Idling isn't free"). Stated for
-- any power of idling, and for levels, jobs and bounds of any number. Proved in proofs/IdleDraw.antt.
use Rattle.std.specs.Prelude.{ℕ, suc, ◌+◌, ◌*◌, ◌/◌, ◌≤◌, ◌≡◌, false, List}
use Rattle.model.specs.declared.Level.{Level}
use Rattle.model.specs.declared.Job.{Job}
use Rattle.model.specs.Sum.{sum}
use Rattle.model.specs.Points.{Point, idling_point, points, point_at, dropped, working, RisingPoints}
use Rattle.model.specs.Bands.{band_count, gap, rise, scale, price}
use Rattle.model.specs.Intervals.{interval_count, length_of, Bounds}
use Rattle.model.specs.Sites.{Site}
use Rattle.model.specs.Plans.{Shares, load}
use Rattle.model.specs.Energy.{band_cycles, exact_energy, band_total, energy_figure}
use Rattle.model.specs.Schedules.{Slot, idles, runs, Schedule, horizon, slot_count, slot_powers}
use Rattle.model.specs.Planning.{plan_for}

-- "Idling is then the point (0, draw) in the test for working levels and in all energies": point 0 of all points, and of
-- the working ones.
abbrev pub IdlingIsAPoint : Type 0
IdlingIsAPoint =
    (idle_power : ℕ) (levels : List Level)
    → (point_at (points idle_power levels) 0 ≡ idling_point idle_power)
    × (point_at (working (points idle_power levels)) 0 ≡ idling_point idle_power)

-- Level number i is not dropped where idling draws so much.
abbrev pub Works : (idle_power : ℕ) → List Level → (i : ℕ) → Type 0
Works idle_power levels i = dropped (points idle_power levels) (suc i) ≡ false

-- A draw never drops a level that works without it, or with a lower one.
abbrev pub DrawKeepsLevels : Type 0
DrawKeepsLevels =
    (lower higher : ℕ) → lower ≤ higher → (levels : List Level) → RisingPoints (points higher levels)
    → (i : ℕ) → Works lower levels i → Works higher levels i

-- What the bands take of the energies, without what idling draws.
module _ (ws : List Point) (jobs : List Job) (bounds : List ℕ) (shares : Shares) where
  -- the sum over intervals and bands of cycles × price, multiplied out by all gaps
  unfoldable pub energy_of_bands : ℕ
  energy_of_bands =
      sum (interval_count bounds) (λ i. sum (band_count ws) (λ k. band_cycles ws (length_of bounds i) (load jobs shares i) k * price ws k))

  -- each band's total, rounded down
  unfoldable pub figure_of_bands : ℕ
  figure_of_bands = sum (band_count ws) (λ k. band_total ws jobs bounds shares k * rise ws k / gap ws k)

-- "The exact energy and the reported figure both gain draw × that length", the one "from earliest release to latest deadline".
abbrev pub EnergiesGainTheDraw : Type 0
EnergiesGainTheDraw =
    (idle_power : ℕ) (levels : List Level)
    → (jobs : List Job) (bounds : List ℕ) → Bounds jobs bounds → (shares : Shares)
    → let ws : List Point = working (points idle_power levels) in
    (exact_energy ws jobs bounds shares ≡ energy_of_bands ws jobs bounds shares + idle_power * horizon jobs * scale ws)
    × (energy_figure ws jobs bounds shares ≡ figure_of_bands ws jobs bounds shares + idle_power * horizon jobs)

-- 1 for a slot that idles.
abbrev pub idle_slot : Slot → ℕ
idle_slot idles = 1
idle_slot (runs level job) = 0

-- How many slots of a schedule idle.
unfoldable pub idle_slots : {levels : List Level} {jobs : List Job} → Schedule levels jobs → ℕ
idle_slots schedule = sum (slot_count schedule) (λ s. idle_slot (schedule.slot s))

-- "every schedule a plan is measured against pays for idle slots too": above what it would cost if idling were free, the draw
-- for each slot that idles.
abbrev pub SchedulesPayTheDraw : Type 0
SchedulesPayTheDraw =
    (idle_power : ℕ) (levels : List Level) (jobs : List Job) (schedule : Schedule levels jobs)
    → slot_powers idle_power schedule ≡ slot_powers 0 schedule + idle_power * idle_slots schedule

-- The site with another power of idling.
abbrev pub with_idle_power : ℕ → Site → Site
with_idle_power idle_power site =
    record { processor = record { idle_power = idle_power; levels = site.processor.levels }; jobs = site.jobs; bounds = site.bounds }

-- A draw does not bear on whether a plan comes out: 11 to 14, and the window of 11, are the same.
abbrev pub DrawMovesNoWindow : Type 0
DrawMovesNoWindow =
    (idle_power : ℕ) (site : Site) (plan_room price_room share_room : ℕ)
    → plan_for (with_idle_power idle_power site) plan_room price_room share_room ≡ plan_for site plan_room price_room share_room
