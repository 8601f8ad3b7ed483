-- The theorems of least energy, as statements; their proofs are in proofs/. They hold for job lists, bounds and level
-- tables of any size, and for any power of idling below that of the lowest level.
use Rattle.std.specs.Prelude.{ℕ, suc, ◌+◌, ◌*◌, ◌<◌, ◌≤◌, ◌≡◌, true, ◌&&◌, ◌↔◌, List, length}
use Rattle.model.specs.declared.Level.{Level}
use Rattle.model.specs.declared.Job.{Job}
use Rattle.model.specs.Jobs.{job_of}
use Rattle.model.specs.Points.{Point, points, working, top_frequency, RisingPoints}
use Rattle.model.specs.Bands.{band_count, frequency_of, scale, Curve}
use Rattle.model.specs.Intervals.{Bounds}
use Rattle.model.specs.Windows.{is_overfull}
use Rattle.model.specs.Plans.{Shares, Gives}
use Rattle.model.specs.Energy.{exact_energy, energy_figure}
use Rattle.model.specs.Prices.{PriceList, FittingPrices, is_band_number, fits_load}
use Rattle.model.specs.Schedules.{Schedule, horizon, Serves, slot_powers}
use Rattle.model.specs.CarriedOut.{slots_per_tick, slot_of}

-- What the theory asks of a site, whatever its size: levels that rise in frequency and power above idling, and jobs
-- released before their deadlines.
pub record SoundSite (idle_power : ℕ) (levels : List Level) (jobs : List Job) : Type 0 where
  pub rising : RisingPoints (points idle_power levels)
  pub ordered : (j : ℕ) → j < length jobs → (job_of jobs j).release < (job_of jobs j).deadline

-- T3, the certificate. A plan with fitting prices has an exact energy that no schedule which meets all deadlines beats,
-- whatever whole number q of slots it cuts a tick into. Both sides are multiplied out by all gaps and by q.
abbrev pub Certificate : Type 0
Certificate =
    (idle_power : ℕ) (levels : List Level) (jobs : List Job) → SoundSite idle_power levels jobs
    → (bounds : List ℕ) → Bounds jobs bounds
    → (shares : Shares) → Gives (top_frequency levels) jobs bounds shares
    → (prices : PriceList) → FittingPrices (working (points idle_power levels)) jobs bounds shares prices
    → (schedule : Schedule levels jobs) → Serves schedule
    → schedule.q * exact_energy (working (points idle_power levels)) jobs bounds shares
    ≤ scale (working (points idle_power levels)) * slot_powers idle_power schedule

-- T4. Where a window is overfull, no schedule meets all deadlines.
abbrev pub OverfullNeverServed : Type 0
OverfullNeverServed =
    (idle_power : ℕ) (levels : List Level) (jobs : List Job) → SoundSite idle_power levels jobs
    → (start end : ℕ) → is_overfull (top_frequency levels) jobs start end ≡ true
    → (schedule : Schedule levels jobs) → Serves schedule → ⊥

-- T5. A plan, carried out as under Load, is itself a schedule that meets all deadlines, of equal exact energy, with q the
-- product of the frequencies of levels 1 to m and all gaps.
pub record CarriedOut (idle_power : ℕ) (levels : List Level) (jobs : List Job) (bounds : List ℕ) (shares : Shares) : Type 0 where
  pub schedule : Schedule levels jobs
  pub slots-per-tick : schedule.q ≡ slots_per_tick (working (points idle_power levels))
  pub slots : (s : ℕ) → s < schedule.q * horizon jobs → schedule.slot s ≡ slot_of idle_power levels jobs bounds shares s
  pub serves : Serves schedule
  pub energy : scale (working (points idle_power levels)) * slot_powers idle_power schedule
      ≡ schedule.q * exact_energy (working (points idle_power levels)) jobs bounds shares

abbrev pub PlansAreSchedules : Type 0
PlansAreSchedules =
    (idle_power : ℕ) (levels : List Level) (jobs : List Job) → SoundSite idle_power levels jobs
    → (bounds : List ℕ) → Bounds jobs bounds
    → (shares : Shares) → Gives (top_frequency levels) jobs bounds shares
    → CarriedOut idle_power levels jobs bounds shares

-- T7. The reported figure is at most the exact energy and less than m below it.
abbrev pub FigureBelowExact : Type 0
FigureBelowExact =
    (ws : List Point) → Curve ws → (jobs : List Job) (bounds : List ℕ) (shares : Shares)
    → (scale ws * energy_figure ws jobs bounds shares ≤ exact_energy ws jobs bounds shares)
    × (exact_energy ws jobs bounds shares < scale ws * (energy_figure ws jobs bounds shares + band_count ws))

-- Rule 23 is a sandwich: a band number fits a load exactly when the load lies between the ends of that band.
abbrev pub FittingIsBetween : Type 0
FittingIsBetween =
    (ws : List Point) → Curve ws → (length load : ℕ) → 1 ≤ length → load ≤ length * frequency_of ws (band_count ws) → (k : ℕ)
    → ((is_band_number ws (suc k) && fits_load ws length load (suc k)) ≡ true)
    ↔ ((k < band_count ws) × (length * frequency_of ws k ≤ load) × (load ≤ length * frequency_of ws (suc k)))

-- Two plans for one set of tables that both have fitting prices have equal exact energy, whatever bounds each of them is cut by:
-- the least exact energy is one, with any marks and with none.
abbrev pub LeastEnergyIsOne : Type 0
LeastEnergyIsOne =
    (idle_power : ℕ) (levels : List Level) (jobs : List Job) → SoundSite idle_power levels jobs
    → (bounds others : List ℕ) → Bounds jobs bounds → Bounds jobs others
    → (one two : Shares) → Gives (top_frequency levels) jobs bounds one → Gives (top_frequency levels) jobs others two
    → (prices : PriceList) → FittingPrices (working (points idle_power levels)) jobs bounds one prices
    → (other_prices : PriceList) → FittingPrices (working (points idle_power levels)) jobs others two other_prices
    → exact_energy (working (points idle_power levels)) jobs bounds one ≡ exact_energy (working (points idle_power levels)) jobs others two
