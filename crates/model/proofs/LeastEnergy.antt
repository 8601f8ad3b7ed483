-- The theorems of least energy, with nothing left to supply, and the sites that they hold of: those of valid tables.
-- Assumes nothing.
use mathlib.Core.List.{List}
use Prim.Native.Nat.{ℕ, ◌≤◌}
use native.Mathlib.Nat.{le_of_mul-le-mul_left}
use native.Mathlib.Omega.{arith}
use Rattle.model.specs.declared.Level.{Level}
use Rattle.model.specs.declared.Job.{Job}
use Rattle.model.specs.Levels.{ValidLevels}
use Rattle.model.specs.Jobs.{ValidJobs}
use Rattle.model.specs.Points.{points, working, top_frequency}
use Rattle.model.specs.Intervals.{Bounds}
use Rattle.model.specs.Plans.{Shares, Gives}
use Rattle.model.specs.Energy.{exact_energy}
use Rattle.model.specs.Prices.{PriceList, FittingPrices}
use Rattle.model.specs.LeastEnergy.{
  SoundSite,
  Certificate,
  OverfullNeverServed,
  PlansAreSchedules,
  FigureBelowExact,
  FittingIsBetween,
  LeastEnergyIsOne,
}
use Rattle.model.proofs.Points.{valid_points_rise}
use Rattle.model.proofs.Windows.{overfull_iff}
use Rattle.model.proofs.Fitting.{fits_between, between_fits}
use Rattle.model.proofs.Figure.{figure_near_exact}
use Rattle.model.proofs.Certificate.{least-energy}
use Rattle.model.proofs.Overfull.{own_cycles_fit}
use Rattle.model.proofs.PlansAreSchedules.{carried_out}

-- T3
pub certificate : Certificate
certificate idle_power levels jobs site bounds B shares gives prices fitting schedule serves =
    least-energy idle_power levels site.rising B gives fitting schedule serves

-- T4
pub overfull_never_served : OverfullNeverServed
overfull_never_served idle_power levels jobs site start end full schedule serves =
    omega (
      arith,
      own_cycles_fit idle_power levels jobs site.rising start end schedule serves,
      (overfull_iff (top_frequency levels) jobs start end).0 full,
    )

-- T5
pub plans_are_schedules : PlansAreSchedules
plans_are_schedules idle_power levels jobs site bounds B shares gives = carried_out idle_power levels jobs bounds shares site.rising B gives

-- T7
pub figure_below_exact : FigureBelowExact
figure_below_exact ws curve jobs bounds shares = figure_near_exact curve jobs bounds shares

-- rule 23
pub fitting_is_between : FittingIsBetween
fitting_is_between ws curve length load long fits k = (
  λ e. let found = fits_between curve length load fits k e in (found.band, found.low, found.high),
  λ h. between_fits curve length load long k (record { band = h.0; low = h.1; high = h.2 }),
)

-- a plan with fitting prices needs at most the energy of another plan, which is a schedule too, whatever its bounds
no_plan_needs_less : (idle_power : ℕ) (levels : List Level) (jobs : List Job) → SoundSite idle_power levels jobs
    → (bounds others : List ℕ) → Bounds jobs bounds → Bounds jobs others
    → (one two : Shares) → Gives (top_frequency levels) jobs bounds one → Gives (top_frequency levels) jobs others two
    → (prices : PriceList) → FittingPrices (working (points idle_power levels)) jobs bounds one prices
    → exact_energy (working (points idle_power levels)) jobs bounds one ≤ exact_energy (working (points idle_power levels)) jobs others two
no_plan_needs_less idle_power levels jobs site bounds others B O one two first second prices fitting =
    let other = plans_are_schedules idle_power levels jobs site others O two second in
    let least = certificate idle_power levels jobs site bounds B one first prices fitting other.schedule other.serves in
    le_of_mul-le-mul_left {k = other.schedule.q} (rw other.energy at least) other.schedule.q_low

pub least_energy_is_one : LeastEnergyIsOne
least_energy_is_one idle_power levels jobs site bounds others B O one two first second prices fitting other_prices fitting-too =
    omega (
      arith,
      no_plan_needs_less idle_power levels jobs site bounds others B O one two first second prices fitting,
      no_plan_needs_less idle_power levels jobs site others bounds O B two one second first other_prices fitting-too,
    )

-- valid tables make a site, idling without power
pub valid_site : (levels : List Level) (jobs : List Job) → ValidLevels levels → ValidJobs jobs → SoundSite 0 levels jobs
valid_site levels jobs valid sound = record { rising = valid_points_rise levels valid; ordered = sound.release_before_deadline }
