-- What the check accepts, without going through its refusals (demand 2), and what acceptance means (demand 3).
-- The statements are proved in proofs/Accepted.antt.
use Rattle.std.specs.Prelude.{ℕ, suc, ◌+◌, ◌*◌, ◌<◌, ◌≤◌, ◌≡◌, true, ◌↔◌, List, length}
use Rattle.model.specs.declared.Job.{Job}
use Rattle.model.specs.Outcome.{answer}
use Rattle.model.specs.Jobs.{job_of}
use Rattle.model.specs.Bands.{band_count, scale}
use Rattle.model.specs.Processors.{working_of, top_of}
use Rattle.model.specs.Intervals.{interval_count, bound_at, is_open}
use Rattle.model.specs.Sites.{Site, ValidSite}
use Rattle.model.specs.Plans.{Gives}
use Rattle.model.specs.Energy.{exact_energy}
use Rattle.model.specs.Prices.{FittingPrices}
use Rattle.model.specs.Schedules.{Schedule, Serves, slot_powers}
use Rattle.model.specs.Steps.{plan_intervals, step_count, cell_at, step_at, shares_of}
use Rattle.model.specs.PriceBytes.{price_intervals, end_at, prices_of}
use Rattle.model.specs.Checking.{check_for, figure_of}

-- The bytes are a plan for the jobs over the bounds: every step gives an open pair some cycles, and no pair has two steps.
pub record IsPlan (jobs : List Job) (bounds : List ℕ) (plan : List ℕ) : Type 0 where
  pub size : length plan ≡ 4 + 6 * step_count plan
  pub intervals : plan_intervals plan ≡ interval_count bounds
  pub step_interval : (s : ℕ) → s < step_count plan → (step_at plan s).interval < interval_count bounds
  pub step_job : (s : ℕ) → s < step_count plan → (step_at plan s).job < length jobs
  pub step_open : (s : ℕ) → s < step_count plan → is_open bounds (job_of jobs (step_at plan s).job) (step_at plan s).interval ≡ true
  pub step_some : (s : ℕ) → s < step_count plan → 1 ≤ (step_at plan s).cycles
  pub cells_differ : (r s : ℕ) → r < s → s < step_count plan → cell_at plan r ≡ cell_at plan s → ⊥

-- The bytes are a price list over the bounds.
pub record IsPriceList (bounds : List ℕ) (prices : List ℕ) : Type 0 where
  pub size : length prices ≡ 2 + 5 * interval_count bounds
  pub intervals : price_intervals prices ≡ interval_count bounds
  pub ends : (i : ℕ) → i < interval_count bounds → end_at prices i ≡ bound_at bounds (suc i)

-- The plan gives each job exactly its cycles between release and deadline, and the prices fit.
pub record Accepted (site : Site) (plan prices : List ℕ) : Type 0 where
  pub is-plan : IsPlan site.jobs site.bounds plan
  pub gives : Gives (top_of site.processor) site.jobs site.bounds (shares_of plan)
  pub is_price_list : IsPriceList site.bounds prices
  pub fitting : FittingPrices (working_of site.processor) site.jobs site.bounds (shares_of plan) (prices_of prices)

-- T8. Whatever the site: the check accepts with a figure exactly when the plan is such a plan, the prices fit, and the
-- figure is the plan's.
abbrev pub CheckAccepts : Type 0
CheckAccepts =
    (site : Site) (plan prices : List ℕ) (figure : ℕ)
    → (check_for site plan prices ≡ answer figure) ↔ (Accepted site plan prices × (figure ≡ figure_of site plan))

-- A schedule over the levels of a site, for its jobs; and its energy multiplied by q, what idling draws with it.
abbrev pub ScheduleFor : Site → Type 0
ScheduleFor site = Schedule site.processor.levels site.jobs

abbrev pub powers_for : (site : Site) → ScheduleFor site → ℕ
powers_for site schedule = slot_powers site.processor.idle_power schedule

-- The exact energy of a plan, multiplied out by all gaps of the site's bands.
abbrev pub exact_for : Site → (plan : List ℕ) → ℕ
exact_for site plan = exact_energy (working_of site.processor) site.jobs site.bounds (shares_of plan)

abbrev pub gaps_of : Site → ℕ
gaps_of site = scale (working_of site.processor)

-- Accepted means that no schedule over the levels that meets all deadlines, for any q, has less than the plan's exact
-- energy, and that the figure answered is at most the exact energy and less than m below it.
pub record LeastPlan (site : Site) (plan : List ℕ) (figure : ℕ) : Type 0 where
  pub least : (schedule : ScheduleFor site) → Serves schedule
      → schedule.q * exact_for site plan ≤ gaps_of site * powers_for site schedule
  pub figure_low : gaps_of site * figure ≤ exact_for site plan
  pub figure_high : exact_for site plan < gaps_of site * (figure + band_count (working_of site.processor))

abbrev pub AcceptedIsLeast : Type 0
AcceptedIsLeast =
    (site : Site) → ValidSite site
    → (plan prices : List ℕ) (figure : ℕ) → check_for site plan prices ≡ answer figure
    → LeastPlan site plan figure
