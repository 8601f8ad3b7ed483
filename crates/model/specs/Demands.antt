-- What demand 3 says of planning, part by part; the proofs are in proofs/Demands.antt. What stands in quotes are the
-- demand's own words. The demand as a whole is stated in the crate demands.
use Rattle.std.specs.Prelude.{ℕ, ◌-◌, ◌*◌, ◌<◌, ◌≤◌, ◌≡◌, ◌↔◌, List, length, ℤ, negsuc}
use Rattle.std.proofs.Math.Option.{none}
use Rattle.model.specs.declared.Parameters.{Parameters}
use Rattle.model.specs.Outcome.{answer}
use Rattle.model.specs.Jobs.{job_of}
use Rattle.model.specs.Processors.{top_of}
use Rattle.model.specs.Intervals.{interval_count}
use Rattle.model.specs.Sites.{Site, read_site, ValidSite}
use Rattle.model.specs.Windows.{cycles_inside, spare_of, earliest_overfull}
use Rattle.model.specs.Schedules.{Serves}
use Rattle.model.specs.LeastEnergy.{CarriedOut}
use Rattle.model.specs.Steps.{shares_of}
use Rattle.model.specs.PriceBytes.{prices_of}
use Rattle.model.specs.Checking.{check_for, figure_of}
use Rattle.model.specs.Accepted.{Accepted, ScheduleFor, LeastPlan}
use Rattle.model.specs.Planning.{PlanOutcome, refusal, overfull, comes_out, plan_length, price_length, share_count, plan_for, Planned}

-- "valid tables": none of planning's refusals before 11 holds, so that a site is read.
-- The site is the altered one, and all that is said of it.
abbrev pub ValidTables : (level_bytes job_bytes mark_bytes : List ℕ) → Parameters → Site → Type 0
ValidTables level_bytes job_bytes mark_bytes parameters site = read_site level_bytes job_bytes mark_bytes parameters ≡ answer site

-- "long enough buffers": none of 12 to 14 holds.
pub record LongEnough (site : Site) (plan_room price_room share_room : ℕ) : Type 0 where
  pub plan-room : plan_length site ≤ plan_room
  pub price-room : price_length site ≤ price_room
  pub share-room : share_count site ≤ share_room

-- "some schedule over the same levels meets all deadlines"
abbrev pub CanBeServed : Site → Type 0
CanBeServed site = (schedule : ScheduleFor site) × Serves schedule

-- "a window .., whose own jobs need more cycles than the top frequency gives there"
abbrev pub NeedsMore : Site → (start end : ℕ) → Type 0
NeedsMore site start end = (end - start) * top_of site.processor < cycles_inside site.jobs start end

-- The window that refusal 11 returns: from a release to a later deadline, the earliest such start and its earliest end,
-- with the spare, which is negative.
pub record EarliestWindow (site : Site) (start end : ℕ) (spare : ℤ) : Type 0 where
  pub release : (j : ℕ) × (j < length site.jobs) × ((job_of site.jobs j).release ≡ start)
  pub deadline : (k : ℕ) × (k < length site.jobs) × ((job_of site.jobs k).deadline ≡ end)
  pub later : start < end
  pub needs_more : NeedsMore site start end
  pub earliest-start : (j k : ℕ) → j < length site.jobs → k < length site.jobs
      → (job_of site.jobs j).release < (job_of site.jobs k).deadline
      → NeedsMore site (job_of site.jobs j).release (job_of site.jobs k).deadline → start ≤ (job_of site.jobs j).release
  pub earliest-end : (k : ℕ) → k < length site.jobs → start < (job_of site.jobs k).deadline
      → NeedsMore site start (job_of site.jobs k).deadline → end ≤ (job_of site.jobs k).deadline
  pub spare_is : spare ≡ spare_of (top_of site.processor) site.jobs start end
  pub negative : (n : ℕ) × (spare ≡ negsuc n)

-- With long enough buffers planning refuses no site: a plan comes out, or an overfull window does.
pub record Decided (site : Site) (outcome : PlanOutcome) : Type 0 where
  pub no_refusal : (number place : ℕ) → outcome ≡ refusal number place → ⊥
  pub plan_unless_overfull : (outcome ≡ comes_out) ↔ (earliest_overfull (top_of site.processor) site.jobs ≡ none)

abbrev pub LongEnoughDecides : Type 0
LongEnoughDecides =
    (site : Site) (plan_room price_room share_room : ℕ) → LongEnough site plan_room price_room share_room
    → Decided site (plan_for site plan_room price_room share_room)

-- "Where no plan comes out, a window does, whose own jobs need more cycles than the top frequency gives there, and then
-- no schedule meets all deadlines." The window is planning's outcome exactly when it is the earliest one, whatever the
-- buffers.
abbrev pub WindowComesOut : Type 0
WindowComesOut =
    (site : Site) → ValidSite site → (plan_room price_room share_room start end : ℕ) (spare : ℤ)
    → (plan_for site plan_room price_room share_room ≡ overfull start end spare) ↔ EarliestWindow site start end spare

abbrev pub WindowNeverServed : Type 0
WindowNeverServed =
    (site : Site) → ValidSite site → (start end : ℕ) → NeedsMore site start end → CanBeServed site → ⊥

-- "a plan comes out exactly when some schedule over the same levels meets all deadlines": when one does, planning
-- comes out. That it comes out only then is the plan's own schedule, in `BestPlan`.
abbrev pub ServedComesOut : Type 0
ServedComesOut =
    (site : Site) → ValidSite site → (plan_room price_room share_room : ℕ) → LongEnough site plan_room price_room share_room
    → CanBeServed site → plan_for site plan_room price_room share_room ≡ comes_out

-- "and by planning in document 01": the prices are, interval by interval, the smallest that the check accepts for the plan,
-- with whatever figure.
abbrev pub SmallestPrices : Site → (plan prices : List ℕ) → Type 0
SmallestPrices site plan prices =
    (others : List ℕ) (answered : ℕ) → check_for site plan others ≡ answer answered
    → (i : ℕ) → i < interval_count site.bounds → prices_of prices i ≤ prices_of others i

-- What holds of a plan that comes out.
pub record BestPlan (site : Site) (energy : ℕ) (plan prices : List ℕ) : Type 0 where
  -- "all cycles are placed and each interval is priced, by 2"
  pub placed_and_priced : Accepted site plan prices
  -- the energy figure is the one that document 01 defines
  pub figure : energy ≡ figure_of site plan
  -- "Every schedule over those levels that meets all deadlines, whatever whole number of slots it cuts a tick into, has
  -- at least the exact energy of the plan written."
  pub least : LeastPlan site plan energy
  -- the plan, carried out, is itself a schedule that meets all deadlines, of equal exact energy
  pub carried_out : CarriedOut site.processor.idle_power site.processor.levels site.jobs site.bounds (shares_of plan)
  pub smallest : SmallestPrices site plan prices

abbrev pub PlannedIsBest : Type 0
PlannedIsBest =
    (site : Site) → ValidSite site → (intervals steps energy : ℕ) (plan prices shares : List ℕ)
    → Planned site intervals steps energy plan prices shares → BestPlan site energy plan prices
