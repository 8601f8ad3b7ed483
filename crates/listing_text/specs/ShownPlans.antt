-- Plans as the functions of this crate find them: in arrays, and in the bytes that planning wrote.
use Rattle.std.specs.Prelude.{ℕ, suc, ◌+◌, ◌-◌, ◌*◌, ◌<◌, ◌≤◌, ◌≡◌, List, length, get_or, take}
use Rattle.model.specs.declared.Parameters.{Parameters}
use Rattle.model.specs.Limits.{max_jobs, max_intervals, max_deadline}
use Rattle.model.specs.Outcome.{answer}
use Rattle.model.specs.Sum.{sum}
use Rattle.model.specs.Bands.{Curve}
use Rattle.model.specs.Sites.{Site, read_site}
use Rattle.model.specs.Plans.{shares_in}
use Rattle.model.specs.Prices.{PriceList}
use Rattle.model.specs.Planning.{Planned}
use Rattle.levels.specs.declared.points.PointTable.{PointTable}
use Rattle.levels.specs.PointTables.{points_of, SmallPoints}
use Rattle.settings.specs.Settings.{Fits}

-- Bounds in an array.
abbrev pub bounds_in : List ℕ → ℕ → ℕ
bounds_in times i = get_or times i 0

-- The prices in the bytes of a price list of so many intervals.
abbrev pub prices_in : (intervals : ℕ) → List ℕ → PriceList
prices_in intervals prices i = get_or prices (2 + 4 * intervals + i) 0

-- A plan in arrays whose lines can be written: the arrays are long enough, and the load of every interval fits.
pub record ShownPlan (working : PointTable) (jobs intervals : ℕ) (times prices shares : List ℕ) : Type 0 where
  pub small : SmallPoints working
  pub curve : Curve (points_of working)
  pub few_jobs : jobs ≤ max_jobs
  pub few_intervals : intervals ≤ max_intervals
  pub price-room : 2 + 5 * intervals ≤ length prices
  pub share-room : intervals * jobs ≤ length shares
  pub rises : (i : ℕ) → i < intervals → bounds_in times i < bounds_in times (suc i)
  pub within : (i : ℕ) → i < intervals → bounds_in times (suc i) ≤ max_deadline
  pub fits : (i : ℕ) → i < intervals → Fits (points_of working) (bounds_in times (suc i) - bounds_in times i) (sum jobs (shares_in jobs shares i))

-- A plan for the site that was read stands at the start of the prices and the shares.
pub record ListedPlan (level_bytes job_bytes mark_bytes : List ℕ) (parameters : Parameters) (intervals steps energy : ℕ) (prices shares : List ℕ) : Type 0 where
  pub site : Site
  pub site_read : read_site level_bytes job_bytes mark_bytes parameters ≡ answer site
  pub plan : List ℕ
  pub planned : Planned site intervals steps energy plan (take (2 + 5 * intervals) prices) (take (length site.jobs * intervals) shares)
