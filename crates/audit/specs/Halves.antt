-- What the first half of the check answers, and what it leaves for the second, over plain arrays.
use Rattle.std.specs.Prelude.{ℕ, ◌≤◌, ◌≡◌, List, length, Result, IsOk}
use Rattle.model.specs.declared.refusal.Refusal.{Refusal}
use Rattle.model.specs.Limits.{max_jobs}
use Rattle.model.specs.Bands.{Curve}
use Rattle.model.specs.Processors.{working_of}
use Rattle.model.specs.Sites.{Site, ValidSite}
use Rattle.model.specs.Checking.{fits_for}
use Rattle.levels.specs.PointTables.{points_of, SmallPoints}
use Rattle.intervals.specs.Times.{SmallBounds}
use Rattle.site.specs.declared.SiteTable.{SiteTable}
use Rattle.site.specs.SiteTables.{HoldsSite}
use Rattle.job_records.specs.SetsHave.{SetsHave}
use Rattle.fitting.specs.SeenCells.{CellsSeen}
use Rattle.job_records.specs.TestedJobs.{open_below}
use Rattle.fitting.specs.FirstHalf.{site_in}
use Rattle.pricing.specs.SecondHalf.{Planned}
use Rattle.audit.specs.Answers.{fits_answer}

-- A site with a plan that fits it, in what the first half leaves: the site's working points, the times of its bounds, the open sets
-- of its intervals, and the loads that the plan makes there.
pub record FittedSite (site : Site) (plan : List ℕ) (table : SiteTable) (times sets loads : List ℕ) : Type 0 where
  pub points : working_of site.processor ≡ points_of table.working
  pub small-points : SmallPoints table.working
  pub curve : Curve (points_of table.working)
  pub small-bounds : SmallBounds table.bounds times
  pub few_jobs : table.jobs ≤ max_jobs
  pub counted : length site.jobs ≡ table.jobs
  pub same_site : site_in site.processor site.jobs times table.bounds ≡ site
  pub opened : SetsHave sets (open_below site.jobs table.jobs times table.bounds)
  pub planned : Planned table.jobs table.bounds plan loads

-- What the first half answers for each valid site that stands in the arrays and, where the plan fits, leaves.
pub record SiteAnswered (table : SiteTable) (releases deadlines cycles times plan : List ℕ) (answered : Result ℕ Refusal) (sets loads cells : List ℕ) : Type 0 where
  pub judged : (site : Site) → ValidSite site → HoldsSite site table releases deadlines cycles times → answered ≡ fits_answer (fits_for site plan)
  pub left : IsOk answered
      → (site : Site) → ValidSite site → HoldsSite site table releases deadlines cycles times → FittedSite site plan table times sets loads
  pub seen : IsOk answered → CellsSeen plan cells
