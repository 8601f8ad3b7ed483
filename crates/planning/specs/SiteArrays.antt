-- A site that was read, in the arrays that planning works on.
use Rattle.std.specs.Prelude.{ℕ, ◌<◌, ◌≡◌, List, length, get_or}
use Rattle.model.specs.Limits.{max_jobs}
use Rattle.model.specs.Jobs.{job_of}
use Rattle.model.specs.Processors.{working_of}
use Rattle.model.specs.Intervals.{OpenRange}
use Rattle.model.specs.Sites.{Site, ValidSite}
use Rattle.reading.specs.Column.{column_of}
use Rattle.levels.specs.PointTables.{point_table}
use Rattle.intervals.specs.Times.{HoldsTimes}
use Rattle.intervals.specs.OpenSets.{HoldsOpen}
use Rattle.site.specs.declared.SiteTable.{SiteTable}

-- A valid site stands in a table and arrays: the working points of its processor; the cycles of its jobs, zeros past the last;
-- its bounds; for each job the numbers of the bounds between which it is open; and for each interval the set of the jobs open there.
pub record InArrays (site : Site) (table : SiteTable) (cycles times first last sets : List ℕ) : Type 0 where
  pub valid : ValidSite site
  pub working_are : table.working ≡ point_table (working_of site.processor)
  pub jobs_counted : table.jobs ≡ length site.jobs
  pub cycles_are : cycles ≡ column_of max_jobs table.jobs (λ j. (job_of site.jobs j).cycles)
  pub bounds_are : HoldsTimes times table.bounds site.bounds
  pub ranges : (j : ℕ) → j < length site.jobs → OpenRange site.jobs site.bounds j (get_or first j 0) (get_or last j 0)
  pub open_are : HoldsOpen site.jobs site.bounds sets
