-- What the arrays and numbers of levels and jobs, and of a site, that were read keep: jobs and working points, within the limits.
-- Assumes nothing.
use mathlib.Core.Path.{◌≡◌, sym}
use mathlib.Core.List.{List}
use Prim.Native.Nat.{ℕ, ◌-◌, ◌<◌, ◌≤◌}
use native.Mathlib.Omega.{arith}
use lib.ListN.{length, get_or, take}
use Rattle.model.specs.Limits.{max_frequency, max_jobs}
use Rattle.model.specs.Jobs.{ValidJobs}
use Rattle.model.specs.Bands.{band_count, frequency_of, Curve}
use Rattle.model.specs.Processors.{Processor, ValidProcessor, all_points, working_of, top_of}
use Rattle.model.specs.Sites.{Tables, Site, ValidSite}
use Rattle.model.proofs.Working.{working_curve, working_top}
use Rattle.job_tables.specs.Tables.{jobs_in}
use Rattle.job_tables.proofs.Read.{length_jobs_in, jobs_count, sound_in}
use Rattle.levels.specs.PointTables.{points_of, SmallPoints}
use Rattle.levels.proofs.SmallPoints.{working_small, working_held}
use Rattle.intervals.specs.Times.{SmallBounds}
use Rattle.intervals.proofs.OpenRanges.{bounds_small, bounds_held}
use Rattle.site.specs.declared.TablePair.{TablePair}
use Rattle.site.specs.declared.SiteTable.{SiteTable}
use Rattle.site.specs.SiteTables.{HoldsTables, HoldsSite}

top_high : (processor : Processor) → ValidProcessor processor → top_of processor ≤ max_frequency
top_high processor valid =
    let last : length processor.levels - 1 < length processor.levels = omega (arith, valid.levels.some) in
    valid.levels.frequency_high (length processor.levels - 1) last

-- levels and jobs
module _ {tables : Tables} {pair : TablePair} {releases deadlines cycles : List ℕ} (holds : HoldsTables tables pair releases deadlines cycles) where
  pub pair_jobs : ValidJobs tables.jobs → ValidJobs (jobs_in pair.jobs releases deadlines cycles)
  pair_jobs valid = rw holds.jobs_are valid

  pub pair_count : ValidJobs tables.jobs → pair.jobs ≤ max_jobs
  pair_count valid = jobs_count pair.jobs releases deadlines cycles (pair_jobs valid)

  -- each release stands before its deadline
  pub pair_ordered : ValidJobs tables.jobs → (j : ℕ) → j < pair.jobs → get_or releases j 0 < get_or deadlines j 0
  pair_ordered valid j below = (sound_in pair.jobs releases deadlines cycles (pair_jobs valid) j below).release_before_deadline

  pub pair_top : ValidProcessor tables.processor → pair.top ≤ max_frequency
  pair_top valid = rw holds.top_is (top_high tables.processor valid)

-- a site
module _ {site : Site} {table : SiteTable} {releases deadlines cycles times : List ℕ}
    (valid : ValidSite site) (holds : HoldsSite site table releases deadlines cycles times) where
  -- the jobs
  pub held_jobs : ValidJobs (jobs_in table.jobs releases deadlines cycles)
  held_jobs = rw holds.jobs_are valid.jobs

  pub held_jobs_counted : table.jobs ≡ length site.jobs
  held_jobs_counted = rw (← holds.jobs_are) (sym (length_jobs_in table.jobs releases deadlines cycles))

  pub held_count : table.jobs ≤ max_jobs
  held_count = jobs_count table.jobs releases deadlines cycles held_jobs

  -- the working points
  pub held_points : points_of table.working ≡ working_of site.processor
  held_points = rw holds.working_are (working_held site.processor valid.processor)

  pub held_small : SmallPoints table.working
  held_small = rw holds.working_are (working_small site.processor valid.processor)

  pub held_curve : Curve (points_of table.working)
  held_curve = rw held_points (working_curve (all_points site.processor) valid.processor.rising)

  -- the top frequency, which is that of the last working point
  pub held_top : table.top ≤ max_frequency
  held_top = rw holds.top_is (top_high site.processor valid.processor)

  pub held_top_point : frequency_of (points_of table.working) (band_count (points_of table.working)) ≡ table.top
  held_top_point = rw (held_points, holds.top_is) (working_top site.processor.idle_power site.processor.levels valid.processor.rising)

  -- the bounds
  pub held_bounds : take table.bounds times ≡ site.bounds
  held_bounds = bounds_held valid.bounds valid.jobs valid.few_bounds holds.bounds_are

  pub held_bounds_small : SmallBounds table.bounds times
  held_bounds_small = bounds_small valid.bounds valid.jobs valid.few_bounds holds.bounds_are
