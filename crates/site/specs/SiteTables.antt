-- A site in plain arrays, and what reading one answers.
use Rattle.std.specs.Prelude.{ℕ, ◌≡◌, List, Result}
use Rattle.model.specs.declared.refusal.Refusal.{Refusal}
use Rattle.model.specs.Outcome.{Outcome}
use Rattle.model.specs.Refusals.{Returns}
use Rattle.model.specs.LevelTables.{ValidLevelTable}
use Rattle.model.specs.Jobs.{ValidJobs}
use Rattle.model.specs.Processors.{working_of, top_of}
use Rattle.model.specs.Sites.{Given, Tables, Site, ValidSite}
use Rattle.level_tables.specs.Tables.{levels_in}
use Rattle.job_tables.specs.Tables.{jobs_in}
use Rattle.parameters.specs.AlteredArrays.{ZerosPast}
use Rattle.levels.specs.PointTables.{point_table}
use Rattle.intervals.specs.Times.{HoldsTimes}
use Rattle.site.specs.declared.GivenTables.{GivenTables}
use Rattle.site.specs.declared.TablePair.{TablePair}
use Rattle.site.specs.declared.SiteTable.{SiteTable}

-- What holds of every level table and job table that are read.
pub record ValidGiven (given : Given) : Type 0 where
  pub levels : ValidLevelTable given.levels
  pub jobs : ValidJobs given.jobs

-- Tables and three arrays hold levels and jobs as they are given, zeros past the last job's deadline and its cycles.
pub record HoldsGiven (given : Given) (tables : GivenTables) (releases deadlines cycles : List ℕ) : Type 0 where
  pub levels_are : levels_in tables.entries tables.frequencies tables.voltages ≡ given.levels
  pub jobs_are : jobs_in tables.jobs releases deadlines cycles ≡ given.jobs
  pub deadlines_past : ZerosPast tables.jobs deadlines
  pub cycles_past : ZerosPast tables.jobs cycles

-- What reading levels and jobs as they are given returns: the refusal or, where both are read, tables that with the arrays hold them.
abbrev pub GivenRead : Outcome Given → Result GivenTables Refusal → (releases deadlines cycles : List ℕ) → Type 0
GivenRead outcome result releases deadlines cycles = Returns (λ given tables. HoldsGiven given tables releases deadlines cycles) outcome result

-- A pair of tables and three arrays hold what levels and jobs say: the working points and the top frequency of the processor, and
-- the jobs with zeros past the last one's cycles.
pub record HoldsTables (tables : Tables) (pair : TablePair) (releases deadlines cycles : List ℕ) : Type 0 where
  pub working_are : pair.working ≡ point_table (working_of tables.processor)
  pub top_is : pair.top ≡ top_of tables.processor
  pub jobs_are : jobs_in pair.jobs releases deadlines cycles ≡ tables.jobs
  pub zeros_past : ZerosPast pair.jobs cycles

-- What altering levels and jobs, or reading and altering them, returns: the refusal or, where both are read, a pair that with the arrays
-- holds them.
abbrev pub TablesRead : Outcome Tables → Result TablePair Refusal → (releases deadlines cycles : List ℕ) → Type 0
TablesRead outcome result releases deadlines cycles = Returns (λ tables pair. HoldsTables tables pair releases deadlines cycles) outcome result

-- A table and four arrays hold a site: the working points and the top frequency of its processor, its jobs with zeros past
-- the last one's cycles, and its bounds.
pub record HoldsSite (site : Site) (table : SiteTable) (releases deadlines cycles times : List ℕ) : Type 0 where
  pub working_are : table.working ≡ point_table (working_of site.processor)
  pub top_is : table.top ≡ top_of site.processor
  pub jobs_are : jobs_in table.jobs releases deadlines cycles ≡ site.jobs
  pub zeros_past : ZerosPast table.jobs cycles
  pub bounds_are : HoldsTimes times table.bounds site.bounds

-- What reading a site returns: the refusal or, where it is read, a table that with the arrays holds it.
abbrev pub SiteRead : Outcome Site → Result SiteTable Refusal → (releases deadlines cycles times : List ℕ) → Type 0
SiteRead outcome result releases deadlines cycles times = Returns (λ site table. HoldsSite site table releases deadlines cycles times) outcome result

-- They hold some valid site: what a function that works on a site that was read asks. What it promises holds of each.
abbrev pub HoldsSome : SiteTable → (releases deadlines cycles times : List ℕ) → Type 0
HoldsSome table releases deadlines cycles times = (site : Site) × ValidSite site × HoldsSite site table releases deadlines cycles times
