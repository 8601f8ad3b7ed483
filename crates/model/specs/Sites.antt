-- A site: what every operation works on once its tables were read and altered by its parameters. All that is stated after reading is stated over it.
use Rattle.std.specs.Prelude.{ℕ, ◌≤◌, ◌≡◌, ◌⊎◌, List, length}
use Rattle.model.specs.declared.Level.{Level}
use Rattle.model.specs.declared.Job.{Job}
use Rattle.model.specs.declared.Parameters.{Parameters}
use Rattle.model.specs.Limits.{max_bounds}
use Rattle.model.specs.Outcome.{Outcome, answer, and_then, From}
use Rattle.model.specs.LevelTables.{read_levels}
use Rattle.model.specs.Jobs.{ValidJobs, read_jobs}
use Rattle.model.specs.SiteParameters.{alter_levels, alter_jobs, as_given}
use Rattle.model.specs.Processors.{Processor, ValidProcessor, processor_of}
use Rattle.model.specs.Intervals.{Bounds}
use Rattle.model.specs.Marks.{read_marks, bounds_with}

-- A level table and a job table as they are given.
pub record Given : Type 0 where
  pub levels : List Level
  pub jobs : List Job

-- Reading both: levels, then jobs. Refusals 1 to 5, 31 and 32, and 6 to 10, each reading's in its own order, for every operation
-- that reads both.
unfoldable pub read_given : (level_bytes job_bytes : List ℕ) → Outcome Given
read_given level_bytes job_bytes =
    and_then (read_levels level_bytes) λ entries.
    and_then (read_jobs job_bytes) λ jobs.
    answer (record { levels = entries; jobs = jobs })

-- What a level table and a job table say: the processor and the jobs.
pub record Tables : Type 0 where
  pub processor : Processor
  pub jobs : List Job

abbrev pub tables_of : Given → Tables
tables_of given = record { processor = processor_of given.levels; jobs = given.jobs }

-- Both altered by the parameters: 35 for any of the three, then 36 by job.
unfoldable pub alter_tables : Parameters → Given → Outcome Tables
alter_tables parameters given =
    and_then (alter_levels parameters.highest given.levels) λ levels.
    and_then (alter_jobs parameters.free parameters.margin given.jobs) λ jobs.
    answer (tables_of (record { levels = levels; jobs = jobs }))

-- Levels and jobs as an operation without marks works on them.
unfoldable pub read_tables : (level_bytes job_bytes : List ℕ) → Parameters → Outcome Tables
read_tables level_bytes job_bytes parameters =
    and_then (read_given level_bytes job_bytes) λ given.
    alter_tables parameters given

-- The processor, the jobs, and the bounds that cut the time from earliest release to latest deadline into intervals.
pub record Site : Type 0 where
  pub processor : Processor
  pub jobs : List Job
  pub bounds : List ℕ

-- The site of tables that were read, with handover marks.
abbrev pub site_of : Tables → (marks : List ℕ) → Site
site_of tables marks = record { processor = tables.processor; jobs = tables.jobs; bounds = bounds_with marks tables.jobs }

-- Reading a site: levels, jobs, then marks, then the parameters. 34 comes "after the job table's own", and 35 "right after those of
-- levels, jobs and marks that are read". The bounds are those of the altered jobs.
unfoldable pub read_site : (level_bytes job_bytes mark_bytes : List ℕ) → Parameters → Outcome Site
read_site level_bytes job_bytes mark_bytes parameters =
    and_then (read_given level_bytes job_bytes) λ given.
    and_then (read_marks mark_bytes) λ marks.
    and_then (alter_tables parameters given) λ tables.
    answer (site_of tables marks)

-- The site of tables as they are given, where nothing is altered.
abbrev pub read_given_site : (level_bytes job_bytes mark_bytes : List ℕ) → Outcome Site
read_given_site level_bytes job_bytes mark_bytes =
    and_then (read_given level_bytes job_bytes) λ given.
    and_then (read_marks mark_bytes) λ marks.
    answer (site_of (tables_of given) marks)

-- The numbers that reading a level table and a job table refuses by, with marks, with parameters, and with both.
abbrev pub GivenNumbers : ℕ → Type 0
GivenNumbers n = From 1 10 n ⊎ From 31 32 n

abbrev pub GivenSiteNumbers : ℕ → Type 0
GivenSiteNumbers n = GivenNumbers n ⊎ From 34 34 n

abbrev pub TableNumbers : ℕ → Type 0
TableNumbers n = GivenNumbers n ⊎ From 35 36 n

abbrev pub SiteNumbers : ℕ → Type 0
SiteNumbers n = GivenNumbers n ⊎ From 34 36 n

-- What holds of every site that is read: the tables keep document 01's limits, and the bounds cut the time as the theory
-- asks.
pub record ValidSite (site : Site) : Type 0 where
  pub processor : ValidProcessor site.processor
  pub jobs : ValidJobs site.jobs
  pub bounds : Bounds site.jobs site.bounds
  pub few_bounds : length site.bounds ≤ max_bounds

-- Proved in proofs/Sites.antt.
abbrev pub SitesAreValid : Type 0
SitesAreValid =
    (level_bytes job_bytes mark_bytes : List ℕ) (parameters : Parameters) (site : Site)
    → read_site level_bytes job_bytes mark_bytes parameters ≡ answer site → ValidSite site

-- "The full count of running levels with 0 and 0 .. gives today's bytes": the site, or the refusal, is that of the tables as they are
-- given.
abbrev pub AsGivenAltersNothing : Type 0
AsGivenAltersNothing =
    (level_bytes job_bytes mark_bytes : List ℕ)
    → read_site level_bytes job_bytes mark_bytes (as_given level_bytes) ≡ read_given_site level_bytes job_bytes mark_bytes
