-- The hypotheses of the theorems shut nothing out. What a theorem asks of tables, sites, bounds and schedules is a record;
-- here each is built from document 01's own words, for every table, site, list of bounds and schedule that they fit, so that
-- no further condition can stand in it. Proved in proofs/Hypotheses.antt.
use Rattle.std.specs.Prelude.{ℕ, suc, ◌+◌, ◌-◌, ◌*◌, ◌<◌, ◌≤◌, min, ◌≡◌, ◌⊎◌, List, ◌∷◌, length}
use Rattle.model.specs.declared.Level.{Level}
use Rattle.model.specs.declared.Job.{Job}
use Rattle.model.specs.declared.Parameters.{Parameters}
use Rattle.model.specs.Outcome.{answer}
use Rattle.model.specs.Levels.{level_of, ValidLevels}
use Rattle.model.specs.Jobs.{job_of, read_jobs, ValidJobs}
use Rattle.model.specs.Points.{power_of}
use Rattle.model.specs.LevelTables.{idle_entry, read_levels, ValidLevelTable, DrawFits}
use Rattle.model.specs.SiteParameters.{alter_levels, alter_jobs, as_given}
use Rattle.model.specs.Intervals.{interval_count, bound_at, earliest_release, latest_deadline, open_pairs, Bounds}
use Rattle.model.specs.Marks.{mark_of, read_marks, ValidMarks, bounds_with}
use Rattle.model.specs.Sites.{Site, tables_of, site_of, ValidSite, SitesAreValid}
use Rattle.model.specs.Schedules.{Slot, idles, runs, horizon, Schedule}
use Rattle.model.specs.LeastEnergy.{SoundSite}
use Rattle.model.specs.Demands.{ValidTables, LongEnough}

-- "1 to 8 levels, frequencies 1 to 1,000 and strictly rising, voltages 1 to 500 and never falling": all such levels are valid.
abbrev pub EveryLevels : Type 0
EveryLevels =
    (levels : List Level) → 1 ≤ length levels → length levels ≤ 8
    → ((i : ℕ) → i < length levels → (1 ≤ (level_of levels i).frequency) × ((level_of levels i).frequency ≤ 1_000))
    → ((i : ℕ) → suc i < length levels → (level_of levels i).frequency < (level_of levels (suc i)).frequency)
    → ((i : ℕ) → i < length levels → (1 ≤ (level_of levels i).voltage) × ((level_of levels i).voltage ≤ 500))
    → ((i : ℕ) → suc i < length levels → (level_of levels i).voltage ≤ (level_of levels (suc i)).voltage)
    → ValidLevels levels

-- Valid levels are a valid table by themselves and, where they are 7 at most, after an idle entry whose draw, in thousands of
-- power units, is any number of 16 bits below the first one's power.
abbrev pub EveryLevelTable : Type 0
EveryLevelTable =
    ((levels : List Level) → ValidLevels levels → ValidLevelTable levels × DrawFits levels)
    × ((draw : ℕ) (levels : List Level) → ValidLevels levels → length levels ≤ 7 → draw ≤ 65_535 → 1_000 * draw < power_of (level_of levels 0)
    → ValidLevelTable (idle_entry draw ∷ levels) × DrawFits (idle_entry draw ∷ levels))

-- "0 to 64 jobs, deadlines up to 1,000,000, cycles 1 to 1,000,000,000", each release before its deadline: all such jobs
-- are valid.
abbrev pub EveryJobTable : Type 0
EveryJobTable =
    (jobs : List Job) → length jobs ≤ 64
    → ((j : ℕ) → j < length jobs → ((job_of jobs j).release < (job_of jobs j).deadline) × ((job_of jobs j).deadline ≤ 1_000_000))
    → ((j : ℕ) → j < length jobs → (1 ≤ (job_of jobs j).cycles) × ((job_of jobs j).cycles ≤ 1_000_000_000))
    → ValidJobs jobs

-- "Up to 8 strictly rising ticks": all such marks are valid.
abbrev pub EveryMarkTable : Type 0
EveryMarkTable =
    (marks : List ℕ) → length marks ≤ 8 → ((i : ℕ) → suc i < length marks → mark_of marks i < mark_of marks (suc i)) → ValidMarks marks

-- Every table that is read is valid.
abbrev pub EveryTableRead : Type 0
EveryTableRead =
    ((bytes : List ℕ) (entries : List Level) → read_levels bytes ≡ answer entries → ValidLevelTable entries)
    × ((bytes : List ℕ) (jobs : List Job) → read_jobs bytes ≡ answer jobs → ValidJobs jobs)
    × ((bytes marks : List ℕ) → read_marks bytes ≡ answer marks → ValidMarks marks)

-- Levels, at least one and of any number, whose frequencies rise from above 0 and whose powers rise from above idling's, and
-- jobs of any number, each released before its deadline, are a site of the theory.
abbrev pub EverySite : Type 0
EverySite =
    (idle_power : ℕ) (levels : List Level) (jobs : List Job)
    → 1 ≤ length levels → 0 < (level_of levels 0).frequency → idle_power < power_of (level_of levels 0)
    → ((i : ℕ) → suc i < length levels → (level_of levels i).frequency < (level_of levels (suc i)).frequency)
    → ((i : ℕ) → suc i < length levels → power_of (level_of levels i) < power_of (level_of levels (suc i)))
    → ((j : ℕ) → j < length jobs → (job_of jobs j).release < (job_of jobs j).deadline)
    → SoundSite idle_power levels jobs

-- Valid levels are such a site where idling draws nothing, as in document 01, and where it draws anything below the first
-- level's power.
abbrev pub EveryValidSite : Type 0
EveryValidSite =
    (levels : List Level) (jobs : List Job) → ValidLevels levels → ValidJobs jobs
    → SoundSite 0 levels jobs × ((idle_power : ℕ) → idle_power < power_of (level_of levels 0) → SoundSite idle_power levels jobs)

-- Times that rise strictly, have every release and deadline among them, and go from the earliest release to the latest
-- deadline, are bounds of the theory, whatever other times stand between.
abbrev pub EveryBounds : Type 0
EveryBounds =
    (jobs : List Job) (bounds : List ℕ)
    → ((i : ℕ) → suc i < length bounds → bound_at bounds i < bound_at bounds (suc i))
    → ((j : ℕ) → j < length jobs → (i : ℕ) × (i < length bounds) × (bound_at bounds i ≡ (job_of jobs j).release))
    → ((j : ℕ) → j < length jobs → (i : ℕ) × (i < length bounds) × (bound_at bounds i ≡ (job_of jobs j).deadline))
    → bound_at bounds 0 ≡ earliest_release jobs → bound_at bounds (interval_count bounds) ≡ latest_deadline jobs
    → Bounds jobs bounds

-- The releases and deadlines of every valid job table, with any marks, sorted and without repeats, are.
abbrev pub EveryTableHasBounds : Type 0
EveryTableHasBounds = (jobs : List Job) → ValidJobs jobs → (marks : List ℕ) → Bounds jobs (bounds_with marks jobs)

-- "A schedule has a whole q ≥ 1 and cuts each tick, from earliest release to latest deadline, into q slots. A slot idles or
-- has one given level (dropped or not) and one job." Every such q with every such slots is a schedule of the theory.
abbrev pub EverySchedule : Type 0
EverySchedule =
    (levels : List Level) (jobs : List Job) (q : ℕ) → 1 ≤ q → (slot : ℕ → Slot)
    → ((s : ℕ) → s < q * horizon jobs
    → (slot s ≡ idles) ⊎ ((level job : ℕ) × (level < length levels) × (job < length jobs) × (slot s ≡ runs level job)))
    → (schedule : Schedule levels jobs) × (schedule.q ≡ q) × (schedule.slot ≡ slot)

-- Every site that is read is valid, and valid tables make one.
abbrev pub EverySiteRead : Type 0
EverySiteRead =
    SitesAreValid
    × ((entries : List Level) (jobs : List Job) (marks : List ℕ) → ValidLevelTable entries → ValidJobs jobs → ValidMarks marks
    → ValidSite (site_of (tables_of (record { levels = entries; jobs = jobs })) marks))

-- "valid tables": wherever levels, jobs and marks are read and the parameters alter levels and jobs, their bytes are valid tables of
-- the site that the altered ones make. `LevelsAltered` and `JobsAltered` say when the parameters do.
abbrev pub EveryValidTable : Type 0
EveryValidTable =
    (level_bytes job_bytes mark_bytes : List ℕ) (parameters : Parameters) (entries levels : List Level) (jobs altered : List Job) (marks : List ℕ)
    → read_levels level_bytes ≡ answer entries → read_jobs job_bytes ≡ answer jobs → read_marks mark_bytes ≡ answer marks
    → alter_levels parameters.highest entries ≡ answer levels → alter_jobs parameters.free parameters.margin jobs ≡ answer altered
    → ValidTables level_bytes job_bytes mark_bytes parameters (site_of (tables_of (record { levels = levels; jobs = altered })) marks)

-- And so are those of every level table, job table and marks that are read, with the parameters that alter nothing.
abbrev pub EveryGivenTable : Type 0
EveryGivenTable =
    (level_bytes job_bytes mark_bytes : List ℕ) (entries : List Level) (jobs : List Job) (marks : List ℕ)
    → read_levels level_bytes ≡ answer entries → read_jobs job_bytes ≡ answer jobs → read_marks mark_bytes ≡ answer marks
    → ValidTables level_bytes job_bytes mark_bytes (as_given level_bytes) (site_of (tables_of (record { levels = entries; jobs = jobs })) marks)

-- "Buffers [are] long enough when none of 12 to 14" holds: 4 + 6 × the smaller of jobs + intervals − 1 and K bytes, 2 + 5N bytes and
-- n × N shares are enough.
abbrev pub EveryBuffer : Type 0
EveryBuffer =
    (site : Site) (plan_room price_room share_room : ℕ)
    → 4 + 6 * min (length site.jobs + interval_count site.bounds - 1) (open_pairs site.bounds site.jobs) ≤ plan_room
    → 2 + 5 * interval_count site.bounds ≤ price_room → length site.jobs * interval_count site.bounds ≤ share_room
    → LongEnough site plan_room price_room share_room
