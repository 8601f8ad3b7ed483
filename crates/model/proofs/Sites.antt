-- What holds of every site that is read, and what the theory and the operations take from it.
-- Assumes nothing.
use mathlib.Core.Path.{◌≡◌, refl, sym}
use mathlib.Core.List.{List}
use Prim.Native.Nat.{ℕ}
use native.Mathlib.Omega.{arith}
use Rattle.model.specs.declared.Level.{Level}
use Rattle.model.specs.declared.Job.{Job}
use Rattle.model.specs.declared.Parameters.{Parameters}
use Rattle.model.specs.Outcome.{Outcome, refused, answer, and_then}
use Rattle.model.specs.LevelTables.{read_levels, ValidLevelTable}
use Rattle.model.specs.Jobs.{ValidJobs, read_jobs}
use Rattle.model.specs.SiteParameters.{alter_levels, alter_jobs, running_count, as_given}
use Rattle.model.specs.Processors.{Processor, ValidProcessor, processor_of, processor_up_to, read_processor}
use Rattle.model.specs.Marks.{read_marks, ValidMarks}
use Rattle.model.specs.Sites.{Given, read_given, Tables, tables_of, alter_tables, read_tables, Site, site_of, read_site, ValidSite}
use Rattle.model.specs.Sites.{SitesAreValid, AsGivenAltersNothing}
use Rattle.model.specs.LeastEnergy.{SoundSite}
use Rattle.model.proofs.Outcome.{answer_injective, and_then_answered}
use Rattle.model.proofs.LevelTables.{levels_valid}
use Rattle.model.proofs.Jobs.{jobs_valid}
use Rattle.model.proofs.SiteParameters.{altered_are_valid, full_count_alters_nothing}
use Rattle.model.proofs.Points.{points_rise}
use Rattle.model.proofs.Marks.{marks_valid}
use Rattle.model.proofs.MarkedBounds.{bounds-with, length_bounds_with}

-- a valid level table makes a valid processor
pub valid_processor : (entries : List Level) → ValidLevelTable entries → ValidProcessor (processor_of entries)
valid_processor entries valid = record { levels = valid.running; rising = points_rise _ _ valid.running valid.draw_low }

pub processors_are_valid : (level_bytes : List ℕ) (highest : ℕ) (processor : Processor) → read_processor level_bytes highest ≡ answer processor
    → ValidProcessor processor
processors_are_valid level_bytes highest processor e =
    let (entries, read, e) = and_then_answered (read_levels level_bytes) _ e in
    let (levels, altered, e) = and_then_answered (alter_levels highest entries) _ e in
    rw (sym (answer_injective e)) (valid_processor levels (altered_are_valid.0 highest entries levels (levels_valid level_bytes entries read) altered))

-- a valid processor, valid jobs and valid marks make a valid site
pub valid_site_of : (tables : Tables) (marks : List ℕ) → ValidProcessor tables.processor → ValidJobs tables.jobs → ValidMarks marks
    → ValidSite (site_of tables marks)
valid_site_of tables marks valid sound rising =
    record {
      processor = valid;
      jobs = sound;
      bounds = bounds-with marks tables.jobs sound.release_before_deadline;
      few_bounds = omega (arith, length_bounds_with marks tables.jobs, sound.few, rising.few);
    }

-- valid tables make a valid site
pub valid_tables : (entries : List Level) (jobs : List Job) (marks : List ℕ) → ValidLevelTable entries → ValidJobs jobs → ValidMarks marks
    → ValidSite (site_of (tables_of (record { levels = entries; jobs = jobs })) marks)
valid_tables entries jobs marks valid sound rising = valid_site_of _ marks (valid_processor entries valid) sound rising

-- a level table and a job table that are read are valid
pub given_are_valid : (level_bytes job_bytes : List ℕ) (given : Given) → read_given level_bytes job_bytes ≡ answer given
    → ValidLevelTable given.levels × ValidJobs given.jobs
unfolding read_given
given_are_valid level_bytes job_bytes given e =
    let (entries, levels_read, e) = and_then_answered (read_levels level_bytes) _ e in
    let (jobs, jobs_read, e) = and_then_answered (read_jobs job_bytes) _ e in
    rw (sym (answer_injective e)) (levels_valid level_bytes entries levels_read, jobs_valid job_bytes jobs jobs_read)

-- and so they are where they were altered
pub altered_tables_valid : (parameters : Parameters) (given : Given) → ValidLevelTable given.levels → ValidJobs given.jobs
    → (tables : Tables) → alter_tables parameters given ≡ answer tables → ValidProcessor tables.processor × ValidJobs tables.jobs
unfolding alter_tables
altered_tables_valid parameters given valid sound tables e =
    let (levels, levels_altered, e) = and_then_answered (alter_levels parameters.highest given.levels) _ e in
    let (jobs, jobs_altered, e) = and_then_answered (alter_jobs parameters.free parameters.margin given.jobs) _ e in
    rw (sym (answer_injective e)) (
      valid_processor levels (altered_are_valid.0 parameters.highest given.levels levels valid levels_altered),
      altered_are_valid.1 parameters.free parameters.margin given.jobs jobs sound jobs_altered,
    )

pub tables_are_valid : (level_bytes job_bytes : List ℕ) (parameters : Parameters) (tables : Tables) → read_tables level_bytes job_bytes parameters ≡ answer tables
    → ValidProcessor tables.processor × ValidJobs tables.jobs
unfolding read_tables
tables_are_valid level_bytes job_bytes parameters tables e =
    let (given, given_read, e) = and_then_answered (read_given level_bytes job_bytes) _ e in
    let (valid, sound) = given_are_valid level_bytes job_bytes given given_read in
    altered_tables_valid parameters given valid sound tables e

pub sites_are_valid : SitesAreValid
unfolding read_site
sites_are_valid level_bytes job_bytes mark_bytes parameters site e =
    let (given, given_read, e) = and_then_answered (read_given level_bytes job_bytes) _ e in
    let (marks, marks_read, e) = and_then_answered (read_marks mark_bytes) _ e in
    let (tables, altered, e) = and_then_answered (alter_tables parameters given) _ e in
    let (valid, sound) = given_are_valid level_bytes job_bytes given given_read in
    let (processor, jobs) = altered_tables_valid parameters given valid sound tables altered in
    rw (sym (answer_injective e)) (valid_site_of tables marks processor jobs (marks_valid mark_bytes marks marks_read))

-- tables that are read are not altered by the full count of running levels with 0 and 0
read_kept : (level_bytes job_bytes : List ℕ) (given : Given) → read_levels level_bytes ≡ answer given.levels → read_jobs job_bytes ≡ answer given.jobs
    → alter_tables (as_given level_bytes) given ≡ answer (tables_of given)
unfolding alter_tables as_given
read_kept level_bytes job_bytes given levels_read jobs_read =
    rw (
      levels_read,
      full_count_alters_nothing.0 given.levels (levels_valid level_bytes given.levels levels_read),
      full_count_alters_nothing.1 given.jobs (jobs_valid job_bytes given.jobs jobs_read),
    )

given_kept : (level_bytes job_bytes : List ℕ) (given : Given) → read_given level_bytes job_bytes ≡ answer given
    → alter_tables (as_given level_bytes) given ≡ answer (tables_of given)
unfolding read_given
given_kept level_bytes job_bytes given e =
    let (entries, levels_read, e) = and_then_answered (read_levels level_bytes) _ e in
    let (jobs, jobs_read, e) = and_then_answered (read_jobs job_bytes) _ e in
    rw (sym (answer_injective e)) (read_kept level_bytes job_bytes (record { levels = entries; jobs = jobs }) levels_read jobs_read)

pub as_given_processor : (level_bytes : List ℕ)
    → read_processor level_bytes (as_given level_bytes).highest ≡ (and_then (read_levels level_bytes) λ entries. answer (processor_of entries))
unfolding as_given
as_given_processor level_bytes = go (read_levels level_bytes) (levels_valid level_bytes)
  where
    go : (outcome : Outcome (List Level)) → ((entries : List Level) → outcome ≡ answer entries → ValidLevelTable entries)
        → and_then outcome (processor_up_to (running_count outcome)) ≡ (and_then outcome λ entries. answer (processor_of entries))
    go (refused number place) valid = refl
    go (answer entries) valid = rw (full_count_alters_nothing.0 entries (valid entries refl))

pub as_given_tables : (level_bytes job_bytes : List ℕ)
    → read_tables level_bytes job_bytes (as_given level_bytes) ≡ (and_then (read_given level_bytes job_bytes) λ given. answer (tables_of given))
unfolding read_tables
as_given_tables level_bytes job_bytes = go (read_given level_bytes job_bytes) (given_kept level_bytes job_bytes)
  where
    go : (outcome : Outcome Given) → ((given : Given) → outcome ≡ answer given → alter_tables (as_given level_bytes) given ≡ answer (tables_of given))
        → and_then outcome (alter_tables (as_given level_bytes)) ≡ and_then outcome (λ given. answer (tables_of given))
    go (refused number place) kept = refl
    go (answer given) kept = kept given refl

pub as_given_alters_nothing : AsGivenAltersNothing
unfolding read_site
as_given_alters_nothing level_bytes job_bytes mark_bytes = go (read_given level_bytes job_bytes) (read_marks mark_bytes) (given_kept level_bytes job_bytes)
  where
    go : (outcome : Outcome Given) (ticks : Outcome (List ℕ))
        → ((given : Given) → outcome ≡ answer given → alter_tables (as_given level_bytes) given ≡ answer (tables_of given))
        → and_then outcome (λ given. and_then ticks (λ marks. and_then (alter_tables (as_given level_bytes) given) (λ tables. answer (site_of tables marks))))
        ≡ and_then outcome (λ given. and_then ticks (λ marks. answer (site_of (tables_of given) marks)))
    go (refused number place) ticks kept = refl
    go (answer given) (refused number place) kept = refl
    go (answer given) (answer marks) kept = rw (kept given refl)

-- a valid site is one that the theory asks for
pub sound_site : {site : Site} → ValidSite site → SoundSite site.processor.idle_power site.processor.levels site.jobs
sound_site valid = record { rising = valid.processor.rising; ordered = valid.jobs.release_before_deadline }
