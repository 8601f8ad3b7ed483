-- Reading levels and jobs, and altering them: a refusal of either is that of both; and what arrays that hold them say.
-- Assumes nothing.
use mathlib.Core.Path.{◌≡◌}
use mathlib.Core.List.{List}
use Prim.Native.Nat.{ℕ}
use Rattle.model.specs.declared.Level.{Level}
use Rattle.model.specs.declared.Job.{Job}
use Rattle.model.specs.declared.Parameters.{Parameters}
use Rattle.model.specs.declared.refusal.Refusal.{Refusal}
use Rattle.model.specs.Outcome.{answer}
use Rattle.model.specs.LevelTables.{read_levels, ValidLevelTable}
use Rattle.model.specs.Jobs.{read_jobs}
use Rattle.model.specs.SiteParameters.{alter_levels, alter_jobs}
use Rattle.model.specs.Sites.{Given, read_given, tables_of, alter_tables}
use Rattle.model.proofs.Refusals.{RefusedBy, refused_then}
use Rattle.model.proofs.Sites.{given_are_valid}
use Rattle.level_tables.specs.Tables.{levels_in}
use Rattle.job_tables.specs.Tables.{jobs_in}
use Rattle.parameters.specs.AlteredArrays.{ValidArrays}
use Rattle.site.specs.declared.GivenTables.{GivenTables}
use Rattle.site.specs.SiteTables.{ValidGiven, HoldsGiven}

module _ (level_bytes job_bytes : List ℕ) where
  -- the levels are refused
  pub levels_refused : {own : Refusal} → RefusedBy (read_levels level_bytes) own → RefusedBy (read_given level_bytes job_bytes) own
  unfolding read_given
  levels_refused by = refused_then _ by

  module _ {entries : List Level} (levels_read : read_levels level_bytes ≡ answer entries) where
    -- the jobs are refused
    pub jobs_refused : {own : Refusal} → RefusedBy (read_jobs job_bytes) own → RefusedBy (read_given level_bytes job_bytes) own
    unfolding read_given
    jobs_refused by = rw levels_read (refused_then _ by)

    -- both are read
    pub both_read : {jobs : List Job} → read_jobs job_bytes ≡ answer jobs → read_given level_bytes job_bytes ≡ answer (record { levels = entries; jobs = jobs })
    unfolding read_given
    both_read jobs_read = rw (levels_read, jobs_read)

  -- tables that are read are valid
  pub given_valid : (given : Given) → read_given level_bytes job_bytes ≡ answer given → ValidGiven given
  given_valid given read =
      let (levels, jobs) = given_are_valid level_bytes job_bytes given read in
      record { levels = levels; jobs = jobs }

-- levels and jobs as they are given stand in tables and arrays
module _ {given : Given} (valid : ValidGiven given) {tables : GivenTables} {releases deadlines cycles : List ℕ}
    (holds : HoldsGiven given tables releases deadlines cycles) where
  pub given_levels : ValidLevelTable (levels_in tables.entries tables.frequencies tables.voltages)
  given_levels = rw holds.levels_are valid.levels

  pub given_jobs : ValidArrays tables.jobs releases deadlines cycles
  given_jobs = record { valid = rw holds.jobs_are valid.jobs; deadlines_past = holds.deadlines_past; cycles_past = holds.cycles_past }

  abbrev levels : List Level
  levels = levels_in tables.entries tables.frequencies tables.voltages

  abbrev jobs : List Job
  jobs = jobs_in tables.jobs releases deadlines cycles

  module _ (parameters : Parameters) where
    -- the highest level is refused
    pub highest_refused : {own : Refusal} → RefusedBy (alter_levels parameters.highest levels) own → RefusedBy (alter_tables parameters given) own
    unfolding alter_tables
    highest_refused by = rw (← holds.levels_are) (refused_then _ by)

    module _ {kept : List Level} (levels_altered : alter_levels parameters.highest levels ≡ answer kept) where
      -- the other two numbers or a job are
      pub altering_refused : {own : Refusal} → RefusedBy (alter_jobs parameters.free parameters.margin jobs) own → RefusedBy (alter_tables parameters given) own
      unfolding alter_tables
      altering_refused by = rw (← holds.levels_are, ← holds.jobs_are, levels_altered) (refused_then _ by)

      -- both are altered
      pub both_altered : {altered : List Job} → alter_jobs parameters.free parameters.margin jobs ≡ answer altered
          → alter_tables parameters given ≡ answer (tables_of (record { levels = kept; jobs = altered }))
      unfolding alter_tables
      both_altered jobs_altered = rw (← holds.levels_are, ← holds.jobs_are, levels_altered, jobs_altered)
