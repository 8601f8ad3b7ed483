-- Site parameters, over the tables in bytes and the calls themselves. Document 02, Change 9: "Three numbers come with each site: the highest
-- running level allowed (1 to the number of running ones in the table), ticks kept free before each deadline, and a margin of 0 to 100
-- percent on cycles, rounded up per job. Every operation that works from a level or job table, the two readings apart, takes those of the
-- three that bear on its tables and works on the tables so altered, as do demands 2 and 3 and every comparison with other schedules; the
-- working frequencies of Change 7 are those of the altered tables. In demand 3 the check is given the same three, and the two plans that
-- Change 3 compares share them. The full count of running levels with 0 and 0, which the listing always uses, gives today's bytes. Errors:
-- 35 a parameter out of range (free ticks above 1,000,000), right after those of levels, jobs and marks that are read; then 36 by job, an
-- emptied window or cycles above 1,000,000,000." That demands 2 and 3, Change 3 and Change 7 speak of the altered tables is said in
-- ThreeDemands, OneSpelling and ManyBoards. Proved in proofs/SiteParameters.antt.
use Rattle.std.specs.Prelude.{ℕ, ◌<◌, ◌≤◌, ◌≡◌, ◌↔◌, ◌⊎◌, List, length}
use Rattle.model.specs.declared.Level.{Level}
use Rattle.model.specs.declared.Job.{Job}
use Rattle.model.specs.declared.Parameters.{Parameters}
use Rattle.model.specs.Outcome.{refused, answer, and_then, refuse_when, refuse_under}
use Rattle.model.specs.Bytes.{IsBytes}
use Rattle.model.specs.LevelTables.{running_levels, read_levels, encode_levels}
use Rattle.model.specs.Jobs.{job_of, read_jobs, encode_jobs}
use Rattle.model.specs.Marks.{read_marks, bounds_with}
use Rattle.model.specs.SiteParameters.{alter_levels, altered_job, alter_jobs, as_given, LevelsAltered, JobsAltered, AlteredAreValid}
use Rattle.model.specs.Processors.{processor_of, read_processor}
use Rattle.model.specs.Setting.{setting_for, setting}
use Rattle.model.specs.Sites.{read_given, tables_of, Site, read_site, read_given_site}
use Rattle.model.specs.Windows.{wrong_span, spare_for, spare}
use Rattle.model.specs.Checking.{fits_for, fits, check_for, check}
use Rattle.model.specs.Planning.{after_reading, plan_for, planning}
use Rattle.model.specs.Demands.{ValidTables}
use Rattle.planning.specs.MadePlans.{Buffers}
use Rattle.planning.specs.PlanAnswers.{PlanAnswer, PlanContract}
use Rattle.job_rooms.specs.SetOutcomes.{after_tables}
use Rattle.nearest.specs.Nearest.{nearest_for, nearest}
use Rattle.ordering.specs.OrderedPlan.{ordered_plan}
use Rattle.ordering.specs.Ordering.{order}
use Rattle.touching.specs.Touching.{Lists, touching_for, touching}
use Rattle.demands.specs.HandoverMarks.{SiteRefused}

-- Level and job table are altered by the parameters, and come out as these.
pub record AlteredTo (level_bytes job_bytes : List ℕ) (parameters : Parameters) (levels : List Level) (jobs : List Job) : Type 0 where
  pub entries : List Level
  pub given : List Job
  pub levels_read : read_levels level_bytes ≡ answer entries
  pub jobs_read : read_jobs job_bytes ≡ answer given
  pub levels_altered : alter_levels parameters.highest entries ≡ answer levels
  pub jobs_altered : alter_jobs parameters.free parameters.margin given ≡ answer jobs

-- "works on the tables so altered": every operation answers and writes what it does when it is lent the altered tables, in bytes, with the
-- full count of running levels, 0 and 0.
pub record WorksOnAltered (level_bytes job_bytes : List ℕ) (parameters : Parameters) (levels : List Level) (jobs : List Job) : Type 0 where
  pub sites : (marks : List ℕ)
      → read_site level_bytes job_bytes marks parameters ≡ read_site (encode_levels levels) (encode_jobs jobs) marks (as_given (encode_levels levels))
  -- with it the working levels
  pub processors : read_processor level_bytes parameters.highest ≡ read_processor (encode_levels levels) (as_given (encode_levels levels)).highest
  pub settings : (length load : ℕ)
      → setting level_bytes parameters.highest length load ≡ setting (encode_levels levels) (as_given (encode_levels levels)).highest length load
  pub spares : (start end : ℕ)
      → spare level_bytes job_bytes parameters start end ≡ spare (encode_levels levels) (encode_jobs jobs) (as_given (encode_levels levels)) start end
  pub nearests : (room : ℕ)
      → nearest level_bytes job_bytes parameters room ≡ nearest (encode_levels levels) (encode_jobs jobs) (as_given (encode_levels levels)) room
  pub fitting : (marks plan : List ℕ)
      → fits level_bytes job_bytes marks parameters plan ≡ fits (encode_levels levels) (encode_jobs jobs) marks (as_given (encode_levels levels)) plan
  pub checks : (marks plan prices : List ℕ)
      → check level_bytes job_bytes marks parameters plan prices ≡ check (encode_levels levels) (encode_jobs jobs) marks (as_given (encode_levels levels)) plan prices
  pub orders : (marks plan prices : List ℕ) (room : ℕ)
      → order level_bytes job_bytes marks parameters plan prices room
      ≡ order (encode_levels levels) (encode_jobs jobs) marks (as_given (encode_levels levels)) plan prices room
  pub touches : (marks plan : List ℕ) (start end : ℕ) (before : Lists)
      → touching job_bytes marks parameters.free parameters.margin plan start end before ≡ touching (encode_jobs jobs) marks 0 0 plan start end before
  pub plans : (marks : List ℕ) (before after : Buffers) (answered : PlanAnswer)
      → PlanContract level_bytes job_bytes marks parameters before after answered
      ↔ PlanContract (encode_levels levels) (encode_jobs jobs) marks (as_given (encode_levels levels)) before after answered

-- "The full count of running levels with 0 and 0 .. gives today's bytes": each operation is what it was before there were parameters, with
-- the site of the tables as they are given.
pub record AsBefore (levels jobs marks : List ℕ) : Type 0 where
  pub sites : read_site levels jobs marks (as_given levels) ≡ read_given_site levels jobs marks
  pub processors : read_processor levels (as_given levels).highest
      ≡ (and_then (read_levels levels) λ entries.
      answer (processor_of entries))
  pub settings : (length load : ℕ) → setting levels (as_given levels).highest length load
      ≡ (and_then (read_levels levels) λ entries.
      setting_for (processor_of entries) length load)
  pub spares : (start end : ℕ) → spare levels jobs (as_given levels) start end
      ≡ (and_then (read_given levels jobs) λ given.
      spare_for (tables_of given) start end)
  pub nearests : (room : ℕ) → nearest levels jobs (as_given levels) room
      ≡ (after_tables (and_then (read_given levels jobs) λ given. answer (tables_of given)) λ tables.
      nearest_for tables room)
  pub fitting : (plan : List ℕ) → fits levels jobs marks (as_given levels) plan
      ≡ (and_then (read_given_site levels jobs marks) λ site.
      fits_for site plan)
  pub checks : (plan prices : List ℕ) → check levels jobs marks (as_given levels) plan prices
      ≡ (and_then (read_given_site levels jobs marks) λ site.
      check_for site plan prices)
  pub orders : (plan prices : List ℕ) (room : ℕ) → order levels jobs marks (as_given levels) plan prices room
      ≡ (and_then (read_given_site levels jobs marks) λ site.
      and_then (check_for site plan prices) λ figure.
      refuse_under (length plan) 12 room
      (answer (ordered_plan plan)))
  pub touches : (plan : List ℕ) (start end : ℕ) (before : Lists) → touching jobs marks 0 0 plan start end before
      ≡ refuse_when (wrong_span start end) 33
      (and_then (read_jobs jobs) λ given.
      and_then (read_marks marks) λ ticks.
      touching_for given (bounds_with ticks given) plan start end before)
  pub plans : (plan_room price_room share_room : ℕ) → planning levels jobs marks (as_given levels) plan_room price_room share_room
      ≡ (after_reading (read_given_site levels jobs marks) λ site.
      plan_for site plan_room price_room share_room)

-- "35 a parameter out of range"
abbrev pub OutOfRange : Parameters → (entries : List Level) → Type 0
OutOfRange parameters entries =
    ((parameters.highest < 1) ⊎ (length (running_levels entries) < parameters.highest)) ⊎ ((1_000_000 < parameters.free) ⊎ (100 < parameters.margin))

-- "36 .. an emptied window or cycles above 1,000,000,000", of a job as it is altered
abbrev pub CannotBeAltered : (free margin : ℕ) → Job → Type 0
CannotBeAltered free margin job =
    ((altered_job free margin job).deadline ≤ job.release) ⊎ (1_000_000_000 < (altered_job free margin job).cycles)

-- "by job": the first of them.
pub record FirstOf (jobs : List Job) (free margin : ℕ) (place : ℕ) : Type 0 where
  pub is_job : place < length jobs
  pub cannot : CannotBeAltered free margin (job_of jobs place)
  pub earlier_can : (j : ℕ) → j < place → CannotBeAltered free margin (job_of jobs j) → ⊥

pub record SiteParameters : Type 0 where
  -- "the highest running level allowed (1 to the number of running ones in the table)": exactly with such a number a level table is
  -- altered, and then it has the same idle entry and the first running levels, so many
  pub levels : LevelsAltered
  -- "ticks kept free before each deadline, and a margin of 0 to 100 percent on cycles, rounded up per job": exactly where both numbers are in
  -- range and no window is emptied and no job has too many cycles, and then each job is altered so
  pub jobs : JobsAltered
  -- what comes out is a valid table
  pub altered_are_valid : AlteredAreValid
  -- "Every operation that works from a level or job table .. works on the tables so altered"
  pub works_on_altered : (level_bytes job_bytes : List ℕ) → IsBytes level_bytes → (parameters : Parameters) (levels : List Level) (jobs : List Job)
      → AlteredTo level_bytes job_bytes parameters levels jobs → WorksOnAltered level_bytes job_bytes parameters levels jobs
  -- "The full count of running levels with 0 and 0 .. gives today's bytes"
  pub as_before : (levels jobs marks : List ℕ) → AsBefore levels jobs marks
  -- "right after those of levels, jobs and marks that are read": these are refused as they were, whatever the parameters
  pub tables_first : (levels jobs marks : List ℕ) (parameters : Parameters) (number place : ℕ)
      → read_given_site levels jobs marks ≡ refused number place → read_site levels jobs marks parameters ≡ refused number place
  -- "35 a parameter out of range", with no place, and before any job is looked at
  pub then_35 : (levels jobs marks : List ℕ) (parameters : Parameters) (entries : List Level) (given : List Job) (ticks : List ℕ)
      → read_levels levels ≡ answer entries → read_jobs jobs ≡ answer given → read_marks marks ≡ answer ticks
      → OutOfRange parameters entries → SiteRefused levels jobs marks parameters 35 0
  -- "then 36 by job"
  pub then_36 : (levels jobs marks : List ℕ) (parameters : Parameters) (entries : List Level) (given : List Job) (ticks : List ℕ)
      → read_levels levels ≡ answer entries → read_jobs jobs ≡ answer given → read_marks marks ≡ answer ticks
      → (OutOfRange parameters entries → ⊥) → (place : ℕ) → FirstOf given parameters.free parameters.margin place
      → SiteRefused levels jobs marks parameters 36 place
  -- a plan that is accepted with parameters is accepted with others, for the same tables, only where both make the same cycles of each job:
  -- one made for a margin is not one for the tables as they are given
  pub not_with_others : (levels jobs marks : List ℕ) (one two : Parameters) (site other : Site)
      → ValidTables levels jobs marks one site → ValidTables levels jobs marks two other
      → (plan prices other_prices : List ℕ) (figure other_figure : ℕ)
      → check levels jobs marks one plan prices ≡ answer figure → check levels jobs marks two plan other_prices ≡ answer other_figure
      → (j : ℕ) → j < length site.jobs → (job_of site.jobs j).cycles ≡ (job_of other.jobs j).cycles
