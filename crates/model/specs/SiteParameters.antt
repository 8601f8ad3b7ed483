-- Site parameters (document 02, Change 9): "Three numbers come with each site: the highest running level allowed .., ticks kept free
-- before each deadline, and a margin .. on cycles". Each table is read first and altered after, so that what follows works on altered
-- tables alone. The laws at the end are proved in proofs/SiteParameters.antt.
use Rattle.std.specs.Prelude.{ℕ, ◌+◌, ◌-◌, ◌*◌, ◌/◌, ◌<◌, ◌≤◌, ◌≡◌, Bool, not, cond, ◌||◌, ◌&&◌, ◌↔◌, List, map, length, take, ltb, leb}
use Rattle.model.specs.declared.Level.{Level}
use Rattle.model.specs.declared.Job.{Job}
use Rattle.model.specs.declared.Parameters.{Parameters}
use Rattle.model.specs.Limits.{max_cycles, max_free, max_margin}
use Rattle.model.specs.Outcome.{Outcome, refused, answer, refuse_when, by_entry}
use Rattle.model.specs.LevelTables.{idle_entries, idle_power_of, running_levels, read_levels, ValidLevelTable}
use Rattle.model.specs.Jobs.{job_of, ValidJobs}

-- 35: the highest running level allowed is not "1 to the number of running ones in the table".
abbrev pub wrong_highest : List Level → (highest : ℕ) → Bool
wrong_highest entries highest = not (leb 1 highest && leb highest (length (running_levels entries)))

-- The level table up to the highest running level allowed. The idle entry stays, and is not counted.
abbrev pub levels_up_to : (highest : ℕ) → List Level → List Level
levels_up_to highest entries = take (idle_entries entries + highest) entries

unfoldable pub alter_levels : (highest : ℕ) → List Level → Outcome (List Level)
alter_levels highest entries =
    refuse_when (wrong_highest entries highest) 35
    (answer (levels_up_to highest entries))

-- 35: "free ticks above 1,000,000", or a margin that is not "0 to 100 percent".
abbrev pub wrong_free : (free : ℕ) → Bool
wrong_free free = ltb max_free free

abbrev pub wrong_margin : (margin : ℕ) → Bool
wrong_margin margin = ltb max_margin margin

-- The margin on so many cycles, in cycles, "rounded up".
unfoldable pub margin_on : (margin cycles : ℕ) → ℕ
margin_on margin cycles = (margin * cycles + 99) / 100

-- One job with its ticks kept free and its margin. The release stays. Where more ticks are kept free than the deadline has, it is 0.
unfoldable pub altered_job : (free margin : ℕ) → Job → Job
altered_job free margin job = record {
  release = job.release;
  deadline = job.deadline - free;
  cycles = job.cycles + margin_on margin job.cycles;
}

-- 36, of a job as it is altered: "an emptied window or cycles above 1,000,000,000".
abbrev pub is_emptied : Job → Bool
is_emptied job = leb job.deadline job.release

abbrev pub has_too_many_cycles : Job → Bool
has_too_many_cycles job = ltb max_cycles job.cycles

unfoldable pub altered_fault : (altered : Job) → ℕ
altered_fault altered = cond (is_emptied altered || has_too_many_cycles altered) 36 0

-- 35, "then 36 by job".
unfoldable pub alter_jobs : (free margin : ℕ) → List Job → Outcome (List Job)
alter_jobs free margin jobs =
    let altered : List Job = map (altered_job free margin) jobs in
    refuse_when (wrong_free free || wrong_margin margin) 35
    (by_entry (length jobs) (λ j. altered_fault (job_of altered j))
    (answer altered))

-- "The full count of running levels with 0 and 0": the parameters that leave tables as they are given. A level table that is refused
-- has no running levels; it is refused before any parameter is looked at.
abbrev pub running_count : Outcome (List Level) → ℕ
running_count (refused number place) = 0
running_count (answer entries) = length (running_levels entries)

unfoldable pub as_given : (level_bytes : List ℕ) → Parameters
as_given level_bytes = record { highest = running_count (read_levels level_bytes); free = 0; margin = 0 }

-- A level table is altered exactly where the number is in range. What comes out has the same idle entry and the first running levels, as
-- many as are allowed.
pub record AlteredLevels (highest : ℕ) (entries levels : List Level) : Type 0 where
  pub highest_low : 1 ≤ highest
  pub highest_high : highest ≤ length (running_levels entries)
  pub same_idling : idle_power_of levels ≡ idle_power_of entries
  pub first_running : running_levels levels ≡ take highest (running_levels entries)
  pub entries_are : levels ≡ levels_up_to highest entries

abbrev pub LevelsAltered : Type 0
LevelsAltered = (highest : ℕ) (entries levels : List Level) → (alter_levels highest entries ≡ answer levels) ↔ AlteredLevels highest entries levels

-- One altered job beside the one that is given. "rounded up": the margin's cycles are the least whole number that is not below
-- margin × cycles / 100.
pub record AlteredJob (free margin : ℕ) (given altered : Job) : Type 0 where
  pub same_release : altered.release ≡ given.release
  pub deadline_earlier : altered.deadline + free ≡ given.deadline
  pub margin_whole : 100 * given.cycles + margin * given.cycles ≤ 100 * altered.cycles
  pub margin_least : 100 * altered.cycles < 100 * given.cycles + margin * given.cycles + 100
  -- none of 36
  pub window_left : altered.release < altered.deadline
  pub cycles_high : altered.cycles ≤ max_cycles

-- A job table is altered exactly where both numbers are in range and every job can be altered so.
pub record AlteredJobs (free margin : ℕ) (jobs altered : List Job) : Type 0 where
  pub free_high : free ≤ max_free
  pub margin_high : margin ≤ max_margin
  pub as_many : length altered ≡ length jobs
  pub each : (j : ℕ) → j < length jobs → AlteredJob free margin (job_of jobs j) (job_of altered j)

abbrev pub JobsAltered : Type 0
JobsAltered =
    (free margin : ℕ) (jobs altered : List Job)
    → (alter_jobs free margin jobs ≡ answer altered) ↔ AlteredJobs free margin jobs altered

-- "an altered table that is not refused is a valid one"
abbrev pub AlteredAreValid : Type 0
AlteredAreValid =
    ((highest : ℕ) (entries levels : List Level) → ValidLevelTable entries → alter_levels highest entries ≡ answer levels → ValidLevelTable levels)
    × ((free margin : ℕ) (jobs altered : List Job) → ValidJobs jobs → alter_jobs free margin jobs ≡ answer altered → ValidJobs altered)

-- "The full count of running levels with 0 and 0" alters nothing.
abbrev pub FullCountAltersNothing : Type 0
FullCountAltersNothing =
    ((entries : List Level) → ValidLevelTable entries → alter_levels (length (running_levels entries)) entries ≡ answer entries)
    × ((jobs : List Job) → ValidJobs jobs → alter_jobs 0 0 jobs ≡ answer jobs)
