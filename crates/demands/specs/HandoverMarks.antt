-- Handover marks, over the tables in bytes and the calls themselves. What stands in quotes is document 02, Change 6. That the three
-- demands hold with marks, and the check of demand 3 "is lent the same marks too", is said there; that "the two plans that Change 3
-- compares have the same marks" in OneSpelling, and which bounds the steps of a span follow, and where 34 comes there, in TouchedSpans.
-- Proved in proofs/HandoverMarks.antt.
use Rattle.std.specs.Prelude.{ℕ, suc, ◌^◌, ◌<◌, ◌≤◌, ◌≡◌, ◌↔◌, ◌⊎◌, List, [], length, get_or, ℤ}
use Rattle.model.specs.declared.Job.{Job}
use Rattle.model.specs.declared.Parameters.{Parameters}
use Rattle.model.specs.Outcome.{refused, answer, and_then, refuse_when}
use Rattle.model.specs.Bytes.{IsBytes}
use Rattle.model.specs.Jobs.{job_of, read_jobs}
use Rattle.model.specs.Intervals.{bounds_of, interval_count, bound_at, earliest_release, latest_deadline}
use Rattle.model.specs.SiteParameters.{alter_jobs}
use Rattle.model.specs.Marks.{read_marks, encode_marks, no_marks}
use Rattle.model.specs.Sites.{Given, read_given, read_tables, Site, read_site}
use Rattle.model.specs.Windows.{wrong_span}
use Rattle.model.specs.Checking.{fits, check}
use Rattle.model.specs.Accepted.{exact_for, gaps_of}
use Rattle.model.specs.Demands.{ValidTables, LongEnough}
use Rattle.planning.specs.MadePlans.{Buffers}
use Rattle.planning.specs.PlanAnswers.{PlanAnswer, Plan, Overfull, Refused, PlanContract}
use Rattle.ordering.specs.Ordering.{order}
use Rattle.touching.specs.Touching.{Lists, touching_for, touching}
use Rattle.demands.specs.ThreeDemands.{Call, PlanComesOut, plan_written}

-- "Up to 8 strictly rising ticks .. (count as 16 bits, ticks 32 bits each)"
pub record AreMarks (marks : List ℕ) : Type 0 where
  pub few : length marks ≤ 8
  pub rising : (i : ℕ) → suc i < length marks → get_or marks i 0 < get_or marks (suc i) 0
  pub ticks_fit : (i : ℕ) → i < length marks → get_or marks i 0 < 2 ^ 32

-- A time is one of the bounds.
abbrev pub IsBound : (bounds : List ℕ) → (time : ℕ) → Type 0
IsBound bounds time = (i : ℕ) × (i < length bounds) × (bound_at bounds i ≡ time)

-- A time is a release or a deadline of a job.
abbrev pub OfAJob : List Job → (time : ℕ) → Type 0
OfAJob jobs time = (j : ℕ) × (j < length jobs) × (((job_of jobs j).release ≡ time) ⊎ ((job_of jobs j).deadline ≡ time))

-- A time is a mark "strictly between earliest release and latest deadline".
abbrev pub Cuts : List Job → (marks : List ℕ) → (time : ℕ) → Type 0
Cuts jobs marks time =
    (i : ℕ) × (i < length marks) × (get_or marks i 0 ≡ time) × (earliest_release jobs < time) × (time < latest_deadline jobs)

-- With one mark table every operation that takes marks answers and writes what it does with another, whatever the parameters.
pub record SameWith (level_bytes job_bytes one two : List ℕ) (parameters : Parameters) : Type 0 where
  pub sites : read_site level_bytes job_bytes one parameters ≡ read_site level_bytes job_bytes two parameters
  pub fitting : (plan : List ℕ) → fits level_bytes job_bytes one parameters plan ≡ fits level_bytes job_bytes two parameters plan
  pub checks : (plan prices : List ℕ) → check level_bytes job_bytes one parameters plan prices ≡ check level_bytes job_bytes two parameters plan prices
  pub orders : (plan prices : List ℕ) (room : ℕ)
      → order level_bytes job_bytes one parameters plan prices room ≡ order level_bytes job_bytes two parameters plan prices room
  pub touches : (plan : List ℕ) (start end : ℕ) (before : Lists)
      → touching job_bytes one parameters.free parameters.margin plan start end before
      ≡ touching job_bytes two parameters.free parameters.margin plan start end before
  pub plans : (before after : Buffers) (answered : PlanAnswer)
      → PlanContract level_bytes job_bytes one parameters before after answered ↔ PlanContract level_bytes job_bytes two parameters before after answered

-- Every operation that reads levels and takes marks refuses so, whatever else it is lent, and leaves it as it was.
pub record SiteRefused (level_bytes job_bytes mark_bytes : List ℕ) (parameters : Parameters) (number place : ℕ) : Type 0 where
  pub fitting : (plan : List ℕ) → fits level_bytes job_bytes mark_bytes parameters plan ≡ refused number place
  pub checks : (plan prices : List ℕ) → check level_bytes job_bytes mark_bytes parameters plan prices ≡ refused number place
  pub orders : (plan prices : List ℕ) (room : ℕ) → order level_bytes job_bytes mark_bytes parameters plan prices room ≡ refused number place
  pub plans : (before after : Buffers) (answered : PlanAnswer) → PlanContract level_bytes job_bytes mark_bytes parameters before after answered
      → (answered ≡ Refused number place) × (after ≡ before)

-- Two calls of planning with the same levels, jobs and parameters, and any marks.
abbrev pub OtherMarks : (call other : Call) → Type 0
OtherMarks call other = (call.level_bytes ≡ other.level_bytes) × (call.job_bytes ≡ other.job_bytes) × (call.parameters ≡ other.parameters)

-- The buffers of a call are long enough for a site.
abbrev pub Roomy : Call → Site → Type 0
Roomy call site = LongEnough site (length call.before.plan) (length call.before.prices) (length call.before.shares)

pub record HandoverMarks : Type 0 where
  -- Every such table is read so, and no other bytes are read.
  pub read : (bytes marks : List ℕ) → IsBytes bytes → (read_marks bytes ≡ answer marks) ↔ (AreMarks marks × (bytes ≡ encode_marks marks))
  -- "34 more than 8 marks, not rising, or a wrong length (place 0 for all)"
  pub refused_by_34 : (bytes : List ℕ) (number place : ℕ) → read_marks bytes ≡ refused number place → (number ≡ 34) × (place ≡ 0)
  -- "after the job table's own": levels and jobs are refused as they are without marks, and only then are marks
  pub tables_first : (level_bytes job_bytes mark_bytes : List ℕ) (parameters : Parameters) (number place : ℕ) → read_given level_bytes job_bytes ≡ refused number place
      → read_site level_bytes job_bytes mark_bytes parameters ≡ refused number place
  pub then_marks : (level_bytes job_bytes mark_bytes : List ℕ) (parameters : Parameters) (given : Given) → read_given level_bytes job_bytes ≡ answer given
      → (number place : ℕ) → read_marks mark_bytes ≡ refused number place → SiteRefused level_bytes job_bytes mark_bytes parameters 34 0
  -- "each one strictly between earliest release and latest deadline is a bound too": beside the jobs' own times these, and nothing
  -- else, each once and rising
  pub bounds : (level_bytes job_bytes mark_bytes : List ℕ) (parameters : Parameters) (site : Site) → ValidTables level_bytes job_bytes mark_bytes parameters site
      → (marks : List ℕ) → read_marks mark_bytes ≡ answer marks
      → (time : ℕ) → IsBound site.bounds time ↔ (OfAJob site.jobs time ⊎ Cuts site.jobs marks time)
  pub bounds_rise : (level_bytes job_bytes mark_bytes : List ℕ) (parameters : Parameters) (site : Site) → ValidTables level_bytes job_bytes mark_bytes parameters site
      → (i : ℕ) → suc i < length site.bounds → bound_at site.bounds i < bound_at site.bounds (suc i)
  -- "Intervals may now number 135."
  pub few_intervals : (level_bytes job_bytes mark_bytes : List ℕ) (parameters : Parameters) (site : Site) → ValidTables level_bytes job_bytes mark_bytes parameters site
      → interval_count site.bounds ≤ 135
  -- "others have no effect": where no mark cuts, all is as with none
  pub no_effect : (level_bytes job_bytes mark_bytes : List ℕ) (parameters : Parameters) (given jobs : List Job) (marks : List ℕ) → read_jobs job_bytes ≡ answer given
      → read_marks mark_bytes ≡ answer marks → alter_jobs parameters.free parameters.margin given ≡ answer jobs
      → ((time : ℕ) → Cuts jobs marks time → ⊥) → SameWith level_bytes job_bytes mark_bytes no_marks parameters
  -- With no marks a site is what it was before there were marks: its bounds are the jobs' releases and deadlines.
  pub none_read : read_marks no_marks ≡ answer []
  pub no-marks : (level_bytes job_bytes : List ℕ) (parameters : Parameters) → read_site level_bytes job_bytes no_marks parameters
      ≡ (and_then (read_tables level_bytes job_bytes parameters) λ tables.
      answer (record { processor = tables.processor; jobs = tables.jobs; bounds = bounds_of tables.jobs }))
  -- and what touches a span follows these bounds
  pub no_marks_touched : (job_bytes : List ℕ) (free margin : ℕ) (plan : List ℕ) (start end : ℕ) (before : Lists)
      → touching job_bytes no_marks free margin plan start end before
      ≡ refuse_when (wrong_span start end) 33
      (and_then (read_jobs job_bytes) λ given.
      and_then (alter_jobs free margin given) λ jobs.
      touching_for jobs (bounds_of jobs) plan start end before)
  -- "The least exact energy is what it was without marks": whatever marks two plans were accepted with, and none are marks too. Both are
  -- multiplied out by the same gaps.
  pub same_least_energy : (level_bytes job_bytes one two : List ℕ) (parameters : Parameters) (site other : Site)
      → ValidTables level_bytes job_bytes one parameters site → ValidTables level_bytes job_bytes two parameters other
      → (plan prices : List ℕ) (figure : ℕ) → check level_bytes job_bytes one parameters plan prices ≡ answer figure
      → (other_plan other_prices : List ℕ) (other_figure : ℕ) → check level_bytes job_bytes two parameters other_plan other_prices ≡ answer other_figure
      → (exact_for site plan ≡ exact_for other other_plan) × (gaps_of site ≡ gaps_of other)
  pub same_energy_planned : (call other : Call) → OtherMarks call other
      → (site : Site) → ValidTables call.level_bytes call.job_bytes call.mark_bytes call.parameters site
      → (other_site : Site) → ValidTables other.level_bytes other.job_bytes other.mark_bytes other.parameters other_site
      → (intervals steps energy : ℕ) → call.answered ≡ Plan intervals steps energy
      → (other_intervals other_steps other_energy : ℕ) → other.answered ≡ Plan other_intervals other_steps other_energy
      → exact_for site (plan_written call steps) ≡ exact_for other_site (plan_written other other_steps)
  -- a plan comes out with marks exactly when one does with others or none, and where none does the window of 11 is the same
  pub comes-out : (call other : Call) → OtherMarks call other
      → (site : Site) → ValidTables call.level_bytes call.job_bytes call.mark_bytes call.parameters site → Roomy call site
      → (other_site : Site) → ValidTables other.level_bytes other.job_bytes other.mark_bytes other.parameters other_site → Roomy other other_site
      → PlanComesOut call ↔ PlanComesOut other
  pub same_window : (call other : Call) → OtherMarks call other
      → (site : Site) → ValidTables call.level_bytes call.job_bytes call.mark_bytes call.parameters site
      → (other_site : Site) → ValidTables other.level_bytes other.job_bytes other.mark_bytes other.parameters other_site
      → (start end : ℕ) (spare : ℤ) → (call.answered ≡ Overfull start end spare) ↔ (other.answered ≡ Overfull start end spare)
