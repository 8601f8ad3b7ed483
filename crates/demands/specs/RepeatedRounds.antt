-- Rounds that repeat, over the calls themselves: tasks laid out by one call, planned by another, and the plan written run again
-- and again. Document 02, Change 1: "Jobs are laid out over the least common multiple of the periods .., by release, then task
-- number. For any number of repeats, the repeated plan is the least for the repeated jobs, table limits aside." Proved in
-- proofs/RepeatedRounds.antt.
use Rattle.std.specs.Prelude.{ℕ, ◌<◌, ◌≡◌, List, take, ℤ}
use Rattle.model.specs.declared.Level.{Level}
use Rattle.model.specs.declared.Job.{Job}
use Rattle.model.specs.declared.Parameters.{Parameters}
use Rattle.model.specs.Outcome.{answer}
use Rattle.model.specs.LevelTables.{read_levels}
use Rattle.model.specs.Jobs.{read_jobs}
use Rattle.model.specs.SiteParameters.{AlteredLevels, AlteredJobs, as_given}
use Rattle.model.specs.Marks.{read_marks}
use Rattle.model.specs.Sites.{Site}
use Rattle.model.specs.Schedules.{Serves}
use Rattle.model.specs.Checking.{check}
use Rattle.model.specs.Accepted.{ScheduleFor}
use Rattle.model.specs.Demands.{ValidTables}
use Rattle.planning.specs.PlanAnswers.{Plan, Overfull}
use Rattle.rounds.specs.RoundAnswers.{RoundsAnswer, LaidOut, RoundsContract}
use Rattle.repeats.specs.Repeats.{repeat_site}
use Rattle.repeats.specs.RoundsThatRepeat.{RepeatedRound}
use Rattle.demands.specs.ThreeDemands.{Call, plan_written, prices_written}

-- One call that lays out a round: what it was lent, what it left there, and its answer, with the contract that holds of every
-- call.
pub record LayOutCall : Type 0 where
  pub task_bytes : List ℕ
  pub before : List ℕ
  pub after : List ℕ
  pub answered : RoundsAnswer
  pub contract : RoundsContract task_bytes before after answered

-- The job table that a call wrote where it answers this length.
abbrev pub jobs_written : LayOutCall → (length : ℕ) → List ℕ
jobs_written call length = take length call.after

-- r repeats, one every `multiple` ticks, of a plan with its prices at a site that was read with a round's job table and these
-- parameters: each job of each repeat has its ticks kept free and its margin.
abbrev pub Repeated : LayOutCall → (multiple : ℕ) → Parameters → Site → (plan prices : List ℕ) → (r : ℕ) → Type 0
Repeated laid multiple parameters site plan prices r =
    RepeatedRound laid.task_bytes multiple parameters.free parameters.margin site plan prices r

pub record RepeatedRounds : Type 0 where
  -- Tasks laid out, and the job table written planned, with any marks in the round: for every r the plan written is a least one for r
  -- repeats.
  pub planned : (laid : LayOutCall) (length multiple : ℕ) → laid.answered ≡ LaidOut length multiple
      → (call : Call) → call.job_bytes ≡ jobs_written laid length
      → (site : Site) → ValidTables call.level_bytes call.job_bytes call.mark_bytes call.parameters site
      → (intervals steps energy : ℕ) → call.answered ≡ Plan intervals steps energy
      → (r : ℕ) → Repeated laid multiple call.parameters site (plan_written call steps) (prices_written call intervals) r
  -- And so is any plan that the check accepts with its prices for that job table, whoever made it.
  pub checked : (laid : LayOutCall) (length multiple : ℕ) → laid.answered ≡ LaidOut length multiple
      → (level_bytes mark_bytes : List ℕ) (parameters : Parameters) (plan prices : List ℕ) (figure : ℕ)
      → check level_bytes (jobs_written laid length) mark_bytes parameters plan prices ≡ answer figure
      → (site : Site) → ValidTables level_bytes (jobs_written laid length) mark_bytes parameters site
      → (r : ℕ) → Repeated laid multiple parameters site plan prices r
  -- Where planning answers an overfull window, repeating does not help: no schedule meets all deadlines of one or more repeats.
  pub overfull : (laid : LayOutCall) (length multiple : ℕ) → laid.answered ≡ LaidOut length multiple
      → (call : Call) → call.job_bytes ≡ jobs_written laid length
      → (site : Site) → ValidTables call.level_bytes call.job_bytes call.mark_bytes call.parameters site
      → (start end : ℕ) (spare : ℤ) → call.answered ≡ Overfull start end spare
      → (r : ℕ) → 0 < r → (schedule : ScheduleFor (repeat_site multiple r site)) → Serves schedule → ⊥
  -- The job table that was written is read with every level table and with all marks that are read, where the parameters alter them: these
  -- hypotheses shut no round out. With 0 and 0 the jobs are those that are laid out (`ReleasedAsLaidOut` of the crate repeats).
  pub every_round : (laid : LayOutCall) (length multiple : ℕ) → laid.answered ≡ LaidOut length multiple
      → (level_bytes mark_bytes : List ℕ) (parameters : Parameters) (entries levels : List Level) (jobs altered : List Job) (marks : List ℕ)
      → read_levels level_bytes ≡ answer entries → read_marks mark_bytes ≡ answer marks → read_jobs (jobs_written laid length) ≡ answer jobs
      → AlteredLevels parameters.highest entries levels → AlteredJobs parameters.free parameters.margin jobs altered
      → (site : Site) × ValidTables level_bytes (jobs_written laid length) mark_bytes parameters site
  pub every_laid_out : (laid : LayOutCall) (length multiple : ℕ) → laid.answered ≡ LaidOut length multiple
      → (level_bytes mark_bytes : List ℕ) (entries : List Level) (marks : List ℕ) → read_levels level_bytes ≡ answer entries → read_marks mark_bytes ≡ answer marks
      → (site : Site) × ValidTables level_bytes (jobs_written laid length) mark_bytes (as_given level_bytes) site
  pub every_call : (task_bytes before after : List ℕ) (answered : RoundsAnswer) → RoundsContract task_bytes before after answered
      → (laid : LayOutCall) × (laid.task_bytes ≡ task_bytes) × (laid.before ≡ before) × (laid.after ≡ after) × (laid.answered ≡ answered)
