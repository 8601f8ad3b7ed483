-- What touches a span, over the calls themselves. Document 02, Change 5: "Supervisors planning a lift closure want, for a span of
-- ticks: the jobs open somewhere in it, the jobs wholly inside it, the plan's steps whose interval shares a tick with it (15 to 18
-- apply), and the nearest deadline at or after its start, or none. Lists, lent as 32-bit numbers, hold job numbers or, for steps,
-- cells, rising, each member listed and nothing else; answered are their three lengths and that deadline; a lent list too short
-- (the first such, in this order) gives 14, last. Errors: 33 start not before end, or end above 1,000,000, before the job table
-- and then the plan are read." Change 6: "Every operation that cuts intervals takes the marks and follows the new bounds .. Errors: 34
-- .. after the job table's own." Change 9: the jobs are those with their ticks kept free and their margin; 35 and 36 come "right after
-- those of .. jobs and marks". Proved in proofs/TouchedSpans.antt.
use Rattle.std.specs.Prelude.{ℕ, suc, ◌<◌, ◌≤◌, ◌≡◌, ◌↔◌, ◌⊎◌, List, length, get_or, take, drop, Option, Some, None, Err}
use Rattle.model.specs.declared.Level.{Level}
use Rattle.model.specs.declared.Job.{Job}
use Rattle.model.specs.declared.Parameters.{Parameters}
use Rattle.model.specs.Outcome.{Outcome, refused, answer, From}
use Rattle.model.specs.Refusals.{refusal as refusal_at}
use Rattle.model.specs.LevelTables.{read_levels}
use Rattle.model.specs.Jobs.{job_of, read_jobs}
use Rattle.model.specs.SiteParameters.{alter_levels, alter_jobs}
use Rattle.model.specs.Intervals.{bound_at}
use Rattle.model.specs.Marks.{read_marks, bounds_with}
use Rattle.model.specs.Steps.{step_count, cell_at, step_at}
use Rattle.model.specs.Checking.{stepping, check}
use Rattle.touching.specs.Touching.{Lists}
use Rattle.touching.specs.TouchingAnswers.{TouchingAnswer, Touching, TouchingContract}

-- One call: what it was lent, what it left in the lists, and its answer, with the contract that holds of every call.
pub record TouchingCall : Type 0 where
  pub job_bytes : List ℕ
  pub mark_bytes : List ℕ
  pub free : ℕ
  pub margin : ℕ
  pub plan : List ℕ
  pub start : ℕ
  pub end : ℕ
  pub before : Lists
  pub after : Lists
  pub answered : TouchingAnswer
  pub contract : TouchingContract job_bytes mark_bytes free margin plan start end before after answered

-- Its free ticks and margin, with a highest running level beside them.
abbrev pub with_highest : TouchingCall → (highest : ℕ) → Parameters
with_highest call highest = record { highest = highest; free = call.free; margin = call.margin }

-- The call is refused so, and all three lists are as they were.
pub record RefusedCall (call : TouchingCall) (number place : ℕ) : Type 0 where
  pub refusal : call.answered ≡ Err (refusal_at number place)
  pub untouched : call.after ≡ call.before

-- "start not before end, or end above 1,000,000", and the opposite of it.
abbrev pub WrongSpan : TouchingCall → Type 0
WrongSpan call = (call.end ≤ call.start) ⊎ (1_000_000 < call.end)

abbrev pub RightSpan : TouchingCall → Type 0
RightSpan call = (call.start < call.end) × (call.end ≤ 1_000_000)

-- "15 to 18 apply": a plan's steps for these jobs and bounds are refused, or are sound.
abbrev pub steps_alone : List Job → (bounds plan : List ℕ) → Outcome (Unit {0})
steps_alone jobs bounds plan = stepping jobs bounds plan (answer tt)

-- A call's tables are read as these marks, and as these jobs with the call's ticks kept free and its margin.
pub record ReadAs (call : TouchingCall) (jobs : List Job) (marks : List ℕ) : Type 0 where
  pub given : List Job
  pub jobs_read : read_jobs call.job_bytes ≡ answer given
  pub marks_read : read_marks call.mark_bytes ≡ answer marks
  pub altered : alter_jobs call.free call.margin given ≡ answer jobs

-- Nothing is wrong with what a call reads: its span, its job table, its marks, its parameters, and the steps of its plan.
pub record SoundCall (call : TouchingCall) (jobs : List Job) (marks : List ℕ) : Type 0 where
  pub right_span : RightSpan call
  pub read : ReadAs call jobs marks
  pub steps_sound : steps_alone jobs (bounds_with marks jobs) call.plan ≡ answer tt

-- A tick lies in a span, which goes from its start up to, not including, its end; in the time in which a job may run; in an interval.
abbrev pub InSpan : (start end tick : ℕ) → Type 0
InSpan start end tick = (start ≤ tick) × (tick < end)

abbrev pub InWindow : Job → (tick : ℕ) → Type 0
InWindow job tick = (job.release ≤ tick) × (tick < job.deadline)

abbrev pub InInterval : (bounds : List ℕ) → (interval tick : ℕ) → Type 0
InInterval bounds i tick = (bound_at bounds i ≤ tick) × (tick < bound_at bounds (suc i))

module _ (jobs : List Job) (start end : ℕ) where
  -- "the jobs open somewhere in it": at some tick of the span
  abbrev pub OpenSomewhere : (job : ℕ) → Type 0
  OpenSomewhere j = (j < length jobs) × (tick : ℕ) × InSpan start end tick × InWindow (job_of jobs j) tick

  -- "the jobs wholly inside it": with every tick from release up to deadline
  abbrev pub WhollyInside : (job : ℕ) → Type 0
  WhollyInside j = (j < length jobs) × ((tick : ℕ) → InWindow (job_of jobs j) tick → InSpan start end tick)

-- "the plan's steps whose interval shares a tick with it", each by its cell
abbrev pub StepSharesTick : (bounds plan : List ℕ) → (start end : ℕ) → (cell : ℕ) → Type 0
StepSharesTick bounds plan start end cell =
    (s : ℕ) × (s < step_count plan) × (cell_at plan s ≡ cell)
    × (tick : ℕ) × InSpan start end tick × InInterval bounds (step_at plan s).interval tick

-- "rising, each member listed and nothing else"
pub record Listed (list : List ℕ) (Member : ℕ → Type 0) : Type 0 where
  pub rising : (k l : ℕ) → k < l → l < length list → get_or list k 0 < get_or list l 0
  pub all_listed : (n : ℕ) → Member n → (k : ℕ) × (k < length list) × (get_or list k 0 ≡ n)
  pub nothing_else : (k : ℕ) → k < length list → Member (get_or list k 0)

-- Lists that are what a call is to list: "the jobs open somewhere in it, the jobs wholly inside it, the plan's steps whose interval
-- shares a tick with it".
pub record Wanted (call : TouchingCall) (jobs : List Job) (marks : List ℕ) (lists : Lists) : Type 0 where
  pub open-jobs : Listed lists.open_jobs (OpenSomewhere jobs call.start call.end)
  pub inside-jobs : Listed lists.inside_jobs (WhollyInside jobs call.start call.end)
  pub steps : Listed lists.steps (StepSharesTick (bounds_with marks jobs) call.plan call.start call.end)

-- "the nearest deadline at or after its start, or none"
pub record IsNearest (jobs : List Job) (start : ℕ) (deadline : Option ℕ) : Type 0 where
  pub none_exactly_when : (deadline ≡ None) ↔ ((j : ℕ) → j < length jobs → (job_of jobs j).deadline < start)
  pub of_a_job : (time : ℕ) → deadline ≡ Some time → (j : ℕ) × (j < length jobs) × ((job_of jobs j).deadline ≡ time)
  pub at_or_after : (time : ℕ) → deadline ≡ Some time → start ≤ time
  pub none_nearer : (time : ℕ) → deadline ≡ Some time → (j : ℕ) → j < length jobs → start ≤ (job_of jobs j).deadline → time ≤ (job_of jobs j).deadline

-- The members stand at the start of a lent list, and the rest of it stays.
pub record Written (members before after : List ℕ) : Type 0 where
  pub at_start : take (length members) after ≡ members
  pub rest_stays : drop (length members) after ≡ drop (length members) before

-- "answered are their three lengths and that deadline"
pub record AnsweredCall (call : TouchingCall) (jobs : List Job) (wanted : Lists) : Type 0 where
  pub deadline : Option ℕ
  pub lengths : call.answered ≡ Touching (length wanted.open_jobs) (length wanted.inside_jobs) (length wanted.steps) deadline
  pub is_nearest : IsNearest jobs call.start deadline
  pub open-jobs : Written wanted.open_jobs call.before.open_jobs call.after.open_jobs
  pub inside-jobs : Written wanted.inside_jobs call.before.inside_jobs call.after.inside_jobs
  pub steps : Written wanted.steps call.before.steps call.after.steps

-- A lent list is long enough for its members.
abbrev pub Fits : (members before : List ℕ) → Type 0
Fits members before = length members ≤ length before

-- All three are.
pub record AllFit (wanted before : Lists) : Type 0 where
  pub open-jobs : Fits wanted.open_jobs before.open_jobs
  pub inside-jobs : Fits wanted.inside_jobs before.inside_jobs
  pub steps : Fits wanted.steps before.steps

pub record TouchedSpans : Type 0 where
  -- "33 start not before end, or end above 1,000,000, before the job table and then the plan are read": whatever they are
  pub wrong-span : (call : TouchingCall) → WrongSpan call → RefusedCall call 33 0
  -- and for no other span
  pub only_wrong_span : (call : TouchingCall) (place : ℕ) → call.answered ≡ Err (refusal_at 33 place) → WrongSpan call
  -- the job table's own refusals, and then 34
  pub job-table : (call : TouchingCall) (number place : ℕ) → RightSpan call → read_jobs call.job_bytes ≡ refused number place
      → RefusedCall call number place
  pub mark-table : (call : TouchingCall) (jobs : List Job) (number place : ℕ) → RightSpan call → read_jobs call.job_bytes ≡ answer jobs
      → read_marks call.mark_bytes ≡ refused number place → RefusedCall call number place
  -- 35 and 36, as altering the jobs gives them
  pub free_and_margin : (call : TouchingCall) (given : List Job) (marks : List ℕ) (number place : ℕ) → RightSpan call
      → read_jobs call.job_bytes ≡ answer given → read_marks call.mark_bytes ≡ answer marks
      → alter_jobs call.free call.margin given ≡ refused number place → RefusedCall call number place
  -- "15 to 18 apply"
  pub plan_steps : (call : TouchingCall) (jobs : List Job) (marks : List ℕ) (number place : ℕ) → RightSpan call → ReadAs call jobs marks
      → steps_alone jobs (bounds_with marks jobs) call.plan ≡ refused number place → RefusedCall call number place
  -- as in the check with the same marks, free ticks and margin, number and place, whatever level table that can be read and has so many
  -- running levels, and whatever prices, the check is lent
  pub as_the_check : (call : TouchingCall) (jobs : List Job) (marks : List ℕ) → RightSpan call → ReadAs call jobs marks
      → (level_bytes prices : List ℕ) (highest : ℕ) (entries levels : List Level)
      → read_levels level_bytes ≡ answer entries → alter_levels highest entries ≡ answer levels
      → (number place : ℕ) → From 15 18 number
      → (call.answered ≡ Err (refusal_at number place))
      ↔ (check level_bytes call.job_bytes call.mark_bytes (with_highest call highest) call.plan prices ≡ refused number place)
  -- what is to be listed is there, and is one thing only
  pub wanted_exist : (call : TouchingCall) (jobs : List Job) (marks : List ℕ) → SoundCall call jobs marks → (wanted : Lists) × Wanted call jobs marks wanted
  pub wanted_is_one : (call : TouchingCall) (jobs : List Job) (marks : List ℕ) (wanted other : Lists)
      → Wanted call jobs marks wanted → Wanted call jobs marks other → wanted ≡ other
  -- "a lent list too short (the first such, in this order) gives 14, last", with the length wanted as its place
  pub open_too_short : (call : TouchingCall) (jobs : List Job) (marks : List ℕ) → SoundCall call jobs marks → (wanted : Lists) → Wanted call jobs marks wanted
      → length call.before.open_jobs < length wanted.open_jobs
      → RefusedCall call 14 (length wanted.open_jobs)
  pub inside_too_short : (call : TouchingCall) (jobs : List Job) (marks : List ℕ) → SoundCall call jobs marks → (wanted : Lists) → Wanted call jobs marks wanted
      → Fits wanted.open_jobs call.before.open_jobs
      → length call.before.inside_jobs < length wanted.inside_jobs
      → RefusedCall call 14 (length wanted.inside_jobs)
  pub steps_too_short : (call : TouchingCall) (jobs : List Job) (marks : List ℕ) → SoundCall call jobs marks → (wanted : Lists) → Wanted call jobs marks wanted
      → Fits wanted.open_jobs call.before.open_jobs → Fits wanted.inside_jobs call.before.inside_jobs
      → length call.before.steps < length wanted.steps
      → RefusedCall call 14 (length wanted.steps)
  -- in every other case the three lists, their lengths and the nearest deadline come out
  pub comes-out : (call : TouchingCall) (jobs : List Job) (marks : List ℕ) → SoundCall call jobs marks → (wanted : Lists) → Wanted call jobs marks wanted
      → AllFit wanted call.before → AnsweredCall call jobs wanted
  -- and in no other case does anything come out
  pub only_then : (call : TouchingCall) (open_jobs inside_jobs steps : ℕ) (deadline : Option ℕ)
      → call.answered ≡ Touching open_jobs inside_jobs steps deadline
      → (jobs : List Job) × (marks : List ℕ) × (wanted : Lists) × SoundCall call jobs marks × Wanted call jobs marks wanted × AllFit wanted call.before
  -- no call is shut out: whatever it was lent, it is such a call
  pub every_call : (job_bytes mark_bytes : List ℕ) (free margin : ℕ) (plan : List ℕ) (start end : ℕ) (before after : Lists) (answered : TouchingAnswer)
      → TouchingContract job_bytes mark_bytes free margin plan start end before after answered
      → (call : TouchingCall)
      × (call.job_bytes ≡ job_bytes) × (call.mark_bytes ≡ mark_bytes) × (call.free ≡ free) × (call.margin ≡ margin) × (call.plan ≡ plan)
      × (call.start ≡ start) × (call.end ≡ end)
      × (call.before ≡ before) × (call.after ≡ after) × (call.answered ≡ answered)
