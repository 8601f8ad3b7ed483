-- Any schedule (document 01, "Any schedule").
use Rattle.std.specs.Prelude.{ℕ, ◌+◌, ◌-◌, ◌*◌, ◌/◌, ◌<◌, ◌≤◌, ◌&&◌, List, length, ltb, leb, eqb}
use Rattle.model.specs.declared.Level.{Level}
use Rattle.model.specs.declared.Job.{Job}
use Rattle.model.specs.Sum.{sum, only_if}
use Rattle.model.specs.Levels.{level_of}
use Rattle.model.specs.Jobs.{job_of}
use Rattle.model.specs.Points.{power_of}
use Rattle.model.specs.Intervals.{earliest_release, latest_deadline}

-- A slot idles or has one given level, dropped or not, and one job, each by its number.
pub data Slot : Type 0 where
  idles : Slot
  runs : (level job : ℕ) → Slot

-- The level and the job of a slot are given ones.
abbrev pub IsGiven : List Level → List Job → Slot → Type 0
IsGiven levels jobs idles = Unit {0}
IsGiven levels jobs (runs level job) = (level < length levels) × (job < length jobs)

-- A slot's frequency for job j: that of its level where it runs j, otherwise 0.
abbrev pub frequency_for : List Level → (job : ℕ) → Slot → ℕ
frequency_for levels j idles = 0
frequency_for levels j (runs level job) = only_if (eqb job j) (level_of levels level).frequency

-- A slot's power.
abbrev pub slot_power : (idle_power : ℕ) → List Level → Slot → ℕ
slot_power idle_power levels idles = idle_power
slot_power idle_power levels (runs level job) = power_of (level_of levels level)

-- The ticks from earliest release to latest deadline; none where there are no jobs.
unfoldable pub horizon : List Job → ℕ
horizon jobs = latest_deadline jobs - earliest_release jobs

-- A schedule has a whole q ≥ 1 and cuts each tick, from earliest release to latest deadline, into q slots. Slots count
-- from 0; what `slot` says past the last one has no effect.
pub record Schedule (levels : List Level) (jobs : List Job) : Type 0 where
  pub q : ℕ
  pub q_low : 1 ≤ q
  pub slot : ℕ → Slot
  pub given : (s : ℕ) → s < q * horizon jobs → IsGiven levels jobs (slot s)

-- No jobs: no slots.
abbrev pub slot_count : {levels : List Level} {jobs : List Job} → Schedule levels jobs → ℕ
slot_count {jobs = jobs} schedule = schedule.q * horizon jobs

-- The tick that a slot lies in.
abbrev pub tick_of : {levels : List Level} {jobs : List Job} → Schedule levels jobs → (slot : ℕ) → ℕ
tick_of {jobs = jobs} schedule s = earliest_release jobs + s / schedule.q

-- The frequencies of job j's slots between its release and its deadline, added.
unfoldable pub served : {levels : List Level} {jobs : List Job} → Schedule levels jobs → (job : ℕ) → ℕ
served {levels} {jobs} schedule j =
    sum (slot_count schedule)
    (λ s. only_if
    (leb (job_of jobs j).release (tick_of schedule s) && ltb (tick_of schedule s) (job_of jobs j).deadline)
    (frequency_for levels j (schedule.slot s)))

-- It serves when each job's slots between its release and deadline have frequencies adding to at least q × its cycles.
abbrev pub Serves : {levels : List Level} {jobs : List Job} → Schedule levels jobs → Type 0
Serves {jobs = jobs} schedule = (j : ℕ) → j < length jobs → schedule.q * (job_of jobs j).cycles ≤ served schedule j

-- Its energy, multiplied by q, is the sum of its slots' powers.
unfoldable pub slot_powers : (idle_power : ℕ) → {levels : List Level} {jobs : List Job} → Schedule levels jobs → ℕ
slot_powers idle_power {levels} schedule = sum (slot_count schedule) (λ s. slot_power idle_power levels (schedule.slot s))
