-- Laws of the laid-out jobs: they are exactly the jobs that the tasks release, by release and then task number, and over a
-- common multiple of the periods none crosses its end. The ticks and tasks of the releases are laid out in the same way as
-- the jobs, so that each job has its release beside it.
-- Assumes nothing.
use mathlib.Core.Path.{◌≡◌, refl}
use mathlib.Core.Bool.{Bool, true, false, cond}
use mathlib.Core.Logic.{◌⊎◌, inl, inr}
use mathlib.Core.List.{List, [], ◌∷◌, map}
use Prim.Native.Nat.{ℕ, suc, ◌+◌, ◌-◌, ◌*◌, ◌/◌, ◌%◌, ◌<◌, ◌≤◌}
use native.Mathlib.Nat.{
  add-sub_cancel_left,
  div-add-mod',
  mul-div_cancel,
  mul-div_cancel',
  mul-mod_left,
  lt_of_mul-lt-mul_left,
  mul-le-mul_left,
}
use native.Mathlib.Omega.{arith}
use lib.Dec.{leb, eqb}
use lib.ListN.{length, get_or, length-map}
use borrow.Author.Tests.{leb-true, eqb-true, le-leb, eq-eqb}
use Rattle.model.specs.declared.Job.{Job}
use Rattle.model.specs.Entries.{joined}
use Rattle.model.specs.Jobs.{no_job, job_of}
use Rattle.model.proofs.Numbers.{both_true}
use Rattle.model.proofs.Joined.{
  Each,
  Ordered,
  Any,
  joined_cong,
  each_joined,
  ordered_joined,
  any_joined,
  each_where,
  ordered_where,
  any_where,
  map_joined,
  get_d_map,
}
use Rattle.tasks.specs.declared.Task.{Task}
use Rattle.tasks.specs.Tasks.{task_of, ValidTasks}
use Rattle.tasks.specs.Multiples.{CommonMultiple}
use Rattle.tasks.specs.LaidOut.{releases_at, job_released, released_by, jobs_at, lay_out, JobsAsReleased}

-- a release: its tick, and the number of its task
record Release : Type 0 where
  tick : ℕ
  task : ℕ

abbrev no_release : Release
no_release = record { tick = 0; task = 0 }

abbrev Is : (tick i : ℕ) → Release → Type 0
Is tick i r = (r.tick ≡ tick) × (r.task ≡ i)

-- by tick, then task number
abbrev Before : Release → Release → Type 0
Before r s = (r.tick < s.tick) ⊎ ((r.tick ≡ s.tick) × (r.task < s.task))

-- which release of the task it is
abbrev turn_of : Task → (tick : ℕ) → ℕ
turn_of task tick = (tick - task.phase) / task.period

-- a tick of a release is the phase and so many periods
tick_released : (task : Task) (tick : ℕ) → releases_at task tick ≡ true → tick ≡ task.phase + turn_of task tick * task.period
unfolding releases_at
tick_released task tick e =
    let h = both_true (leb task.phase tick) (eqb ((tick - task.phase) % task.period) 0) e in
    omega
    (arith, leb-true task.phase tick h.0, eqb-true ((tick - task.phase) % task.period) 0 h.1, div-add-mod' (tick - task.phase) task.period)

-- the phase and any number of periods is a tick of a release
released_tick : (task : Task) (k : ℕ) → releases_at task (task.phase + k * task.period) ≡ true
unfolding releases_at
released_tick task k =
    rw (
      le-leb task.phase (task.phase + k * task.period) (omega arith),
      add-sub_cancel_left task.phase (k * task.period),
      eq-eqb (k * task.period % task.period) 0 (mul-mod_left k task.period),
    )

module _ (tasks : List Task) where
  -- the releases, laid out as the jobs are
  abbrev one_release : (tick i : ℕ) → List Release
  one_release tick i = cond (releases_at (task_of tasks i) tick) (record { tick = tick; task = i } ∷ []) []

  abbrev tick_releases : (tick : ℕ) → List Release
  tick_releases tick = joined (length tasks) (one_release tick)

  abbrev releases : (ticks : ℕ) → List Release
  releases ticks = joined ticks tick_releases

  abbrev job_for : Release → Job
  job_for r = job_released (task_of tasks r.task) r.tick

  jobs_released : (ticks : ℕ) → lay_out tasks ticks ≡ map job_for (releases ticks)
  unfolding lay_out jobs_at released_by
  jobs_released ticks =
      rw (map_joined job_for ticks tick_releases)
      (joined_cong ticks _ _ λ tick below.
      rw (map_joined job_for (length tasks) (one_release tick))
      (joined_cong (length tasks) _ _ λ i there. one tick i (releases_at (task_of tasks i) tick)))
    where
      one : (tick i : ℕ) (test : Bool)
          → cond test (job_released (task_of tasks i) tick ∷ []) [] ≡ map job_for (cond test (record { tick = tick; task = i } ∷ []) [])
      one tick i true = refl
      one tick i false = refl

  -- what each is
  record Released (ticks : ℕ) (r : Release) : Type 0 where
    inside : r.tick < ticks
    there : r.task < length tasks
    on_tick : releases_at (task_of tasks r.task) r.tick ≡ true

  released : (ticks : ℕ) → Each no_release (Released ticks) (releases ticks)
  released ticks =
      each_joined no_release (Released ticks) ticks tick_releases λ tick below.
      each_joined no_release (Released ticks) (length tasks) (one_release tick) λ i there.
      each_where no_release (Released ticks) (releases_at (task_of tasks i) tick) _ λ e.
      record { inside = below; there = there; on_tick = e }

  at_tick : (tick : ℕ) → Each no_release (λ r. r.tick ≡ tick) (tick_releases tick)
  at_tick tick =
      each_joined no_release (λ r. r.tick ≡ tick) (length tasks) (one_release tick) λ i there.
      each_where no_release (λ r. r.tick ≡ tick) (releases_at (task_of tasks i) tick) _ λ e. refl

  by_task : (tick : ℕ) → Ordered no_release Before (tick_releases tick)
  by_task tick =
      ordered_joined no_release Before (length tasks) (one_release tick)
      (λ i there. ordered_where no_release Before (releases_at (task_of tasks i) tick) _) λ i k less there.
      each_where no_release (λ r. Each no_release (Before r) (one_release tick k)) (releases_at (task_of tasks i) tick) _ λ e.
      each_where no_release (Before (record { tick = tick; task = i })) (releases_at (task_of tasks k) tick) _ λ f. inr (refl, less)

  by_tick : (ticks : ℕ) → Ordered no_release Before (releases ticks)
  by_tick ticks =
      ordered_joined no_release Before ticks tick_releases (λ tick below. by_task tick) λ t u less below i first k second.
      inl (rw (at_tick t i first, at_tick u k second) less)

  -- every release is there
  complete : (ticks i tick : ℕ) → i < length tasks → tick < ticks → releases_at (task_of tasks i) tick ≡ true
      → Any no_release (Is tick i) (releases ticks)
  complete ticks i tick there below e =
      any_joined no_release (Is tick i) ticks tick_releases tick below
      (any_joined no_release (Is tick i) (length tasks) (one_release tick) i there
      (any_where no_release (Is tick i) (releases_at (task_of tasks i) tick) _ e (refl, refl)))

pub jobs_as_released : JobsAsReleased
jobs_as_released tasks valid ticks =
    rw (jobs_released tasks ticks)
    (record {
      task = λ j. (at j).task;
      turn = turn;
      task_there = λ j below. (known j below).there;
      release = λ j below. rw (job-at j below) (tick_released (task_of tasks (at j).task) (at j).tick (known j below).on_tick);
      inside = λ j below. rw (job-at j below) (known j below).inside;
      deadline = λ j below. rw (job-at j below);
      cycles = λ j below. rw (job-at j below);
      complete = all;
      ordered = λ j k less below.
          rw (job-at j (omega arith), job-at k below) (by_tick tasks ticks j k less (inside k below));
    })
  where
    jobs : List Job
    jobs = map (job_for tasks) (releases tasks ticks)

    at : ℕ → Release
    at j = get_or (releases tasks ticks) j no_release

    turn : ℕ → ℕ
    turn j = turn_of (task_of tasks (at j).task) (at j).tick

    inside : (j : ℕ) → j < length jobs → j < length (releases tasks ticks)
    inside j below = rw length-map at below

    known : (j : ℕ) → j < length jobs → Released tasks ticks (at j)
    known j below = released tasks ticks j (inside j below)

    job-at : (j : ℕ) → j < length jobs → job_of jobs j ≡ job_for tasks (at j)
    job-at j below = get_d_map (job_for tasks) (releases tasks ticks) j no_release no_job (inside j below)

    all : (i k : ℕ) → i < length tasks → (task_of tasks i).phase + k * (task_of tasks i).period < ticks
        → (j : ℕ) × (j < length jobs) × ((at j).task ≡ i) × (turn j ≡ k)
    all i k there early =
        let positive : 0 < (task_of tasks i).period = omega (arith, valid.some_deadline i there, valid.within_period i there) in
        let (j, below, (tick, task)) = complete tasks ticks i _ there early (released_tick (task_of tasks i) k) in (
          j,
          rw length-map below,
          task,
          rw (task, tick, add-sub_cancel_left (task_of tasks i).phase (k * (task_of tasks i).period)) (mul-div_cancel k positive),
        )

-- over a common multiple no job crosses the end: its window lies in one period, and whole periods make up the multiple
pub laid_out_inside : (tasks : List Task) → ValidTasks tasks → (H : ℕ) → CommonMultiple tasks H
    → (j : ℕ) → j < length (lay_out tasks H) → (job_of (lay_out tasks H) j).deadline ≤ H
laid_out_inside tasks valid H common j below =
    let law = jobs_as_released tasks valid H in
    let i : ℕ = law.task j in
    let there : i < length tasks = law.task_there j below in
    let period : ℕ = (task_of tasks i).period in
    let turn : ℕ = law.turn j in
    let whole : period * (H / period) ≡ H = mul-div_cancel' period (common i there) in
    let early : period * turn < period * (H / period) = omega (arith, law.inside j below, law.release j below) in
    let fewer : turn < H / period = lt_of_mul-lt-mul_left period early in
    omega (
      arith,
      law.deadline j below,
      law.release j below,
      valid.within_period i there,
      mul-le-mul_left {m = suc turn} {n = H / period} period fewer,
    )
