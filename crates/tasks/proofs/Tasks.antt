-- Laws of the task table: a task has no fault exactly when it keeps the limits, a table whose entries have none is valid,
-- and a reading answers entries exactly when the bytes encode a valid table whose periods fit 32 bits.
-- Assumes nothing.
use mathlib.Core.Path.{◌≡◌, refl}
use mathlib.Core.Logic.{◌↔◌}
use mathlib.Core.Bool.{Bool, true, false, cond}
use mathlib.Core.List.{List, ◌++◌}
use Prim.Native.Nat.{ℕ, suc, ◌+◌, ◌*◌, ◌<◌, ◌≤◌}
use native.Mathlib.Omega.{arith}
use lib.Dec.{ltb, eqb}
use lib.ListN.{length, drop, length-append}
use borrow.Author.Tests.{ltb-false, eqb-false, le-ltb, le-leb, ne_eqb}
use Rattle.model.specs.Limits.{max_cycles}
use Rattle.model.specs.Outcome.{answer}
use Rattle.model.specs.Bytes.{IsBytes, number16, bytes32}
use Rattle.model.proofs.Bytes.{length_bytes_of, number_at_small, pair_written, pair_found}
use Rattle.model.proofs.Entries.{length_list_of, get_d_list_of}
use Rattle.model.proofs.Tests.{neither, in-range}
use Rattle.model.proofs.Tables.{Table, TableLaws, table_sound, table_read_back}
use Rattle.tasks.specs.declared.Task.{Task}
use Rattle.tasks.specs.Tasks.{max_tasks, no_task, task_of, task_count, task_at, task_entries, wrong_task, fault_of_task, task_fault}
use Rattle.tasks.specs.Tasks.{read_tasks, ValidTasks, encode_tasks, PeriodsFit, TasksReadBack}

-- the limits that a task keeps
pub record SoundTask (task : Task) : Type 0 where
  pub some_deadline : 1 ≤ task.deadline
  pub within_period : task.phase + task.deadline ≤ task.period
  pub cycles_low : 1 ≤ task.cycles
  pub cycles_high : task.cycles ≤ max_cycles

-- a test with the number of its refusal
passed : (test : Bool) (n : ℕ) → cond test (suc n) 0 ≡ 0 → test ≡ false
passed true n e = absurd (omega arith)
passed false n e = refl

module _ (task : Task) where
  sound : fault_of_task task ≡ 0 → SoundTask task
  unfolding fault_of_task
  sound e =
      let period = neither (eqb task.period 0) _ (passed (wrong_task task) 27 e) in
      let deadline = neither (eqb task.deadline 0) _ period.1 in
      let window = neither (ltb task.period (task.phase + task.deadline)) _ deadline.1 in
      let cycles = in-range task.cycles max_cycles window.1 in
      record {
        some_deadline = omega (arith, eqb-false task.deadline 0 deadline.0);
        within_period = ltb-false _ _ window.0;
        cycles_low = cycles.0;
        cycles_high = cycles.1;
      }

  faultless : SoundTask task → fault_of_task task ≡ 0
  unfolding fault_of_task
  faultless h =
      rw (
        ne_eqb task.period 0 (λ none. omega arith),
        ne_eqb task.deadline 0 (λ none. omega arith),
        le-ltb task.period (task.phase + task.deadline) h.within_period,
        le-leb 1 task.cycles h.cycles_low,
        le-leb task.cycles max_cycles h.cycles_high,
      )

  -- a task has no fault exactly when it keeps the limits
  pub task_sound : (fault_of_task task ≡ 0) ↔ SoundTask task
  task_sound = (sound, faultless)

-- no fault at any entry, and the count within its limit, make a valid table
pub valid_tasks : (tasks : List Task) → length tasks ≤ max_tasks → ((i : ℕ) → i < length tasks → task_fault tasks i ≡ 0) → ValidTasks tasks
valid_tasks tasks few faultless =
    record {
      few = few;
      some_deadline = λ i below. (at i below).some_deadline;
      within_period = λ i below. (at i below).within_period;
      cycles_low = λ i below. (at i below).cycles_low;
      cycles_high = λ i below. (at i below).cycles_high;
    }
  where
    at : (i : ℕ) → i < length tasks → SoundTask (task_of tasks i)
    at i below = (task_sound _).0 (faultless i below)

pub tasks_sound : (tasks : List Task) → ValidTasks tasks → (i : ℕ) → i < length tasks → SoundTask (task_of tasks i)
tasks_sound tasks h i below =
    record {
      some_deadline = h.some_deadline i below;
      within_period = h.within_period i below;
      cycles_low = h.cycles_low i below;
      cycles_high = h.cycles_high i below;
    }

-- what the two arrays have of a task
abbrev release_bytes : Task → List ℕ
release_bytes task = bytes32 task.phase ++ bytes32 task.period

abbrev work_bytes : Task → List ℕ
work_bytes task = bytes32 task.deadline ++ bytes32 task.cycles

abbrev tasks_table : Table Task
tasks_table =
    record {
      first = release_bytes;
      second = work_bytes;
      first_size = 8;
      second_size = 8;
      entry = task_at;
      none = no_task;
      short_number = 28;
      count_number = 28;
      length_number = 28;
      wrong_count = λ n. ltb max_tasks n;
      fault = task_fault;
    }

abbrev Fit : List Task → Type 0
Fit tasks = ValidTasks tasks × PeriodsFit tasks

-- an entry stands where its bytes do
task_read : (tasks : List Task) → Fit tasks → (bytes : List ℕ) (i : ℕ) → i < length tasks
    → (more : List ℕ) → drop (2 + 8 * i) bytes ≡ release_bytes (task_of tasks i) ++ more
    → (rest : List ℕ) → drop (2 + 8 * number16 bytes 0 + 8 * i) bytes ≡ work_bytes (task_of tasks i) ++ rest
    → task_at bytes i ≡ task_of tasks i
unfolding task_at
task_read tasks (valid, fit) bytes i below more first rest second =
    let kept = tasks_sound tasks valid i below in
    let period = fit i below in
    let one = pair_found _ _ bytes more (2 + 8 * i) first (omega arith) (omega arith) in
    let two = pair_found _ _ bytes rest (2 + 8 * number16 bytes 0 + 8 * i) second (omega arith) (omega arith) in
    rw (one.0, one.1, two.0, two.1)

-- periods that were read fit
periods_fit : (bytes : List ℕ) → IsBytes bytes → PeriodsFit (task_entries bytes)
unfolding task_at
periods_fit bytes small i below =
    let inside : i < task_count bytes = rw length_list_of at below in
    rw (get_d_list_of (task_count bytes) (task_at bytes) i no_task inside) (number_at_small 4 bytes (2 + 8 * i + 4) small)

tasks_laws : TableLaws tasks_table Fit
unfolding task_at
tasks_laws =
    record {
      first-size = λ task. simp (length-append, length_bytes_of);
      second-size = λ task. simp (length-append, length_bytes_of);
      count_small = λ n e. omega (arith, ltb-false max_tasks n e);
      valid_count = λ tasks h. le-ltb max_tasks (length tasks) h.0.few;
      valid_sound = λ tasks h i below. (task_sound _).1 (tasks_sound tasks h.0 i below);
      sound_valid = λ bytes small tasks read e faultless.
          (valid_tasks tasks (ltb-false max_tasks (length tasks) e) faultless, rw read at (periods_fit bytes small));
      first_written = λ bytes i. pair_written bytes (2 + 8 * i);
      second_written = λ bytes i. pair_written bytes (2 + 8 * number16 bytes 0 + 8 * i);
      entry_read = task_read;
    }

-- what a reading answers is a valid table
pub tasks_valid : (bytes : List ℕ) (tasks : List Task) → read_tasks bytes ≡ answer tasks → ValidTasks tasks
unfolding read_tasks
tasks_valid bytes tasks e =
    let sound = table_sound tasks_table bytes tasks e in
    valid_tasks tasks (ltb-false max_tasks (length tasks) sound.0) sound.1

pub tasks_read_back : TasksReadBack
unfolding read_tasks encode_tasks
tasks_read_back bytes tasks small =
    let law = table_read_back tasks_table Fit tasks_laws bytes tasks small in
    (λ e. let (fit, encoded) = law.0 e in (fit.0, fit.1, encoded), λ h. law.1 ((h.0, h.1), h.2))
