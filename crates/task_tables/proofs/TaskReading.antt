-- Laws of reading tasks, one for each way out, and what a table that was read is.
-- Assumes nothing.
use mathlib.Core.Path.{◌≡◌, sym, ◌∙◌, ap}
use mathlib.Core.Bool.{not}
use mathlib.Core.List.{List}
use Prim.Native.Nat.{ℕ, ◌+◌, ◌*◌, ◌<◌, ◌≤◌}
use native.Mathlib.Nat.{le_of_dvd}
use native.Mathlib.Omega.{arith}
use lib.ListN.{length}
use lib.Dec.{ltb, eqb}
use borrow.Author.Tests.{lt-ltb, le-ltb, eq-eqb, ne_eqb, ltb-false, eqb-true, not-false}
use Rattle.std.specs.Prelude.{Result, Ok}
use Rattle.model.specs.declared.refusal.Refusal.{Refusal}
use Rattle.model.specs.Outcome.{Outcome, refused, answer, by_entry}
use Rattle.model.proofs.Refusals.{returned_answered}
use Rattle.model.proofs.Outcome.{answered_past, answer_injective, by_entry_answered}
use Rattle.model.proofs.Entries.{length_list_of, get_d_list_of}
use Rattle.reading.specs.Tables.{returned_count}
use Rattle.tasks.specs.declared.Task.{Task}
use Rattle.tasks.specs.Tasks.{max_tasks, no_task, task_of, task_count, task_at, task_entries, task_fault, read_tasks}
use Rattle.tasks.specs.Multiples.{max_multiple}
use Rattle.tasks.proofs.Tasks.{tasks_valid}
use Rattle.task_tables.specs.TaskBytes.{TaskBytes, TasksRead, RoundRead}

module _ (bytes : List ℕ) where
  -- the outcome of going through the entries
  abbrev pub checked : Outcome (List Task)
  checked = by_entry (task_count bytes) (task_fault (task_entries bytes)) (answer (task_entries bytes))

  -- the ways out before the entries, and past them
  pub tasks_short : length bytes < 2 → refused 28 0 ≡ read_tasks bytes
  unfolding read_tasks
  tasks_short short = rw (lt-ltb _ _ short)

  module _ (long : 2 ≤ length bytes) where
    pub tasks_many : max_tasks < task_count bytes → refused 28 0 ≡ read_tasks bytes
    unfolding read_tasks
    tasks_many many = rw (le-ltb _ _ long, lt-ltb _ _ many)

    module _ (few : task_count bytes ≤ max_tasks) where
      pub tasks_cut : (length bytes ≡ 2 + 16 * task_count bytes → ⊥) → refused 28 0 ≡ read_tasks bytes
      unfolding read_tasks
      tasks_cut cut = rw (le-ltb _ _ long, le-ltb _ _ few, ne_eqb _ _ cut)

      tasks_whole : length bytes ≡ 2 + 16 * task_count bytes → read_tasks bytes ≡ checked
      unfolding read_tasks
      tasks_whole whole = rw (le-ltb _ _ long, le-ltb _ _ few, eq-eqb _ _ whole)

  module _ (count : ℕ) (table : TaskBytes bytes count) where
    -- bytes as long as their number of tasks asks for are read by going through the entries
    pub tasks_checked : read_tasks bytes ≡ checked
    tasks_checked = tasks_whole (omega arith) (omega arith) (omega arith)

    -- as the code goes through them
    pub checked_all : {result : Result ℕ Refusal} → result ≡ returned_count (by_entry count (task_fault (task_entries bytes)) (answer (task_entries bytes)))
        → result ≡ returned_count (read_tasks bytes)
    checked_all found = found ∙ rw table.counted (ap returned_count (sym tasks_checked))

    -- the entries are as many, and each stands at its number
    pub count_entries : length (task_entries bytes) ≡ count
    count_entries = length_list_of (task_count bytes) (task_at bytes) ∙ sym table.counted

    pub entry_at : (i : ℕ) → i < count → task_of (task_entries bytes) i ≡ task_at bytes i
    entry_at i below = get_d_list_of (task_count bytes) (task_at bytes) i no_task (omega arith)

  -- a table that was read is as long as its number of tasks asks for
  read_as : (count : ℕ) (tasks : List Task) → read_tasks bytes ≡ answer tasks → count ≡ length tasks → TasksRead bytes count
  unfolding read_tasks
  read_as count tasks is counted =
      let (long, e) = answered_past (ltb (length bytes) 2) 28 _ is in
      let (few, e) = answered_past (ltb max_tasks (task_count bytes)) 28 _ e in
      let (whole, e) = answered_past (not (eqb (length bytes) (2 + 16 * task_count bytes))) 28 _ e in
      let entries : task_entries bytes ≡ tasks = answer_injective (by_entry_answered _ _ _ e).1 in
      let many : length tasks ≡ task_count bytes = ap length (sym entries) ∙ length_list_of (task_count bytes) (task_at bytes) in
      record {
        table = record {
          few = omega (arith, ltb-false max_tasks (task_count bytes) few);
          counted = counted ∙ many;
          whole = omega (arith, eqb-true (length bytes) (2 + 16 * task_count bytes) (not-false _ whole));
        };
        read = is ∙ ap answer (sym entries);
        valid = rw entries (tasks_valid bytes tasks is);
      }

  -- a number of entries that was answered is that of a table that was read
  pub tasks_read : (count : ℕ) → Ok count ≡ returned_count (read_tasks bytes) → TasksRead bytes count
  tasks_read count told =
      let (tasks, is, counted) = returned_answered _ (read_tasks bytes) count (sym told) in
      read_as count tasks is (sym counted)

-- a task that was read
pub task_read : (bytes : List ℕ) (count : ℕ) → TasksRead bytes count → (i : ℕ) → i < count → (task : Task) → task ≡ task_at bytes i
    → (task ≡ task_of (task_entries bytes) i) × (0 < task.period)
task_read bytes count h i below task e =
    let known : i < length (task_entries bytes) = omega (arith, count_entries bytes count h.table) in
    let is : task ≡ task_of (task_entries bytes) i = e ∙ sym (entry_at bytes count h.table i below) in
    (is, rw is (omega (arith, h.valid.some_deadline i known, h.valid.within_period i known)))

-- A task of a round: it is one of the tasks that were read, and its numbers of ticks are within the limit.
pub record RoundTask (tasks : List Task) (i : ℕ) (task : Task) : Type 0 where
  pub is : task ≡ task_of tasks i
  pub known : i < length tasks
  pub some : 0 < task.period
  pub period_small : task.period ≤ max_multiple
  pub deadline_small : task.deadline ≤ max_multiple

pub round_task : (bytes : List ℕ) (count multiple : ℕ) → RoundRead bytes count multiple → (i : ℕ) → i < count
    → (task : Task) → task ≡ task_at bytes i → RoundTask (task_entries bytes) i task
round_task bytes count multiple h i below task e =
    let table = h.tasks_read.table in
    let known : i < length (task_entries bytes) = omega (arith, count_entries bytes count table) in
    let (is, some) = task_read bytes count h.tasks_read i below task e in
    let period : (task_of (task_entries bytes) i).period ≤ multiple = le_of_dvd h.least.positive (h.least.common i known) in
    let window = h.tasks_read.valid.within_period i known in
    record {
      is = is;
      known = known;
      some = some;
      period_small = rw is (omega (arith, h.small));
      deadline_small = rw is (omega (arith, h.small));
    }
