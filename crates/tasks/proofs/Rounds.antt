-- Laws of the operation that lays out the jobs of one round: what its answer says, when it answers, and by which numbers it
-- refuses.
-- Assumes nothing.
use mathlib.Core.Path.{refl}
use mathlib.Core.Bool.{not}
use mathlib.Core.Logic.{◌⊎◌, inl, inr}
use mathlib.Core.List.{List}
use Prim.Native.Nat.{ℕ, ◌+◌, ◌*◌, ◌<◌, ◌≤◌}
use native.Mathlib.Omega.{arith}
use lib.Dec.{ltb, eqb}
use lib.ListN.{length, get_or-eq_default}
use borrow.Author.Tests.{ltb-false, le-ltb}
use Rattle.model.specs.declared.Job.{Job}
use Rattle.model.specs.Limits.{max_jobs}
use Rattle.model.specs.Outcome.{answer, RefusesBy}
use Rattle.model.specs.Jobs.{no_job, job_of, ValidJobs, encode_jobs}
use Rattle.model.proofs.Numbers.{lt_or_le}
use Rattle.model.proofs.Outcome.{answered_past, answered_within, and_then_answered, answer_injective}
use Rattle.model.proofs.RefusalNumbers.{fault_cond, by_when, by_under, by_entries, by_then, by_answer}
use Rattle.model.proofs.Jobs.{length_encode_jobs, jobs_read_back}
use Rattle.reading.proofs.Encodings.{encodings_are_bytes}
use Rattle.tasks.specs.declared.Task.{Task}
use Rattle.tasks.specs.Tasks.{max_tasks, task_count, task_entries, task_of, wrong_task, fault_of_task, task_fault, read_tasks, ValidTasks}
use Rattle.tasks.specs.Multiples.{max_multiple, multiple_of, LeastCommonMultiple}
use Rattle.tasks.specs.LaidOut.{lay_out, LaidOut}
use Rattle.tasks.specs.Rounds.{
  round_of,
  table_length,
  rounds,
  RoundNumbers,
  RoundIs,
  AnsweredRoundIs,
  RoundUnless,
  RoundsRefuse,
}
use Rattle.tasks.proofs.Tasks.{tasks_valid}
use Rattle.tasks.proofs.Multiples.{multiple_is_least}
use Rattle.tasks.proofs.LaidOut.{jobs_as_released, laid_out_inside}

-- jobs of valid tasks, few and over a small common multiple, are valid
round_valid : (tasks : List Task) → ValidTasks tasks → (H : ℕ) → LeastCommonMultiple tasks H → H ≤ max_multiple
    → length (lay_out tasks H) ≤ max_jobs → ValidJobs (lay_out tasks H)
round_valid tasks valid H multiple small few =
    record {
      few = few;
      release_before_deadline = λ j below.
          omega (arith, laid_out.deadline j below, valid.some_deadline _ (laid_out.task_there j below));
      deadline_high = λ j below. omega (arith, laid_out_inside tasks valid H multiple.common j below);
      cycles_low = λ j below. omega (arith, laid_out.cycles j below, valid.cycles_low _ (laid_out.task_there j below));
      cycles_high = λ j below. omega (arith, laid_out.cycles j below, valid.cycles_high _ (laid_out.task_there j below));
    }
  where
    laid_out : LaidOut tasks H (lay_out tasks H)
    laid_out = jobs_as_released tasks valid H

-- no job crosses the end, and past the last job there is none that could
all_inside : (tasks : List Task) → ValidTasks tasks → (H : ℕ) → LeastCommonMultiple tasks H
    → (j : ℕ) → (job_of (lay_out tasks H) j).deadline ≤ H
all_inside tasks valid H multiple j = go (lt_or_le j (length (lay_out tasks H)))
  where
    go : (j < length (lay_out tasks H)) ⊎ (length (lay_out tasks H) ≤ j) → (job_of (lay_out tasks H) j).deadline ≤ H
    go (inl below) = laid_out_inside tasks valid H multiple.common j below
    go (inr past) = rw (get_or-eq_default (lay_out tasks H) no_job past) (omega arith)

pub answered_round_is : AnsweredRoundIs
unfolding rounds
answered_round_is task_bytes room round e =
    let (tasks, read, after) = and_then_answered (read_tasks task_bytes) _ e in
    let H : ℕ = multiple_of tasks in
    let jobs : List Job = lay_out tasks H in
    let valid : ValidTasks tasks = tasks_valid task_bytes tasks read in
    let multiple : LeastCommonMultiple tasks H = multiple_is_least tasks valid in
    let low = answered_past (ltb max_multiple H) 29 _ after in
    let short = answered_past (ltb max_jobs (length jobs)) 30 _ low.1 in
    let within = answered_within (table_length jobs) 12 room (answer (round_of tasks)) short.1 in
    let small : H ≤ max_multiple = ltb-false max_multiple H low.0 in
    let sound : ValidJobs jobs = round_valid tasks valid H multiple small (ltb-false max_jobs (length jobs) short.0) in
    let whole : RoundIs task_bytes room (round_of tasks) =
    record {
      tasks = tasks;
      read = read;
      valid_tasks = valid;
      multiple = multiple;
      small = small;
      jobs_are = refl;
      laid_out = jobs_as_released tasks valid H;
      jobs-inside = all_inside tasks valid H multiple;
      valid-jobs = sound;
      fits = rw (length_encode_jobs jobs) within.0;
      table-length = length_encode_jobs jobs;
      reads_back = (jobs_read_back (encode_jobs jobs) jobs (encodings_are_bytes.1 jobs)).1 (sound, refl);
    } in
    rw (answer_injective within.1) at whole

pub round_unless : RoundUnless
unfolding rounds
round_unless task_bytes tasks read small few room enough =
    let jobs : List Job = lay_out tasks (multiple_of tasks) in
    rw (
      read,
      le-ltb max_multiple (multiple_of tasks) small,
      le-ltb max_jobs (length jobs) few,
      le-ltb room (table_length jobs) enough,
    )

-- reading refuses by 28
tasks_by : (bytes : List ℕ) → RefusesBy RoundNumbers (read_tasks bytes)
unfolding read_tasks fault_of_task
tasks_by bytes =
    by_when RoundNumbers (ltb (length bytes) 2) 28 (inr (omega arith))
    (by_when RoundNumbers (ltb max_tasks (task_count bytes)) 28 (inr (omega arith))
    (by_when RoundNumbers (not (eqb (length bytes) (2 + 16 * task_count bytes))) 28 (inr (omega arith))
    (by_entries RoundNumbers 0 (task_count bytes) (task_fault (task_entries bytes))
    (λ i. fault_cond RoundNumbers (wrong_task (task_of (task_entries bytes) i)) 28 0 (inr (omega arith)) (inl refl))
    (by_answer RoundNumbers (task_entries bytes)))))

pub rounds_refuse : RoundsRefuse
unfolding rounds
rounds_refuse task_bytes room =
    by_then RoundNumbers (read_tasks task_bytes) _ (tasks_by task_bytes) λ tasks.
    by_when RoundNumbers (ltb max_multiple (multiple_of tasks)) 29 (inr (omega arith))
    (by_when RoundNumbers (ltb max_jobs (length (lay_out tasks (multiple_of tasks)))) 30 (inr (omega arith))
    (by_under RoundNumbers (table_length (lay_out tasks (multiple_of tasks))) 12 room (inl (omega arith))
    (by_answer RoundNumbers (round_of tasks))))
