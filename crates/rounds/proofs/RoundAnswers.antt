-- Laws of the operation's answer, one for each way out.
-- Assumes nothing.
use mathlib.Core.Path.{◌≡◌, refl, sym}
use mathlib.Core.List.{List, ◌++◌}
use Prim.Native.Nat.{ℕ, ◌+◌, ◌*◌, ◌<◌, ◌≤◌}
use native.Mathlib.Omega.{arith}
use lib.ListN.{length, drop, replicate}
use borrow.Author.Tests.{lt-ltb, le-ltb}
use Rattle.model.specs.Limits.{max_jobs}
use Rattle.std.specs.Prelude.{Err, Some}
use Rattle.model.specs.declared.refusal.Refusal.{Refusal}
use Rattle.model.specs.Outcome.{refused, answer}
use Rattle.model.specs.Refusals.{refusal}
use Rattle.model.proofs.Refusals.{RefusedBy, returned_refused, refused_returned, refused_then}
use Rattle.model.specs.Jobs.{encode_jobs}
use Rattle.reading.specs.Tables.{returned_count}
use Rattle.job_tables.specs.Tables.{jobs_in}
use Rattle.tasks.specs.declared.Task.{Task}
use Rattle.tasks.specs.Tasks.{task_entries, read_tasks}
use Rattle.tasks.specs.Multiples.{max_multiple, multiple_of}
use Rattle.tasks.specs.LaidOut.{lay_out}
use Rattle.tasks.specs.Rounds.{round_of, rounds}
use Rattle.tasks.proofs.Multiples.{multiple_is_least}
use Rattle.task_tables.specs.TaskBytes.{TasksRead, RoundRead}
use Rattle.task_tables.specs.FoundMultiples.{MultipleFound}
use Rattle.laying.specs.ListedJobs.{JobArrays, AllListed}
use Rattle.rounds.specs.RoundAnswers.{LaidOut, RoundsContract}

-- arrays of zeros
pub empty_arrays : JobArrays (replicate max_jobs 0) (replicate max_jobs 0) (replicate max_jobs 0)
empty_arrays = record { releases_room = refl; deadlines_room = refl; cycles_room = refl }

-- tasks that were read, with the multiple that was found
pub round-read : (bytes : List ℕ) (count : ℕ) → TasksRead bytes count → (multiple : ℕ) → MultipleFound (task_entries bytes) (Some multiple)
    → RoundRead bytes count multiple
round-read bytes count read multiple (small, is) =
    record { tasks_read = read; least = rw is (multiple_is_least (task_entries bytes) read.valid); small = small }

module _ (bytes before : List ℕ) where
  -- an outcome that is a refusal
  contract_refused : {own : Refusal} → RefusedBy (rounds bytes (length before)) own → RoundsContract bytes before before (Err own)
  contract_refused by = record { answer_is = refused_returned _ by; buffer_is = rw by.outcome_is refl }

  -- 28
  pub round_unread : (own : Refusal) → Err own ≡ returned_count (read_tasks bytes) → RoundsContract bytes before before (Err own)
  unfolding rounds
  round_unread own told = contract_refused (refused_then _ (returned_refused _ (read_tasks bytes) own (sym told)))

  -- a refusal whose fault is known
  refused_at : (number place : ℕ) {own : Refusal} → own ≡ refusal number place → rounds bytes (length before) ≡ refused number place
      → RoundsContract bytes before before (Err own)
  refused_at number place own_is e = contract_refused (record { number = number; place = place; outcome_is = e; own_is = own_is })

  module _ (count : ℕ) (read : TasksRead bytes count) where
    abbrev tasks : List Task
    tasks = task_entries bytes

    -- 29
    pub round_long : max_multiple < multiple_of tasks → {own : Refusal} → own ≡ refusal 29 0 → RoundsContract bytes before before (Err own)
    unfolding rounds
    round_long above own_is = refused_at 29 0 own_is (rw (read.read, lt-ltb _ _ above))

    module _ (multiple : ℕ) (found : MultipleFound tasks (Some multiple)) where
      is : multiple ≡ multiple_of tasks
      is = found.1

      low : multiple_of tasks ≤ max_multiple
      low = omega (arith, found)

      -- 30
      pub round_many : max_jobs < length (lay_out tasks multiple) → {own : Refusal} → own ≡ refusal 30 0 → RoundsContract bytes before before (Err own)
      unfolding rounds
      round_many many own_is =
          let over : max_jobs < length (lay_out tasks (multiple_of tasks)) = rw is at many in
          refused_at 30 0 own_is (rw (read.read, le-ltb _ _ low, lt-ltb _ _ over))

      module _ (listed : ℕ) (releases deadlines cycles : List ℕ) (laid : AllListed (lay_out tasks multiple) listed releases deadlines cycles) where
        same_length : length (lay_out tasks (multiple_of tasks)) ≡ listed
        same_length = sym (rw is at laid.counted)

        -- 12
        pub round_short : length before < 2 + 12 * listed → {own : Refusal} → own ≡ refusal 12 (2 + 12 * listed) → RoundsContract bytes before before (Err own)
        unfolding rounds
        round_short short own_is =
            refused_at 12 (2 + 12 * listed) own_is
            (rw (read.read, le-ltb _ _ low, same_length, le-ltb _ _ laid.few, lt-ltb _ _ short))

        -- the job table is written
        pub round_written : 2 + 12 * listed ≤ length before → (after : List ℕ)
            → after ≡ encode_jobs (jobs_in listed releases deadlines cycles) ++ drop (2 + 12 * listed) before
            → RoundsContract bytes before after (LaidOut (2 + 12 * listed) multiple)
        unfolding rounds
        round_written room after written =
            record {
              answer_is = rw (answered, same_length, ← is);
              buffer_is = rw (answered, same_length, ← is, written, laid.held);
            }
          where
            answered : rounds bytes (length before) ≡ answer (round_of tasks)
            answered = rw (read.read, le-ltb _ _ low, same_length, le-ltb _ _ laid.few, le-ltb _ _ room)
