-- The operation that lays out the jobs of one round (document 02, Change 1).
use Rattle.std.specs.Prelude.{ℕ, ◌+◌, ◌*◌, ◌≤◌, ◌≡◌, ◌⊎◌, List, ◌++◌, length, drop, ltb}
use Rattle.model.specs.declared.Job.{Job}
use Rattle.model.specs.Limits.{max_jobs}
use Rattle.model.specs.Outcome.{Outcome, refused, answer, and_then, refuse_when, refuse_under, From, RefusesBy}
use Rattle.model.specs.Jobs.{ValidJobs, read_jobs, encode_jobs, job_of}
use Rattle.tasks.specs.declared.Task.{Task}
use Rattle.tasks.specs.Tasks.{ValidTasks, read_tasks}
use Rattle.tasks.specs.Multiples.{max_multiple, multiple_of, LeastCommonMultiple}
use Rattle.tasks.specs.LaidOut.{lay_out, LaidOut}

-- One round: the ticks after which everything repeats, and the jobs released in them.
pub record Round : Type 0 where
  pub multiple : ℕ
  pub jobs : List Job

-- "Jobs are laid out over the least common multiple of the periods".
abbrev pub round_of : List Task → Round
round_of tasks = record { multiple = multiple_of tasks; jobs = lay_out tasks (multiple_of tasks) }

-- "the job table's length in bytes"
abbrev pub table_length : List Job → ℕ
table_length jobs = 2 + 12 * length jobs

-- 28 in reading; "then 29 the multiple is above 1,000,000; then 30 more than 64 jobs"; "A job buffer too short gives 12, last",
-- with the length wanted as its place.
unfoldable pub rounds : (task_bytes : List ℕ) → (room : ℕ) → Outcome Round
rounds task_bytes room =
    and_then (read_tasks task_bytes) λ tasks.
    refuse_when (ltb max_multiple (multiple_of tasks)) 29
    (refuse_when (ltb max_jobs (length (lay_out tasks (multiple_of tasks)))) 30
    (refuse_under (table_length (lay_out tasks (multiple_of tasks))) 12 room
    (answer (round_of tasks))))

-- What the lent job buffer holds afterwards: with an answer the round's job table at its start, and after that what was there;
-- a refused call changes nothing.
abbrev pub buffer_after : Outcome Round → (before : List ℕ) → List ℕ
buffer_after (refused number place) before = before
buffer_after (answer round) before = encode_jobs round.jobs ++ drop (table_length round.jobs) before

-- The numbers that the operation refuses by.
abbrev pub RoundNumbers : ℕ → Type 0
RoundNumbers number = From 12 12 number ⊎ From 28 30 number

-- What an answer says of the bytes and the round. Proved in proofs/Rounds.antt.
pub record RoundIs (task_bytes : List ℕ) (room : ℕ) (round : Round) : Type 0 where
  pub tasks : List Task
  pub read : read_tasks task_bytes ≡ answer tasks
  pub valid_tasks : ValidTasks tasks
  -- the multiple is the least common multiple, and small
  pub multiple : LeastCommonMultiple tasks round.multiple
  pub small : round.multiple ≤ max_multiple
  -- the jobs are exactly those that the tasks release in it, by release and then task number
  pub jobs_are : round.jobs ≡ lay_out tasks round.multiple
  pub laid_out : LaidOut tasks round.multiple round.jobs
  -- no job crosses the end of the multiple
  pub jobs-inside : (j : ℕ) → (job_of round.jobs j).deadline ≤ round.multiple
  -- what is written is a valid job table that reads back as exactly these jobs
  pub valid-jobs : ValidJobs round.jobs
  pub fits : length (encode_jobs round.jobs) ≤ room
  pub table-length : length (encode_jobs round.jobs) ≡ table_length round.jobs
  pub reads_back : read_jobs (encode_jobs round.jobs) ≡ answer round.jobs

abbrev pub AnsweredRoundIs : Type 0
AnsweredRoundIs = (task_bytes : List ℕ) (room : ℕ) (round : Round) → rounds task_bytes room ≡ answer round → RoundIs task_bytes room round

-- Every valid task table has a round unless 29 or 30 holds: with a long enough buffer nothing else is refused.
abbrev pub RoundUnless : Type 0
RoundUnless =
    (task_bytes : List ℕ) (tasks : List Task) → read_tasks task_bytes ≡ answer tasks
    → multiple_of tasks ≤ max_multiple → length (lay_out tasks (multiple_of tasks)) ≤ max_jobs
    → (room : ℕ) → table_length (lay_out tasks (multiple_of tasks)) ≤ room → rounds task_bytes room ≡ answer (round_of tasks)

abbrev pub RoundsRefuse : Type 0
RoundsRefuse = (task_bytes : List ℕ) (room : ℕ) → RefusesBy RoundNumbers (rounds task_bytes room)
