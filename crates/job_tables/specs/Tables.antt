-- What reading jobs answers, for each outcome: the entries in plain arrays, or the refusal.
use Rattle.std.specs.Prelude.{ℕ, ◌≡◌, List, length, get_or, Result, Ok}
use Rattle.model.specs.declared.refusal.Refusal.{Refusal}
use Rattle.model.specs.declared.Job.{Job}
use Rattle.model.specs.Limits.{max_jobs}
use Rattle.model.specs.Refusals.{returned_by}
use Rattle.model.specs.Outcome.{Outcome, answer, by_entry}
use Rattle.model.specs.Entries.{list_of}
use Rattle.model.specs.Jobs.{job_of, job_fault}
use Rattle.reading.specs.Column.{column_of}
use Rattle.reading.specs.Tables.{returned_count}
use Rattle.job_tables.specs.declared.jobs.JobTable.{JobTable}

-- The whole answer of reading jobs: releases, deadlines and cycles of the entries, zeros after them; or the refusal.
abbrev pub job_table : Outcome (List Job) → Result JobTable Refusal
job_table outcome =
    returned_by (λ jobs. record {
      count = length jobs;
      releases = column_of max_jobs (length jobs) (λ j. (job_of jobs j).release);
      deadlines = column_of max_jobs (length jobs) (λ j. (job_of jobs j).deadline);
      cycles = column_of max_jobs (length jobs) (λ j. (job_of jobs j).cycles);
    }) outcome

-- Jobs decoded into three arrays: how many there are and, where the table is read, the entries' columns.
pub record DecodedJobs (outcome : Outcome (List Job)) (result : Result ℕ Refusal) (releases deadlines cycles : List ℕ) : Type 0 where
  pub told : result ≡ returned_count outcome
  pub held : (count : ℕ) → result ≡ Ok count
      → Ok (record { count = count; releases = releases; deadlines = deadlines; cycles = cycles }) ≡ job_table outcome

-- The jobs that stand in three arrays, the first `count` of them.
unfoldable pub jobs_in : (count : ℕ) → (releases deadlines cycles : List ℕ) → List Job
jobs_in count releases deadlines cycles =
    list_of count (λ j. record { release = get_or releases j 0; deadline = get_or deadlines j 0; cycles = get_or cycles j 0 })

-- Going through the jobs that stand in arrays, by 9 and 10.
abbrev pub checked_jobs : (count : ℕ) → (releases deadlines cycles : List ℕ) → Outcome (List Job)
checked_jobs count releases deadlines cycles =
    let jobs : List Job = jobs_in count releases deadlines cycles in
    by_entry count (job_fault jobs) (answer jobs)
