-- Reading back: what stands encoded in the bytes is what a reader answers, and nothing else is answered (document 01,
-- "Tables in bytes"). Stated of any function that meets the contract of `read_jobs`. Proved in proofs/ReadingBack.antt.
use Rattle.std.specs.Prelude.{ℕ, ◌≡◌, List, length, Result, Ok}
use Rattle.std.specs.Borrow.{Bor}
use Rattle.model.specs.declared.Job.{Job}
use Rattle.model.specs.declared.refusal.Refusal.{Refusal}
use Rattle.model.specs.Limits.{max_jobs}
use Rattle.model.specs.Bytes.{IsBytes}
use Rattle.model.specs.Jobs.{job_of, read_jobs, ValidJobs, encode_jobs}
use Rattle.reading.specs.Column.{column_of}
use Rattle.job_tables.specs.declared.jobs.JobTable.{JobTable}
use Rattle.job_tables.specs.Tables.{job_table, jobs_in}

-- A reader of job tables, lent bytes.
pub record ReadsJobsBack (read : Bor (List ℕ) → Result JobTable Refusal) : Type 0 where
  -- lent the encoding of a valid table it answers exactly that table: the number of its jobs, their releases, their
  -- deadlines and their cycles, zeros past the last
  pub encoded_read : (jobs : List Job) → ValidJobs jobs → (bytes : Bor (List ℕ)) → bytes.now ≡ encode_jobs jobs
      → read bytes ≡ Ok (record {
        count = length jobs;
        releases = column_of max_jobs (length jobs) (λ j. (job_of jobs j).release);
        deadlines = column_of max_jobs (length jobs) (λ j. (job_of jobs j).deadline);
        cycles = column_of max_jobs (length jobs) (λ j. (job_of jobs j).cycles);
      })
  -- where it answers entries they are a valid table, and the bytes are its encoding
  pub read_encoded : (bytes : Bor (List ℕ)) → IsBytes bytes.now → (table : JobTable) → read bytes ≡ Ok table
      → let jobs : List Job = jobs_in table.count table.releases table.deadlines table.cycles in
      ValidJobs jobs × (bytes.now ≡ encode_jobs jobs)

-- Any function that meets the contract of `read_jobs` reads job tables back.
abbrev pub JobsComeBack : Type 0
JobsComeBack =
    (read : Bor (List ℕ) → Result JobTable Refusal) → ((bytes : Bor (List ℕ)) → read bytes ≡ job_table (read_jobs bytes.now))
    → ReadsJobsBack read
