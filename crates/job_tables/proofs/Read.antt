-- Laws of a job table in arrays: its entries one by one, and what a valid table says of them. Where the arrays were
-- read from bytes, a caller that was given them has the outcome in terms of the arrays.
-- Assumes nothing.
use mathlib.Core.Path.{◌≡◌, refl, sym, ◌∙◌, ap}
use mathlib.Core.List.{List}
use Prim.Native.Nat.{ℕ, ◌<◌, ◌≤◌}
use native.Mathlib.Omega.{arith}
use lib.ListN.{length, get_or}
use Rattle.std.specs.Prelude.{Result, Ok, Err}
use Rattle.model.specs.declared.refusal.Refusal.{Refusal}
use Rattle.model.specs.declared.Job.{Job}
use Rattle.model.specs.Limits.{max_jobs}
use Rattle.model.specs.Outcome.{answer}
use Rattle.model.specs.Jobs.{no_job, job_of, read_jobs, ValidJobs}
use Rattle.model.proofs.Entries.{length_list_of, get_d_list_of}
use Rattle.model.proofs.Jobs.{SoundJob, job_sound, jobs_faultless, jobs_valid}
use Rattle.model.proofs.Refusals.{RefusedBy, returned_refused, returned_answered}
use Rattle.reading.specs.Column.{column_of}
use Rattle.reading.proofs.Column.{column_at, column_cong}
use Rattle.reading.proofs.Read.{same_elements}
use Rattle.job_tables.specs.declared.jobs.JobTable.{JobTable}
use Rattle.job_tables.specs.Tables.{jobs_in, job_table, DecodedJobs}

-- the jobs in three arrays
module _ (count : ℕ) (releases deadlines cycles : List ℕ) where
  pub length_jobs_in : length (jobs_in count releases deadlines cycles) ≡ count
  unfolding jobs_in
  length_jobs_in = length_list_of count _

  pub job-in : (j : ℕ) → j < count
      → job_of (jobs_in count releases deadlines cycles) j
      ≡ record { release = get_or releases j 0; deadline = get_or deadlines j 0; cycles = get_or cycles j 0 }
  unfolding jobs_in
  job-in j below = get_d_list_of count _ j _ below

  -- what a valid table says of its count and of each entry
  module _ (valid : ValidJobs (jobs_in count releases deadlines cycles)) where
    pub jobs_count : count ≤ max_jobs
    jobs_count = rw length_jobs_in at valid.few

    pub sound_in : (j : ℕ) → j < count
        → SoundJob (record { release = get_or releases j 0; deadline = get_or deadlines j 0; cycles = get_or cycles j 0 })
    sound_in j below =
        let inside : j < length (jobs_in count releases deadlines cycles) = rw length_jobs_in below in
        rw (job-in j below) at ((job_sound _).0 (jobs_faultless _ valid j inside))

-- The table of a list of jobs.
abbrev table_of : List Job → JobTable
table_of jobs =
    record {
      count = length jobs;
      releases = column_of max_jobs (length jobs) (λ j. (job_of jobs j).release);
      deadlines = column_of max_jobs (length jobs) (λ j. (job_of jobs j).deadline);
      cycles = column_of max_jobs (length jobs) (λ j. (job_of jobs j).cycles);
    }

jobs_held : (jobs : List Job) → length jobs ≤ max_jobs
    → jobs_in (length jobs) (table_of jobs).releases (table_of jobs).deadlines (table_of jobs).cycles ≡ jobs
unfolding jobs_in
jobs_held jobs few =
    same_elements jobs no_job _ (λ j below. let inside : j < max_jobs = omega arith in rw (column_at, column_at, column_at))

-- an array that was filled has zeros past what was filled in
padded_column : (count : ℕ) (filling : ℕ → ℕ) (numbers : List ℕ) → count ≤ max_jobs → numbers ≡ column_of max_jobs count filling
    → numbers ≡ column_of max_jobs count (λ j. get_or numbers j 0)
padded_column count filling numbers few filled =
    filled
    ∙ column_cong max_jobs count _ _
    (λ j below. sym (ap (λ (l : List ℕ). get_or l j 0) filled ∙ column_at max_jobs filling count j (omega arith) below))

module _ (bytes : List ℕ) (table : JobTable) (read : job_table (read_jobs bytes) ≡ Ok table) where
  -- the jobs of the bytes stand in the arrays
  pub jobs_read : read_jobs bytes ≡ answer (jobs_in table.count table.releases table.deadlines table.cycles)
  jobs_read =
      let (jobs, answered, is) = returned_answered _ (read_jobs bytes) table read in
      answered ∙ ap answer (sym (held is (jobs_valid bytes jobs answered).few))
    where
      held : {jobs : List Job} → table_of jobs ≡ table → length jobs ≤ max_jobs → jobs_in table.count table.releases table.deadlines table.cycles ≡ jobs
      held {jobs} is few = rw (← is) (jobs_held jobs few)

  -- an array of one number of each job has zeros past the last job
  padded : (column : JobTable → List ℕ) (field : Job → ℕ)
      → ((jobs : List Job) → column (table_of jobs) ≡ column_of max_jobs (length jobs) (λ j. field (job_of jobs j)))
      → column table ≡ column_of max_jobs table.count (λ j. get_or (column table) j 0)
  padded column field filled =
      let (jobs, answered, is) = returned_answered _ (read_jobs bytes) table read in
      padded_one jobs is (jobs_valid bytes jobs answered).few
    where
      padded_one : (jobs : List Job) → table_of jobs ≡ table → length jobs ≤ max_jobs
          → column table ≡ column_of max_jobs table.count (λ j. get_or (column table) j 0)
      padded_one jobs is few = rw (← is) (padded_column (length jobs) _ _ few (filled jobs))

  pub deadlines_padded : table.deadlines ≡ column_of max_jobs table.count (λ j. get_or table.deadlines j 0)
  deadlines_padded = padded (λ own. own.deadlines) (λ job. job.deadline) (λ jobs. refl)

  pub cycles_padded : table.cycles ≡ column_of max_jobs table.count (λ j. get_or table.cycles j 0)
  cycles_padded = padded (λ own. own.cycles) (λ job. job.cycles) (λ jobs. refl)

-- the same where the jobs were decoded into lent arrays
module _ (bytes : List ℕ) (result : Result ℕ Refusal) (releases deadlines cycles : List ℕ)
    (decoded : DecodedJobs (read_jobs bytes) result releases deadlines cycles) where
  pub jobs_decoded_refused : (own : Refusal) → result ≡ Err own → RefusedBy (read_jobs bytes) own
  jobs_decoded_refused own e = returned_refused length (read_jobs bytes) own (sym decoded.told ∙ e)

  pub jobs_decoded : (count : ℕ) → result ≡ Ok count → read_jobs bytes ≡ answer (jobs_in count releases deadlines cycles)
  jobs_decoded count e = jobs_read bytes _ (sym (decoded.held count e))

  pub decoded_deadlines_padded : (count : ℕ) → result ≡ Ok count → deadlines ≡ column_of max_jobs count (λ j. get_or deadlines j 0)
  decoded_deadlines_padded count e = deadlines_padded bytes _ (sym (decoded.held count e))

  pub decoded_padded : (count : ℕ) → result ≡ Ok count → cycles ≡ column_of max_jobs count (λ j. get_or cycles j 0)
  decoded_padded count e = cycles_padded bytes _ (sym (decoded.held count e))
