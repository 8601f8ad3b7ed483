-- Laws of the job table: a job has no fault exactly when it keeps the limits, a table whose entries have none is
-- valid, and a reading answers entries exactly when the bytes encode a valid table of them.
-- Assumes nothing.
use mathlib.Core.Path.{◌≡◌}
use mathlib.Core.Logic.{◌↔◌}
use mathlib.Core.List.{List, ◌++◌}
use Prim.Native.Nat.{ℕ, ◌+◌, ◌*◌, ◌<◌, ◌≤◌}
use native.Mathlib.Omega.{arith}
use lib.Dec.{ltb}
use lib.ListN.{length, drop, length-append}
use borrow.Author.Tests.{ltb-false, leb-false, le-ltb, lt-leb, le-leb}
use Rattle.model.specs.declared.Job.{Job}
use Rattle.model.specs.Limits.{max_jobs, max_deadline, max_cycles}
use Rattle.model.specs.Outcome.{answer}
use Rattle.model.specs.Bytes.{number16, bytes32}
use Rattle.model.specs.Jobs.{no_job, job_of, job_at, wrong_window, wrong_cycles, fault_of_job, job_fault}
use Rattle.model.specs.Jobs.{read_jobs, ValidJobs, encode_jobs, JobsReadBack}
use Rattle.model.proofs.Bytes.{length_bytes_of, bytes_of_number_at, number_at_found, pair_written, pair_found}
use Rattle.model.proofs.Tests.{neither, in-range, no_fault}
use Rattle.model.proofs.Tables.{Table, TableLaws, table_sound, length_encoded, table_read_back}

-- the limits that a job keeps
pub record SoundJob (job : Job) : Type 0 where
  pub release_before_deadline : job.release < job.deadline
  pub deadline_high : job.deadline ≤ max_deadline
  pub cycles_low : 1 ≤ job.cycles
  pub cycles_high : job.cycles ≤ max_cycles

module _ (job : Job) where
  sound : fault_of_job job ≡ 0 → SoundJob job
  unfolding fault_of_job
  sound e =
      let passed = no_fault (wrong_window job) (wrong_cycles job) 8 9 e in
      let window = neither (ltb max_deadline job.deadline) _ passed.0 in
      let cycles = in-range job.cycles max_cycles passed.1 in
      record {
        release_before_deadline = leb-false _ _ window.1;
        deadline_high = ltb-false _ _ window.0;
        cycles_low = cycles.0;
        cycles_high = cycles.1;
      }

  faultless : SoundJob job → fault_of_job job ≡ 0
  unfolding fault_of_job
  faultless h =
      rw (
        le-ltb max_deadline job.deadline h.deadline_high,
        lt-leb job.deadline job.release h.release_before_deadline,
        le-leb 1 job.cycles h.cycles_low,
        le-leb job.cycles max_cycles h.cycles_high,
      )

  -- a job has no fault exactly when it keeps the limits
  pub job_sound : (fault_of_job job ≡ 0) ↔ SoundJob job
  job_sound = (sound, faultless)

-- no fault at any entry, and the count within its limit, make a valid table
pub valid-jobs : (jobs : List Job) → length jobs ≤ max_jobs → ((j : ℕ) → j < length jobs → job_fault jobs j ≡ 0) → ValidJobs jobs
valid-jobs jobs few faultless =
    record {
      few = few;
      release_before_deadline = λ j below. (at j below).release_before_deadline;
      deadline_high = λ j below. (at j below).deadline_high;
      cycles_low = λ j below. (at j below).cycles_low;
      cycles_high = λ j below. (at j below).cycles_high;
    }
  where
    at : (j : ℕ) → j < length jobs → SoundJob (job_of jobs j)
    at j below = (job_sound _).0 (faultless j below)

pub jobs_faultless : (jobs : List Job) → ValidJobs jobs → (j : ℕ) → j < length jobs → job_fault jobs j ≡ 0
jobs_faultless jobs h j below =
    (job_sound _).1 (record {
      release_before_deadline = h.release_before_deadline j below;
      deadline_high = h.deadline_high j below;
      cycles_low = h.cycles_low j below;
      cycles_high = h.cycles_high j below;
    })

-- a window in bytes
abbrev window_bytes : Job → List ℕ
window_bytes job = bytes32 job.release ++ bytes32 job.deadline

abbrev jobs_table : Table Job
jobs_table =
    record {
      first = window_bytes;
      second = λ job. bytes32 job.cycles;
      first_size = 8;
      second_size = 4;
      entry = job_at;
      none = no_job;
      short_number = 6;
      count_number = 7;
      length_number = 8;
      wrong_count = λ n. ltb max_jobs n;
      fault = job_fault;
    }

-- an entry stands where its window's and its cycles' bytes do
job_read : (jobs : List Job) → ValidJobs jobs → (bytes : List ℕ) (j : ℕ) → j < length jobs
    → (more : List ℕ) → drop (2 + 8 * j) bytes ≡ window_bytes (job_of jobs j) ++ more
    → (rest : List ℕ) → drop (2 + 8 * number16 bytes 0 + 4 * j) bytes ≡ bytes32 (job_of jobs j).cycles ++ rest
    → job_at bytes j ≡ job_of jobs j
unfolding job_at
job_read jobs h bytes j below more first rest second =
    let kept = (job_sound _).0 (jobs_faultless jobs h j below) in
    let window = pair_found (job_of jobs j).release (job_of jobs j).deadline bytes more (2 + 8 * j) first (omega arith) (omega arith) in
    rw (window.0, window.1, number_at_found 4 _ bytes rest (2 + 8 * number16 bytes 0 + 4 * j) second (omega arith))

jobs_laws : TableLaws jobs_table ValidJobs
unfolding job_at
jobs_laws =
    record {
      first-size = λ job. simp (length-append, length_bytes_of);
      second-size = λ job. length_bytes_of 4 job.cycles;
      count_small = λ n e. omega (arith, ltb-false max_jobs n e);
      valid_count = λ jobs h. le-ltb max_jobs (length jobs) h.few;
      valid_sound = jobs_faultless;
      sound_valid = λ bytes small jobs read e. valid-jobs jobs (ltb-false max_jobs (length jobs) e);
      first_written = λ bytes j. pair_written bytes (2 + 8 * j);
      second_written = λ bytes j. bytes_of_number_at 4 bytes (2 + 8 * number16 bytes 0 + 4 * j);
      entry_read = job_read;
    }

pub length_encode_jobs : (jobs : List Job) → length (encode_jobs jobs) ≡ 2 + 12 * length jobs
unfolding encode_jobs
length_encode_jobs = length_encoded jobs_table ValidJobs jobs_laws

-- what a reading answers is a valid table
pub jobs_valid : (bytes : List ℕ) (jobs : List Job) → read_jobs bytes ≡ answer jobs → ValidJobs jobs
unfolding read_jobs
jobs_valid bytes jobs e =
    let sound = table_sound jobs_table bytes jobs e in
    valid-jobs jobs (ltb-false max_jobs (length jobs) sound.0) sound.1

pub jobs_read_back : JobsReadBack
unfolding read_jobs encode_jobs
jobs_read_back = table_read_back jobs_table ValidJobs jobs_laws
