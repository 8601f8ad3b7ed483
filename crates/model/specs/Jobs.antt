-- The job table: reading it, what makes it valid, and how it is encoded (document 01, "Tables in bytes", "Reading jobs").
use Rattle.std.specs.Prelude.{ℕ, ◌+◌, ◌*◌, ◌<◌, ◌≤◌, ◌≡◌, ◌↔◌, Bool, not, cond, ◌||◌, ◌&&◌, List, ◌++◌, length, get_or, ltb, leb, eqb}
use Rattle.model.specs.declared.Job.{Job}
use Rattle.model.specs.Limits.{max_jobs, max_deadline, max_cycles}
use Rattle.model.specs.Outcome.{Outcome, answer, refuse_when, by_entry}
use Rattle.model.specs.Bytes.{IsBytes, number16, number32, bytes16, bytes32}
use Rattle.model.specs.Entries.{list_of, encode_each}

-- What stands at a number that no job has.
abbrev pub no_job : Job
no_job = record { release = 0; deadline = 0; cycles = 0 }

-- Job number j of a table, counted from 0.
abbrev pub job_of : List Job → ℕ → Job
job_of jobs j = get_or jobs j no_job

-- Jobs in bytes: n as 16 bits; windows (release, deadline), 32 bits each; cycles, 32 bits each.
abbrev pub job_count : List ℕ → ℕ
job_count bytes = number16 bytes 0

unfoldable pub job_at : List ℕ → ℕ → Job
job_at bytes j = record {
  release = number32 bytes (2 + 8 * j);
  deadline = number32 bytes (2 + 8 * j + 4);
  cycles = number32 bytes (2 + 8 * job_count bytes + 4 * j);
}

-- All entries that the count announces, as the bytes have them.
abbrev pub job_entries : List ℕ → List Job
job_entries bytes = list_of (job_count bytes) (job_at bytes)

-- 9: deadline above 1,000,000, or release not before deadline.
abbrev pub wrong_window : Job → Bool
wrong_window job = ltb max_deadline job.deadline || leb job.deadline job.release

-- 10: cycles out of range.
abbrev pub wrong_cycles : Job → Bool
wrong_cycles job = not (leb 1 job.cycles && leb job.cycles max_cycles)

-- The lower refusal number first; 0 for a job without fault.
unfoldable pub fault_of_job : Job → ℕ
fault_of_job job = cond (wrong_window job) 9 (cond (wrong_cycles job) 10 0)

-- The fault at entry j.
abbrev pub job_fault : List Job → ℕ → ℕ
job_fault jobs j = fault_of_job (job_of jobs j)

-- Reading jobs. 6: under 2 bytes. 7: count above 64. 8: length not 2 + 12n. By entry 9 and 10.
unfoldable pub read_jobs : List ℕ → Outcome (List Job)
read_jobs bytes =
    refuse_when (ltb (length bytes) 2) 6
    (refuse_when (ltb max_jobs (job_count bytes)) 7
    (refuse_when (not (eqb (length bytes) (2 + 12 * job_count bytes))) 8
    (by_entry (job_count bytes) (job_fault (job_entries bytes))
    (answer (job_entries bytes)))))

-- Limits: 0 to 64 jobs, release before deadline, deadlines up to 1,000,000, cycles 1 to 1,000,000,000.
pub record ValidJobs (jobs : List Job) : Type 0 where
  pub few : length jobs ≤ max_jobs
  pub release_before_deadline : (j : ℕ) → j < length jobs → (job_of jobs j).release < (job_of jobs j).deadline
  pub deadline_high : (j : ℕ) → j < length jobs → (job_of jobs j).deadline ≤ max_deadline
  pub cycles_low : (j : ℕ) → j < length jobs → 1 ≤ (job_of jobs j).cycles
  pub cycles_high : (j : ℕ) → j < length jobs → (job_of jobs j).cycles ≤ max_cycles

unfoldable pub encode_jobs : List Job → List ℕ
encode_jobs jobs =
    bytes16 (length jobs)
    ++ (encode_each (λ job. bytes32 job.release ++ bytes32 job.deadline) jobs
    ++ encode_each (λ job. bytes32 job.cycles) jobs)

-- The law of the job table, proved in proofs/Jobs.antt: a reading answers entries exactly when the bytes encode a
-- valid table, and then they are the encoded ones.
abbrev pub JobsReadBack : Type 0
JobsReadBack =
    (bytes : List ℕ) (jobs : List Job) → IsBytes bytes
    → (read_jobs bytes ≡ answer jobs) ↔ (ValidJobs jobs × (bytes ≡ encode_jobs jobs))
