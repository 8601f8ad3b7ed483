-- Jobs listed in three arrays, as far as these have room.
use Rattle.std.specs.Prelude.{ℕ, ◌<◌, ◌≤◌, ◌≡◌, List, length, get_or, Option, Some, None}
use Rattle.model.specs.declared.Job.{Job}
use Rattle.model.specs.Limits.{max_jobs}
use Rattle.model.specs.Jobs.{job_of}
use Rattle.job_tables.specs.Tables.{jobs_in}

-- Arrays for as many jobs as a table may have.
pub record JobArrays (releases deadlines cycles : List ℕ) : Type 0 where
  pub releases_room : length releases ≡ max_jobs
  pub deadlines_room : length deadlines ≡ max_jobs
  pub cycles_room : length cycles ≡ max_jobs

-- The jobs are counted, and those that the arrays have room for stand in them.
pub record ListedJobs (jobs : List Job) (count : ℕ) (releases deadlines cycles : List ℕ) : Type 0 where
  pub counted : count ≡ length jobs
  pub releases_held : (j : ℕ) → j < length jobs → j < max_jobs → get_or releases j 0 ≡ (job_of jobs j).release
  pub deadlines_held : (j : ℕ) → j < length jobs → j < max_jobs → get_or deadlines j 0 ≡ (job_of jobs j).deadline
  pub cycles_held : (j : ℕ) → j < length jobs → j < max_jobs → get_or cycles j 0 ≡ (job_of jobs j).cycles

-- A value is put at its number where there is room for it, and nothing else changes.
pub record PutAt (number value : ℕ) (before after : List ℕ) : Type 0 where
  pub there : number < max_jobs → get_or after number 0 ≡ value
  pub others : (j : ℕ) → (j ≡ number → ⊥) → get_or after j 0 ≡ get_or before j 0

-- A job is put at its number.
pub record AddedJob (job : Job) (number : ℕ) (releases deadlines cycles releases' deadlines' cycles' : List ℕ) : Type 0 where
  pub arrays : JobArrays releases' deadlines' cycles'
  pub release : PutAt number job.release releases releases'
  pub deadline : PutAt number job.deadline deadlines deadlines'
  pub cycle_count : PutAt number job.cycles cycles cycles'

-- All jobs are listed, and there is room for them.
pub record AllListed (jobs : List Job) (count : ℕ) (releases deadlines cycles : List ℕ) : Type 0 where
  pub few : count ≤ max_jobs
  pub counted : count ≡ length jobs
  pub held : jobs_in count releases deadlines cycles ≡ jobs

-- All jobs of a round are listed, or they are too many.
abbrev pub RoundListed : (jobs : List Job) → (listed : Option ℕ) → (releases deadlines cycles : List ℕ) → Type 0
RoundListed jobs None releases deadlines cycles = max_jobs < length jobs
RoundListed jobs (Some count) releases deadlines cycles = AllListed jobs count releases deadlines cycles
