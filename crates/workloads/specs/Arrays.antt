-- What is to be placed, and shares and loads, in plain arrays.
use Rattle.std.specs.Prelude.{ℕ, ◌+◌, ◌*◌, ◌<◌, ◌≤◌, ◌≡◌, false, List, length, get_or, drop, ltb}
use Rattle.model.specs.Limits.{max_levels, max_frequency, max_jobs, max_deadline, max_cycles, max_intervals}
use Rattle.model.specs.Plans.{Shares, shares_in}
use Rattle.job_sets.specs.JobSets.{is_member}
use Rattle.job_sets.specs.IntervalSets.{set_words, set_in}
use Rattle.workloads.specs.Workloads.{Workload}
use Rattle.workloads.specs.Placement.{Problem, SoundProblem, load_of}

-- The numbers of an array by place, 0 past its end.
abbrev pub numbers_in : List ℕ → ℕ → ℕ
numbers_in array i = get_or array i 0

abbrev pub problem_in : Workload → Problem
problem_in work =
    record {
      jobs = work.jobs;
      intervals = work.intervals;
      bands = work.bands;
      first = numbers_in work.first;
      last = numbers_in work.last;
      cycles = numbers_in work.cycles;
      size = numbers_in work.size;
      frequency = numbers_in work.frequency;
    }

-- A workload of counts and arrays that are lent.
abbrev pub workload_with : (cycles : List ℕ) → (jobs intervals bands : ℕ) → (first last size frequency : List ℕ) → Workload
workload_with cycles jobs intervals bands first last size frequency =
    record {
      jobs = jobs;
      intervals = intervals;
      bands = bands;
      first = first;
      last = last;
      cycles = cycles;
      size = size;
      frequency = frequency;
    }

-- What a workload's arrays hold is sound, and within the limits of document 01.
pub record SoundWorkload (work : Workload) : Type 0 where
  pub sound : SoundProblem (problem_in work)
  pub jobs_most : work.jobs ≤ max_jobs
  pub intervals_most : work.intervals ≤ max_intervals
  pub bands_most : work.bands ≤ max_levels
  pub cycles_most : (j : ℕ) → j < work.jobs → numbers_in work.cycles j ≤ max_cycles
  pub size_most : (i : ℕ) → i < work.intervals → numbers_in work.size i ≤ max_deadline
  pub frequency_most : (k : ℕ) → k ≤ work.bands → numbers_in work.frequency k ≤ max_frequency

-- The table has room for all shares, and the loads of all intervals stand beside it, zeros past the last.
pub record Stored (work : Workload) (table loads : List ℕ) : Type 0 where
  pub table-length : work.intervals * work.jobs ≤ length table
  pub loads_length : length loads ≡ max_intervals
  pub loads_are : (i : ℕ) → i < work.intervals → numbers_in loads i ≡ load_of (problem_in work) (shares_in work.jobs table) i
  pub loads_past : (i : ℕ) → work.intervals ≤ i → numbers_in loads i ≡ 0

-- For each interval the array `room` has the cycles that it still takes at a frequency, zeros past the last.
pub record RoomAt (p : Problem) (shares : Shares) (frequency : ℕ) (room : List ℕ) : Type 0 where
  pub room_length : length room ≡ max_intervals
  pub room_is : (i : ℕ) → i < p.intervals → numbers_in room i + load_of p shares i ≡ p.size i * frequency
  pub room_past : (i : ℕ) → p.intervals ≤ i → numbers_in room i ≡ 0

-- For each interval a set has the jobs with a share there, and no other.
pub record Holding (p : Problem) (shares : Shares) (holders : List ℕ) : Type 0 where
  pub holders_length : length holders ≡ set_words
  pub held : (i j : ℕ) → i < p.intervals → j < p.jobs → is_member (set_in holders i) j ≡ ltb 0 (shares i j)
  pub held_past : (i j : ℕ) → i < p.intervals → p.jobs ≤ j → is_member (set_in holders i) j ≡ false

-- A workload with other windows.
abbrev pub lent_windows : Workload → (jobs : ℕ) → (first last : List ℕ) → Workload
lent_windows work jobs first last =
    record {
      jobs = jobs;
      intervals = work.intervals;
      bands = work.bands;
      first = first;
      last = last;
      cycles = work.cycles;
      size = work.size;
      frequency = work.frequency;
    }

-- A workload with another number of jobs.
abbrev pub lent_jobs : Workload → (jobs : ℕ) → Workload
lent_jobs work jobs = lent_windows work jobs work.first work.last

-- A table of which only the first `count` numbers may have changed.
pub record KeptPast (count : ℕ) (before after : List ℕ) : Type 0 where
  pub same_length : length after ≡ length before
  pub same_rest : drop count after ≡ drop count before
