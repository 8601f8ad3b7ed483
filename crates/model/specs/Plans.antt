-- A plan's shares, and the plans that serve (document 01, "Load"; demand 2).
use Rattle.std.specs.Prelude.{ℕ, ◌+◌, ◌*◌, ◌<◌, ◌≤◌, ◌≡◌, false, List, length, get_or}
use Rattle.model.specs.declared.Job.{Job}
use Rattle.model.specs.Sum.{sum}
use Rattle.model.specs.Jobs.{job_of}
use Rattle.model.specs.Intervals.{interval_count, length_of, is_open}

-- Which job gets how many cycles in which interval: the share of a job in an interval.
abbrev pub Shares : Type 0
Shares = (interval job : ℕ) → ℕ

-- The shares table has the share of job j in interval i at i × jobs + j.
abbrev pub shares_in : (jobs : ℕ) → List ℕ → Shares
shares_in jobs table i j = get_or table (i * jobs + j) 0

-- The load of an interval is the sum of its jobs' cycles there.
unfoldable pub load : List Job → Shares → (interval : ℕ) → ℕ
load jobs shares i = sum (length jobs) (shares i)

-- A plan gives each job exactly its cycles between release and deadline, and loads no interval past its length × top frequency.
pub record Gives (top : ℕ) (jobs : List Job) (bounds : List ℕ) (shares : Shares) : Type 0 where
  pub whole : (j : ℕ) → j < length jobs → sum (interval_count bounds) (λ i. shares i j) ≡ (job_of jobs j).cycles
  pub shut : (i j : ℕ) → i < interval_count bounds → j < length jobs → is_open bounds (job_of jobs j) i ≡ false → shares i j ≡ 0
  pub fits : (i : ℕ) → i < interval_count bounds → load jobs shares i ≤ length_of bounds i * top
