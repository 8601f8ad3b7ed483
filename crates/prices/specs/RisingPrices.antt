-- The smallest prices that fit shares, bands counted from 0: they start at the least band that each load allows, and rise
-- while some job has a share at a higher price than an interval in which it is open.
use Rattle.std.specs.Prelude.{ℕ, suc, ◌-◌, ◌*◌, ◌<◌, ◌≤◌, max, ◌≡◌, Bool, true, false, ◌⊎◌, List, length}
use Rattle.model.specs.Limits.{max_jobs, max_intervals}
use Rattle.model.specs.Sum.{sum, only_if}
use Rattle.model.specs.Plans.{Shares, shares_in}
use Rattle.job_sets.specs.declared.JobSet.{JobSet}
use Rattle.job_sets.specs.JobSets.{is_member}
use Rattle.job_sets.specs.IntervalSets.{set_in}
use Rattle.workloads.specs.Workloads.{Workload}
use Rattle.workloads.specs.Placement.{Problem, Open, Priced, SmallestPriced, load_of}
use Rattle.workloads.specs.Arrays.{numbers_in, problem_in, workload_with, SoundWorkload, Stored, Holding, lent_windows}

-- The prices of the intervals from `start` up to, not including, `end` raised to at least `price`, the others unchanged.
pub record Raised (start end price : ℕ) (before after : ℕ → ℕ) : Type 0 where
  pub inside : (i : ℕ) → start ≤ i → i < end → after i ≡ max (before i) price
  pub outside : (i : ℕ) → (i < start) ⊎ (end ≤ i) → after i ≡ before i

-- What the sets of the jobs with a share say of the shares: where there is one.
unfoldable pub held_shares : (holders : List ℕ) → Shares
held_shares holders i j = only_if (is_member (set_in holders i) j) 1

-- The least band, of `bands`, that ends at or above a load.
pub record LeastBand (frequency : ℕ → ℕ) (bands size load band : ℕ) : Type 0 where
  pub passed : (k : ℕ) → k < band → size * frequency (suc k) < load
  pub enough : band < bands → load ≤ size * frequency (suc band)

-- The highest price among the intervals from first up to, not including, last in which a job has a share; 0 where it has none.
pub record HighestPrice (shares : Shares) (prices : ℕ → ℕ) (job first last price : ℕ) : Type 0 where
  pub most : (i : ℕ) → first ≤ i → i < last → 0 < shares i job → prices i ≤ price
  pub held : 0 < price → (i : ℕ) × (first ≤ i) × (i < last) × (0 < shares i job) × (prices i ≡ price)

-- Whether an interval from start up to, not including, end has a lower price.
pub record IsBelow (prices : ℕ → ℕ) (start end price : ℕ) (below : Bool) : Type 0 where
  pub found : below ≡ true → (i : ℕ) × (start ≤ i) × (i < end) × (prices i < price)
  pub none : below ≡ false → (i : ℕ) → start ≤ i → i < end → price ≤ prices i

-- A raise that a job forces: some interval has its share at no lower price, another one of its window a lower one.
pub record JobRaise (shares : Shares) (before after : ℕ → ℕ) (job first last : ℕ) : Type 0 where
  pub from : ℕ
  pub from_first : first ≤ from
  pub from_last : from < last
  pub share : 0 < shares from job
  pub price : ℕ
  pub price_most : price ≤ before from
  pub raised : Raised first last price before after
  pub lower : ℕ
  pub lower_first : first ≤ lower
  pub lower_last : lower < last
  pub is_lower : before lower < price

-- Whether a window had a price below one to which it was raised then.
pub record WindowStep (before after : List ℕ) (first last price : ℕ) (changed : Bool) : Type 0 where
  pub same_length : length after ≡ length before
  pub raised : changed ≡ true → Raised first last price (numbers_in before) (numbers_in after)
  pub lower : changed ≡ true → (i : ℕ) × (first ≤ i) × (i < last) × (numbers_in before i < price)
  pub same : changed ≡ false → after ≡ before
  pub none : changed ≡ false → (i : ℕ) → first ≤ i → i < last → price ≤ numbers_in before i

-- The numbers of a set's members grow to at least a price.
pub record MembersRaised (set : JobSet) (price : ℕ) (before after : List ℕ) : Type 0 where
  pub size : length after ≡ max_jobs
  pub members : (j : ℕ) → is_member set j ≡ true → numbers_in after j ≡ max (numbers_in before j) price
  pub others : (j : ℕ) → is_member set j ≡ false → numbers_in after j ≡ numbers_in before j

-- For each job the highest price at which it has a share in the first intervals.
pub record HighestPrices (holders prices : List ℕ) (intervals : ℕ) (highest : List ℕ) : Type 0 where
  pub size : length highest ≡ max_jobs
  pub each : (j : ℕ) → j < max_jobs → HighestPrice (held_shares holders) (numbers_in prices) j 0 intervals (numbers_in highest j)

module _ (p : Problem) (shares : Shares) where
  -- The invariant while prices rise: no load is past its band, and no prices that fit are smaller anywhere.
  pub record Rising (prices : ℕ → ℕ) : Type 0 where
    pub high : (i : ℕ) → i < p.intervals → load_of p shares i ≤ p.size i * p.frequency (suc (prices i))
    pub smallest : (others : ℕ → ℕ) → Priced p shares others → (i : ℕ) → i < p.intervals → prices i ≤ others i

  -- A job runs nowhere at a price above one of an interval in which it is open.
  abbrev pub Settled : (prices : ℕ → ℕ) → (job : ℕ) → Type 0
  Settled prices j = (i other : ℕ) → i < p.intervals → other < p.intervals → 0 < shares i j → Open p other j → prices i ≤ prices other

-- How far the prices are below the last band, added.
abbrev pub room_left : (intervals bands : ℕ) → (prices : ℕ → ℕ) → ℕ
room_left intervals bands prices = sum intervals (λ i. bands - prices i)

-- Shares and loads are stored, and some prices fit them.
pub record CanPrice (work : Workload) (table loads : List ℕ) : Type 0 where
  pub sound : SoundWorkload work
  pub stored : Stored work table loads
  pub fitting : ℕ → ℕ
  pub priced : Priced (problem_in work) (shares_in work.jobs table) fitting

-- Prices can rise.
pub record CanRise (work : Workload) (table prices : List ℕ) : Type 0 where
  pub sound : SoundWorkload work
  pub table-length : work.intervals * work.jobs ≤ length table
  pub prices_length : length prices ≡ max_intervals
  pub fitting : ℕ → ℕ
  pub priced : Priced (problem_in work) (shares_in work.jobs table) fitting
  pub rising : Rising (problem_in work) (shares_in work.jobs table) (numbers_in prices)

-- The first `count` jobs have raised prices, or are settled.
pub record RisePass (work : Workload) (table before after : List ℕ) (count : ℕ) (changed : Bool) : Type 0 where
  pub prices_length : length after ≡ max_intervals
  pub risen : (i : ℕ) → numbers_in before i ≤ numbers_in after i
  pub rising : Rising (problem_in work) (shares_in work.jobs table) (numbers_in after)
  pub falls : changed ≡ true → room_left work.intervals work.bands (numbers_in after) < room_left work.intervals work.bands (numbers_in before)
  pub same : changed ≡ false → after ≡ before
  pub settled : changed ≡ false → (j : ℕ) → j < count → Settled (problem_in work) (shares_in work.jobs table) (numbers_in after) j

-- To a function that is lent all of a workload but its cycles, and of the shares the sets of the jobs with one: some prices fit, with some
-- cycles and shares, and with any such the smallest are found.
abbrev pub ArraysPrice : (jobs intervals bands : ℕ) → (first last size frequency : List ℕ) → (holders loads : List ℕ) → Type 0
ArraysPrice jobs intervals bands first last size frequency holders loads =
    (cycles : List ℕ) × (table : List ℕ) × CanPrice (workload_with cycles jobs intervals bands first last size frequency) table loads
    × Holding (problem_in (workload_with cycles jobs intervals bands first last size frequency)) (shares_in jobs table) holders

abbrev pub ArraysPriced : (jobs intervals bands : ℕ) → (first last size frequency : List ℕ) → (holders loads prices : List ℕ) → Type 0
ArraysPriced jobs intervals bands first last size frequency holders loads prices =
    (cycles table : List ℕ) → CanPrice (workload_with cycles jobs intervals bands first last size frequency) table loads
    → Holding (problem_in (workload_with cycles jobs intervals bands first last size frequency)) (shares_in jobs table) holders
    → SmallestPriced (problem_in (workload_with cycles jobs intervals bands first last size frequency)) (shares_in jobs table) (numbers_in prices)

-- To a function that is lent windows and these sets alone: prices can rise, of some such workload, and all jobs are gone over, of each.
pub record CanRiseBy (work : Workload) (table holders prices : List ℕ) (intervals : ℕ) : Type 0 where
  pub rise : CanRise work table prices
  pub holding : Holding (problem_in work) (shares_in work.jobs table) holders
  pub intervals_are : intervals ≡ work.intervals

abbrev pub WindowsRise : (jobs intervals : ℕ) → (first last : List ℕ) → (holders prices : List ℕ) → Type 0
WindowsRise jobs intervals first last holders prices =
    (work : Workload) × (table : List ℕ) × CanRiseBy (lent_windows work jobs first last) table holders prices intervals

abbrev pub WindowsRisen : (jobs intervals : ℕ) → (first last : List ℕ) → (holders before after : List ℕ) → (changed : Bool) → Type 0
WindowsRisen jobs intervals first last holders before after changed =
    (work : Workload) (table : List ℕ) → CanRiseBy (lent_windows work jobs first last) table holders before intervals
    → RisePass (lent_windows work jobs first last) table before after jobs changed

-- To one that is lent the highest price of each job in place of the sets.
pub record CanRaise (work : Workload) (table highest prices : List ℕ) : Type 0 where
  pub rise : CanRise work table prices
  pub size : length highest ≡ max_jobs
  pub each : (j : ℕ) → j < work.jobs → HighestPrice (shares_in work.jobs table) (numbers_in prices) j 0 work.intervals (numbers_in highest j)

abbrev pub JobsRaise : (jobs : ℕ) → (first last : List ℕ) → (highest prices : List ℕ) → Type 0
JobsRaise jobs first last highest prices = (work : Workload) × (table : List ℕ) × CanRaise (lent_windows work jobs first last) table highest prices

abbrev pub JobsRaised : (jobs : ℕ) → (first last : List ℕ) → (highest before after : List ℕ) → (changed : Bool) → Type 0
JobsRaised jobs first last highest before after changed =
    (work : Workload) (table : List ℕ) → CanRaise (lent_windows work jobs first last) table highest before
    → RisePass (lent_windows work jobs first last) table before after jobs changed
