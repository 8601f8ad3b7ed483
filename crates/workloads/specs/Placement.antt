-- What is to be placed, shares with prices that fit them, and shares that place all of it, over plain functions.
-- Intervals and jobs count from 0, and so do bands: band k goes from frequency k to frequency k + 1.
use Rattle.std.specs.Prelude.{ℕ, suc, ◌*◌, ◌<◌, ◌≤◌, ◌≡◌}
use Rattle.model.specs.Sum.{sum}
use Rattle.model.specs.Plans.{Shares}

-- What is to be placed: for each job the intervals from first up to, not including, last in which it is open, and its
-- cycles; for each interval its length; the frequencies of the working points 0 to bands.
pub record Problem : Type 0 where
  pub jobs : ℕ
  pub intervals : ℕ
  pub bands : ℕ
  pub first : ℕ → ℕ
  pub last : ℕ → ℕ
  pub cycles : ℕ → ℕ
  pub size : ℕ → ℕ
  pub frequency : ℕ → ℕ

-- Each job is open in at least one interval, there is a band, and the frequencies rise from 0.
pub record SoundProblem (p : Problem) : Type 0 where
  pub window : (j : ℕ) → j < p.jobs → p.first j < p.last j
  pub inside : (j : ℕ) → j < p.jobs → p.last j ≤ p.intervals
  pub some_band : 1 ≤ p.bands
  pub start : p.frequency 0 ≡ 0
  pub rises : (k : ℕ) → k < p.bands → p.frequency k < p.frequency (suc k)

module _ (p : Problem) where
  -- job j is open in interval i
  pub record Open (i j : ℕ) : Type 0 where
    pub from : p.first j ≤ i
    pub to : i < p.last j

  -- shares stand only where their jobs are open
  abbrev pub OnlyOpen : Shares → Type 0
  OnlyOpen shares = (i j : ℕ) → i < p.intervals → j < p.jobs → 0 < shares i j → Open i j

  -- the load of an interval
  abbrev pub load_of : Shares → ℕ → ℕ
  load_of shares i = sum p.jobs (shares i)

  -- the cycles that a job has so far
  abbrev pub placed_of : Shares → ℕ → ℕ
  placed_of shares j = sum p.intervals (λ i. shares i j)

  -- Shares with prices that fit: shares only where open, each load between the ends of its interval's band, and no job
  -- that runs in an interval is open in one of smaller price (rules 23 and 24).
  pub record Priced (shares : Shares) (prices : ℕ → ℕ) : Type 0 where
    pub shut : (i j : ℕ) → i < p.intervals → j < p.jobs → 0 < shares i j → Open i j
    pub band : (i : ℕ) → i < p.intervals → prices i < p.bands
    pub low : (i : ℕ) → i < p.intervals → p.size i * p.frequency (prices i) ≤ load_of shares i
    pub high : (i : ℕ) → i < p.intervals → load_of shares i ≤ p.size i * p.frequency (suc (prices i))
    pub cheapest : (i other j : ℕ) → i < p.intervals → other < p.intervals → j < p.jobs
        → 0 < shares i j → Open other j → prices i ≤ prices other

  -- The smallest prices that fit.
  pub record SmallestPriced (shares : Shares) (prices : ℕ → ℕ) : Type 0 where
    pub priced : Priced shares prices
    pub smallest : (others : ℕ → ℕ) → Priced shares others → (i : ℕ) → i < p.intervals → prices i ≤ others i

  -- All jobs have all their cycles.
  pub record Placed (shares : Shares) (prices : ℕ → ℕ) : Type 0 where
    pub priced : Priced shares prices
    pub whole : (j : ℕ) → j < p.jobs → placed_of shares j ≡ p.cycles j
