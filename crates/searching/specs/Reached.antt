-- What a search has reached and scanned, over plain functions.
use Rattle.std.specs.Prelude.{ℕ, suc, ◌*◌, ◌<◌, ◌≤◌, ◌≡◌}
use Rattle.model.specs.Plans.{Shares}
use Rattle.workloads.specs.Placement.{Problem, Open, load_of}

-- A list of `count` numbers with one number more at its end.
pub record Appended (count : ℕ) (before after : ℕ → ℕ) (value : ℕ) : Type 0 where
  pub same : (s : ℕ) → s < count → after s ≡ before s
  pub here : after count ≡ value

-- Job j is one of the first `count` of a list.
abbrev pub IsListed : (count : ℕ) → (listed : ℕ → ℕ) → (j : ℕ) → Type 0
IsListed count listed j = (s : ℕ) × (s < count) × (listed s ≡ j)

module _ (p : Problem) where
  -- The reached intervals, from `start` up to, not including, `end`, and the reached jobs, numbered 0 to count - 1: job 0 is
  -- the one being placed, and each other one has a share in an interval, its source, where an earlier one is open.
  pub record Reached (shares : Shares) (job : ℕ) (count : ℕ) (reached source : ℕ → ℕ) (start end : ℕ) : Type 0 where
    pub some : 1 ≤ count
    pub origin : reached 0 ≡ job
    pub job_below : (s : ℕ) → s < count → reached s < p.jobs
    pub differ : (r s : ℕ) → r < s → s < count → reached r ≡ reached s → ⊥
    pub end_below : end ≤ p.intervals
    pub from_start : (s : ℕ) → s < count → start ≤ p.first (reached s)
    pub to_end : (s : ℕ) → s < count → p.last (reached s) ≤ end
    pub covered : (i : ℕ) → start ≤ i → i < end → (s : ℕ) × (s < count) × Open p i (reached s)
    pub source_below : (s : ℕ) → 0 < s → s < count → source s < p.intervals
    pub source_share : (s : ℕ) → 0 < s → s < count → 0 < shares (source s) (reached s)
    pub source_reached : (s : ℕ) → 0 < s → s < count → (r : ℕ) × (r < s) × Open p (source s) (reached r)

  -- An interval that was scanned without being the target: it is full at the band, and all its jobs are reached.
  pub record Scanned (shares : Shares) (band count : ℕ) (reached : ℕ → ℕ) (i : ℕ) : Type 0 where
    pub full : p.size i * p.frequency (suc band) ≤ load_of p shares i
    pub listed : (j : ℕ) → j < p.jobs → 0 < shares i j → IsListed count reached j

  -- A search from a job reached a range in which no interval has room at the band.
  pub record Closed (shares : Shares) (job band start end : ℕ) : Type 0 where
    pub count : ℕ
    pub reached : ℕ → ℕ
    pub source : ℕ → ℕ
    pub now : Reached shares job count reached source start end
    pub scanned : (i : ℕ) → start ≤ i → i < end → Scanned shares band count reached i
