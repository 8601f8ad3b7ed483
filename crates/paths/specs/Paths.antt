-- The path from an interval with room back to the job being placed, walked and moved along, over plain functions.
use Rattle.std.specs.Prelude.{ℕ, zero, suc, ◌+◌, ◌*◌, ◌<◌, ◌≤◌, ◌≡◌, ◌&&◌, eqb, ltb, leb}
use Rattle.model.specs.Limits.{max_jobs}
use Rattle.model.specs.Sum.{only_if}
use Rattle.model.specs.Search.{first_below}
use Rattle.model.specs.Plans.{Shares}
use Rattle.workloads.specs.Placement.{Problem, Open, load_of, placed_of}

module _ (p : Problem) where
  -- Shares with `amount` cycles more for one job in one interval, the others unchanged.
  pub record Grown (before after : Shares) (interval job amount : ℕ) : Type 0 where
    pub interval_below : interval < p.intervals
    pub job_below : job < p.jobs
    pub here : after interval job ≡ before interval job + amount
    pub other_interval : (i : ℕ) → i < p.intervals → (i ≡ interval → ⊥) → after i job ≡ before i job
    pub other_job : (i j : ℕ) → i < p.intervals → j < p.jobs → (j ≡ job → ⊥) → after i j ≡ before i j

  -- the number of the first reached job that is open in an interval, count where none is
  unfoldable pub first_open : (count : ℕ) → (reached : ℕ → ℕ) → (interval : ℕ) → ℕ
  first_open count reached i = first_below count (λ s. leb (p.first (reached s)) i && ltb i (p.last (reached s)))

  -- some reached job is open in an interval
  abbrev pub SomeOpen : (count : ℕ) → (reached : ℕ → ℕ) → (interval : ℕ) → Type 0
  SomeOpen count reached i = (s : ℕ) × (s < count) × Open p i (reached s)

  module _ (count : ℕ) (reached source : ℕ → ℕ) (target : ℕ) where
    -- the numbers of the reached jobs on the path from a target, in the order of the path
    unfoldable pub path_number : ℕ → ℕ
    path_number zero = first_open count reached target
    path_number (suc k) = first_open count reached (source (path_number k))

    -- A route has these numbers, up to that of the job being placed, which is 0.
    pub record Routed (route : ℕ → ℕ) : Type 0 where
      pub steps : ℕ
      pub few : steps < max_jobs
      pub ends : path_number steps ≡ 0
      pub numbers : (k : ℕ) → k ≤ steps → route k ≡ path_number k

  module _ (shares : Shares) (count : ℕ) (reached source : ℕ → ℕ) where
    -- `amount` cycles can go along the path from an interval back to the job being placed: in each interval the first
    -- reached job that is open there moves in, from its source, where it has at least as many, and the path goes on there.
    pub data Passes (amount : ℕ) : (gap : ℕ) → Type 0 where
      ends : {gap : ℕ} → first_open count reached gap ≡ 0 → Passes amount gap
      goes : {gap s : ℕ} → first_open count reached gap ≡ s → 0 < s → amount ≤ shares (source s) (reached s)
          → Passes amount (source s) → Passes amount gap

    -- While the path from `target` is walked to find out how many cycles can go along it: up to `gap` at most `limit` can,
    -- which is not 0, and it goes on over reached jobs with numbers below `bound`.
    pub record Walking (target limit gap bound : ℕ) : Type 0 where
      pub some : 1 ≤ limit
      pub gap_below : gap < p.intervals
      pub gap_reached : (s : ℕ) × (s < bound) × Open p gap (reached s)
      pub bound_within : bound ≤ count
      pub leads : (amount : ℕ) → amount ≤ limit → Passes amount gap → Passes amount target

  -- While `amount` cycles go along a path from `target`: they are taken out of interval `gap` and not yet put back there,
  -- so that the load of `gap` is amount too small, if it is not the target, and no other load but the target's has changed.
  -- The path goes on over reached jobs with numbers below `bound`, whose shares are as they were.
  pub record Moving (before shares : Shares) (prices : ℕ → ℕ) (band amount target gap bound : ℕ) (count : ℕ) (reached : ℕ → ℕ) : Type 0 where
    pub target_price : prices target ≡ band
    pub room : load_of p before target + amount ≤ p.size target * p.frequency (suc band)
    pub shut : (i j : ℕ) → i < p.intervals → j < p.jobs → 0 < shares i j → Open p i j
    pub cheapest : (i other j : ℕ) → i < p.intervals → other < p.intervals → j < p.jobs
        → 0 < shares i j → Open p other j → prices i ≤ prices other
    pub same_cycles : (j : ℕ) → j < p.jobs → placed_of p shares j ≡ placed_of p before j
    pub gap_below : gap < p.intervals
    pub gap_price : prices gap ≡ band
    pub gap_reached : (s : ℕ) × (s < bound) × Open p gap (reached s)
    pub bound_within : bound ≤ count
    pub kept : (i s : ℕ) → i < p.intervals → s < bound → shares i (reached s) ≡ before i (reached s)
    pub loads : (i : ℕ) → i < p.intervals → load_of p shares i + only_if (eqb i gap) amount ≡ load_of p before i + only_if (eqb i target) amount
