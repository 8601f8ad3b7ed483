-- What must still cross each bound, while given loads are filled anew: interval after interval, and in each the open jobs by number.
-- `cross b` are the cycles still to be run before bound b by jobs that are due after it.
use Rattle.std.specs.Prelude.{ℕ, ◌+◌, ◌-◌, ◌<◌, ◌≤◌, ◌≡◌, ◌⊎◌, eqb, leb}
use Rattle.model.specs.Sum.{sum, only_if}
use Rattle.workloads.specs.Placement.{Problem}

-- How many of the first `count` numbers are 0.
unfoldable pub zero_count : (count : ℕ) → (ℕ → ℕ) → ℕ
zero_count count f = sum count (λ k. only_if (eqb (f k) 0) 1)

-- The crosses of the bounds strictly between two are lowered.
pub record Lowered (i d amount : ℕ) (before after : ℕ → ℕ) : Type 0 where
  pub inside : (b : ℕ) → i < b → b < d → after b + amount ≡ before b
  pub outside : (b : ℕ) → (b ≤ i) ⊎ (d ≤ b) → after b ≡ before b

-- One cell: job j, due at bound d, takes `amount` of what is left of it in interval i, the most that leaves no cross below 0.
pub record Takes (i j d amount : ℕ) (left cross left_after cross-after : ℕ → ℕ) : Type 0 where
  pub here : left_after j + amount ≡ left j
  pub others : (q : ℕ) → (q ≡ j → ⊥) → left_after q ≡ left q
  pub lowered : Lowered i d amount cross cross-after
  pub most : (left_after j ≡ 0) ⊎ ((b : ℕ) × (i < b) × (b < d) × (cross-after b ≡ 0))

module _ (p : Problem) where
  -- Of numbers of cycles, those of the jobs due by a bound.
  unfoldable pub due_by : (cycles : ℕ → ℕ) → (bound : ℕ) → ℕ
  due_by cycles b = sum p.jobs (λ j. only_if (leb (p.last j) b) (cycles j))

  -- The invariant in interval i after the first `count` jobs, with `left j` cycles of each job j still to be placed, `placed` cycles
  -- placed in all, and `steps` cells with a share.
  pub record Crossing (loads left cross : ℕ → ℕ) (i count placed steps : ℕ) : Type 0 where
    -- what is placed, what is left of the jobs due by a bound and what must cross it are the loads before it
    pub balance : (b : ℕ) → i < b → b ≤ p.intervals → cross b + due_by left b + placed ≡ sum b loads
    pub first : cross 0 ≡ 0
    pub last : cross p.intervals ≡ 0
    -- nothing is left of a job that is due, and all of one that is not yet released
    pub ended : (q : ℕ) → q < p.jobs → p.last q ≤ i → left q ≡ 0
    pub later : (q : ℕ) → q < p.jobs → i < p.first q → left q ≡ p.cycles q
    -- a job that was passed in this interval with cycles left could take no more: nothing crosses a bound before it is due
    pub passed : (q : ℕ) → q < count → p.first q ≤ i → 0 < left q → (b : ℕ) × (i < b) × (b < p.last q) × (cross b ≡ 0)
    -- each cell with a share has finished its job or brought a cross to 0; the cross of bound 0 was 0 from the start
    pub few : steps ≤ zero_count p.jobs left + zero_count p.intervals cross - 1
