-- Shares that fill given loads anew: while they are filled, and at the end, when they are few and the greatest with these loads.
use Rattle.std.specs.Prelude.{ℕ, ◌+◌, ◌-◌, ◌<◌, ◌≤◌, ◌≡◌, ◌⊎◌, ltb}
use Rattle.model.specs.Sum.{sum, only_if}
use Rattle.model.specs.Plans.{Shares}
use Rattle.workloads.specs.Placement.{Problem, OnlyOpen, load_of, placed_of}
use Rattle.loads.specs.Loads.{Serving}
use Rattle.loads.specs.Crossing.{Crossing}

-- Cell order: the cell of interval k and job q comes before that of interval i and job j.
abbrev pub Before : (k q i j : ℕ) → Type 0
Before k q i j = (k < i) ⊎ ((k ≡ i) × (q < j))

module _ (p : Problem) where
  -- All cycles that are placed.
  abbrev pub total : Shares → ℕ
  total shares = sum p.intervals (load_of p shares)

  -- The number of cells with a share: a plan's steps.
  abbrev pub cell_count : Shares → ℕ
  cell_count shares = sum p.intervals (λ i. sum p.jobs (λ j. only_if (ltb 0 (shares i j)) 1))

  -- Two tables agree in all cells before that of interval i and job j.
  abbrev pub Agree : (i j : ℕ) → (one two : Shares) → Type 0
  Agree i j one two = (k q : ℕ) → k < p.intervals → q < p.jobs → Before k q i j → one k q ≡ two k q

  -- Shares of a plan that runs no more than these loads before any bound.
  pub record Rival (loads : ℕ → ℕ) (shares : Shares) : Type 0 where
    pub serving : Serving p shares
    pub behind : (b : ℕ) → b ≤ p.intervals → sum b (load_of p shares) ≤ sum b loads

  -- No such plan has more in a cell, where it agrees before it.
  abbrev pub GreatestAt : (loads : ℕ → ℕ) → (shares : Shares) → (k q : ℕ) → Type 0
  GreatestAt loads shares k q = (rival : Shares) → Rival loads rival → Agree k q rival shares → rival k q ≤ shares k q

  -- The invariant before the cell of interval i and job j: the cells from there on are empty.
  pub record Refilling (loads : ℕ → ℕ) (shares : Shares) (left cross : ℕ → ℕ) (i j : ℕ) : Type 0 where
    pub crossing : Crossing p loads left cross i j (total shares) (cell_count shares)
    pub shut : OnlyOpen p shares
    pub rest : (q : ℕ) → q < p.jobs → placed_of p shares q + left q ≡ p.cycles q
    pub rows : (k : ℕ) → k < i → load_of p shares k ≡ loads k
    pub unwritten : (k q : ℕ) → k < p.intervals → q < p.jobs → (Before k q i j → ⊥) → shares k q ≡ 0
    pub greatest : (k q : ℕ) → k < p.intervals → q < p.jobs → Before k q i j → GreatestAt loads shares k q

  -- The loads are filled: all cycles are placed in at most jobs + intervals − 1 cells, none where there are no jobs.
  pub record Refilled (loads : ℕ → ℕ) (shares : Shares) : Type 0 where
    pub serving : Serving p shares
    pub loads_are : (i : ℕ) → i < p.intervals → load_of p shares i ≡ loads i
    pub few : cell_count shares ≤ p.jobs + p.intervals - 1
    pub greatest : (k q : ℕ) → k < p.intervals → q < p.jobs → GreatestAt loads shares k q
