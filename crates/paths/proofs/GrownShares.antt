-- Laws of one share that grows: the load of its interval and the cycles of its job grow by as much, all others stay. In the
-- shares table it is one number that changes.
-- Assumes nothing.
use mathlib.Core.Path.{◌≡◌, sym}
use mathlib.Core.Logic.{◌⊎◌, inl, inr}
use mathlib.Core.List.{List}
use Prim.Native.Nat.{ℕ, ◌+◌, ◌-◌, ◌*◌, ◌<◌, ◌≤◌}
use native.Mathlib.Decide.{ℕ_discrete}
use native.Mathlib.Omega.{arith}
use lib.Dec.{eqb}
use lib.ListN.{length, get_or}
use lib.Seq.{get_or-set_same, get_or-set_other}
use borrow.Author.Tests.{eq-eqb, ne_eqb}
use Rattle.model.specs.Sum.{only_if}
use Rattle.model.specs.Plans.{Shares, shares_in}
use Rattle.model.proofs.Sum.{sum_cong, sum_update}
use Rattle.workloads.specs.Placement.{Problem, load_of, placed_of}
use Rattle.workloads.proofs.SharesTable.{place_in, place_interval, place_job}
use Rattle.paths.specs.Paths.{Grown}
use Rattle.paths.specs.Moves.{put_at, taken_at}

module _ {p : Problem} {before after : Shares} {interval job amount : ℕ} (grown : Grown p before after interval job amount) where
  -- a share stays, or it is the one that grew
  pub grown_case : (i j : ℕ) → i < p.intervals → j < p.jobs → (after i j ≡ before i j) ⊎ ((i ≡ interval) × (j ≡ job))
  grown_case i j inside below = go (ℕ_discrete j job) (ℕ_discrete i interval)
    where
      go : Dec (j ≡ job) → Dec (i ≡ interval) → (after i j ≡ before i j) ⊎ ((i ≡ interval) × (j ≡ job))
      go (no other) there = inl (grown.other_job i j inside below other)
      go (yes its) (no other) = inl (rw its (grown.other_interval i inside other))
      go (yes its) (yes there) = inr (there, its)

  -- in other intervals all shares stay
  pub grown_elsewhere : (i j : ℕ) → i < p.intervals → j < p.jobs → (i ≡ interval → ⊥) → after i j ≡ before i j
  grown_elsewhere i j inside below other = go (grown_case i j inside below)
    where
      go : (after i j ≡ before i j) ⊎ ((i ≡ interval) × (j ≡ job)) → after i j ≡ before i j
      go (inl same) = same
      go (inr (there, its)) = absurd (other there)

  -- no share falls
  pub grown_most : (i j : ℕ) → i < p.intervals → j < p.jobs → before i j ≤ after i j
  grown_most i j inside below = go (grown_case i j inside below)
    where
      go : (after i j ≡ before i j) ⊎ ((i ≡ interval) × (j ≡ job)) → before i j ≤ after i j
      go (inl same) = omega arith
      go (inr (there, its)) = rw (there, its) (omega (arith, grown.here))

  pub grown_load : (i : ℕ) → i < p.intervals → load_of p after i ≡ load_of p before i + only_if (eqb i interval) amount
  grown_load i inside = go (ℕ_discrete i interval)
    where
      go : Dec (i ≡ interval) → load_of p after i ≡ load_of p before i + only_if (eqb i interval) amount
      go (yes there) =
          rw (eq-eqb i interval there, there)
          (sum_update p.jobs (before interval) (after interval) job amount grown.job_below grown.here
          (λ j below other. grown.other_job interval j grown.interval_below below other))
      go (no other) =
          let same : load_of p after i ≡ load_of p before i = sum_cong p.jobs (λ j below. grown_elsewhere i j inside below other) in
          rw (ne_eqb i interval other) (omega arith)

  pub grown_placed : (j : ℕ) → j < p.jobs → placed_of p after j ≡ placed_of p before j + only_if (eqb j job) amount
  grown_placed j below = go (ℕ_discrete j job)
    where
      go : Dec (j ≡ job) → placed_of p after j ≡ placed_of p before j + only_if (eqb j job) amount
      go (yes its) =
          rw (eq-eqb j job its, its)
          (sum_update p.intervals (λ i. before i job) (λ i. after i job) interval amount grown.interval_below grown.here grown.other_interval)
      go (no other) =
          let same : placed_of p after j ≡ placed_of p before j = sum_cong p.intervals (λ i inside. grown.other_job i j inside below other) in
          rw (ne_eqb j job other) (omega arith)

-- no number falls where one grows
pub put_most : (table : List ℕ) (place amount : ℕ) → place < length table → (k : ℕ) → get_or table k 0 ≤ get_or (put_at table place amount) k 0
put_most table place amount inside k = go (ℕ_discrete k place)
  where
    go : Dec (k ≡ place) → get_or table k 0 ≤ get_or (put_at table place amount) k 0
    go (yes here) = rw (here, get_or-set_same table place (get_or table place 0 + amount) 0 inside) (omega arith)
    go (no other) = rw (get_or-set_other table place k (get_or table place 0 + amount) 0 other) (omega arith)

-- tables that differ at one place
module _ {p : Problem} {i j amount : ℕ} (inside : i < p.intervals) (below : j < p.jobs) where
  grown_at : (before after : List ℕ) → get_or after (i * p.jobs + j) 0 ≡ get_or before (i * p.jobs + j) 0 + amount
      → ((k : ℕ) → (k ≡ i * p.jobs + j → ⊥) → get_or after k 0 ≡ get_or before k 0)
      → Grown p (shares_in p.jobs before) (shares_in p.jobs after) i j amount
  grown_at before after here others =
      record {
        interval_below = inside;
        job_below = below;
        here = here;
        other_interval = λ k h other. others (k * p.jobs + j) (λ e. other (place_interval p.jobs k j i j below below e));
        other_job = λ k l h next other. others (k * p.jobs + l) (λ e. other (place_job p.jobs k l i j next below e));
      }

  module _ (table : List ℕ) (room : p.intervals * p.jobs ≤ length table) where
    -- one share grows
    pub grown_put : Grown p (shares_in p.jobs table) (shares_in p.jobs (put_at table (i * p.jobs + j) amount)) i j amount
    grown_put =
        grown_at table (put_at table (i * p.jobs + j) amount) (get_or-set_same table _ _ 0 (place_in table room inside below)) (λ k other. get_or-set_other table _ k _ 0 other)

    -- one share falls
    pub grown_taken : amount ≤ get_or table (i * p.jobs + j) 0
        → Grown p (shares_in p.jobs (taken_at table (i * p.jobs + j) amount)) (shares_in p.jobs table) i j amount
    grown_taken enough =
        grown_at (taken_at table (i * p.jobs + j) amount) table
        (rw (get_or-set_same table (i * p.jobs + j) (get_or table (i * p.jobs + j) 0 - amount) 0 (place_in table room inside below)) (omega arith))
        (λ k other. sym (get_or-set_other table _ k _ 0 other))
