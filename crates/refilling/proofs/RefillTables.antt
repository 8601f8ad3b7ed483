-- Laws of filling in plain arrays: a job takes what it can, jobs are passed, and the next interval is begun.
-- Assumes nothing.
use mathlib.Core.Path.{◌≡◌}
use mathlib.Core.Logic.{◌⊎◌, inl, inr}
use mathlib.Core.List.{List}
use Prim.Native.Nat.{ℕ, suc, ◌+◌, ◌-◌, ◌*◌, ◌<◌, ◌≤◌}
use native.Mathlib.Nat.{eq-zero-or-pos, mul-le-mul_right}
use native.Mathlib.Omega.{arith}
use lib.ListN.{length-set}
use Rattle.model.specs.Plans.{Shares, shares_in}
use Rattle.workloads.specs.Workloads.{Workload}
use Rattle.workloads.specs.Placement.{Problem, Open}
use Rattle.workloads.specs.Arrays.{numbers_in, problem_in, Holding, KeptPast}
use Rattle.workloads.proofs.SharesTable.{place_below, kept_refl, kept_set}
use Rattle.paths.specs.Paths.{Grown}
use Rattle.paths.proofs.GrownShares.{grown_case, grown_put}
use Rattle.paths.proofs.HeldJobs.{holding_put}
use Rattle.loads.proofs.Refilled.{own_zero, refill_takes, refill_passes, refill_rows}
use Rattle.refilling.specs.Cells.{CanTake, CellTaken}
use Rattle.refilling.specs.RefillTables.{RefillTables}

-- a cell that takes nothing leaves the sets
holding_same : {p : Problem} {before after : Shares} {holders : List ℕ} {i j : ℕ} → Holding p before holders → Grown p before after i j 0 → Holding p after holders
holding_same {p} {before} {after} {i = i} {j} holding grown =
    record {
      holders_length = holding.holders_length;
      held = λ k q inside below. rw (same k q (grown_case grown k q inside below)) (holding.held k q inside below);
      held_past = holding.held_past;
    }
  where
    same : (k q : ℕ) → (after k q ≡ before k q) ⊎ ((k ≡ i) × (q ≡ j)) → after k q ≡ before k q
    same k q (inl e) = e
    same k q (inr (there, its)) = rw (there, its) (omega (arith, grown.here))

module _ {work : Workload} {loads : ℕ → ℕ} {table holders left cross : List ℕ} {i j : ℕ} (inside : i < work.intervals) (below : j < work.jobs)
    (tables : RefillTables work loads table holders left cross i j) where
  pub can_take : i < numbers_in work.last j → CanTake work.jobs work.last table holders left cross i j
  can_take to =
      let sound = tables.sound in
      record {
        below = below;
        jobs_most = sound.jobs_most;
        inside = to;
        intervals_most = omega (arith, sound.sound.inside j below, sound.intervals_most);
        room = omega (arith, tables.room, mul-le-mul_right work.jobs (sound.sound.inside j below));
        empty = own_zero inside below tables.refilling;
        holders_length = tables.holding.holders_length;
        left_length = tables.left_length;
        cross_length = tables.cross_length;
        left_small = omega (arith, tables.refilling.rest j below, sound.cycles_most j below);
      }

  module _ (is_open_true : Open (problem_in work) i j) {table-after holders-after left_after cross-after : List ℕ}
      (taken : CellTaken work.jobs work.last table holders left cross table-after holders-after left_after cross-after i j) where
    grown : Grown (problem_in work) (shares_in work.jobs table) (shares_in work.jobs table-after) i j taken.amount
    grown = rw taken.table_is (grown_put {p = problem_in work} inside below table tables.room)

    holding_after : Holding (problem_in work) (shares_in work.jobs table-after) holders-after
    holding_after = go (eq-zero-or-pos taken.amount)
      where
        go : (taken.amount ≡ 0) ⊎ (0 < taken.amount) → Holding (problem_in work) (shares_in work.jobs table-after) holders-after
        go (inl none) = rw (taken.not_joined none) (holding_same tables.holding (rw none at grown))
        go (inr some) = holding_put tables.sound.jobs_most tables.holding some grown (taken.joined some)

    pub cell_taken : RefillTables work loads table-after holders-after left_after cross-after i (suc j)
    cell_taken =
        record {
          sound = tables.sound;
          fillable = tables.fillable;
          room = rw (taken.table_is, length-set) tables.room;
          holding = holding_after;
          left_length = taken.left_length;
          cross_length = taken.cross_length;
          refilling = refill_takes tables.sound.sound is_open_true tables.refilling grown taken.takes;
        }

    pub cell_kept : KeptPast (work.intervals * work.jobs) table table-after
    cell_kept = rw taken.table_is (kept_set (kept_refl _ table) _ _ (place_below inside below))

-- jobs that can take nothing are passed
pub cells_passed : {work : Workload} {loads : ℕ → ℕ} {table holders left cross : List ℕ} {i count target uncrossed : ℕ} → i < work.intervals
    → RefillTables work loads table holders left cross i count → i < uncrossed → numbers_in cross uncrossed ≡ 0 → count ≤ target → target ≤ work.jobs
    → ((q : ℕ) → count ≤ q → q < target → Open (problem_in work) i q → (numbers_in left q ≡ 0) ⊎ (uncrossed < numbers_in work.last q))
    → RefillTables work loads table holders left cross i target
cells_passed {work} {left = left} {cross} {i} {count} {target} {uncrossed} inside tables late none order within full =
    let e : count + (target - count) ≡ target = omega arith in
    record {
      sound = tables.sound;
      fillable = tables.fillable;
      room = tables.room;
      holding = tables.holding;
      left_length = tables.left_length;
      cross_length = tables.cross_length;
      refilling =
          rw e at
          (refill_passes tables.sound.sound inside (target - count) count (omega arith) (λ q from to is_open_true. go q (full q from (omega arith) is_open_true)) tables.refilling);
    }
  where
    go : (q : ℕ) → (numbers_in left q ≡ 0) ⊎ (uncrossed < numbers_in work.last q)
        → (numbers_in left q ≡ 0) ⊎ ((b : ℕ) × (i < b) × (b < numbers_in work.last q) × (numbers_in cross b ≡ 0))
    go q (inl e) = inl e
    go q (inr past) = inr (uncrossed, late, past, none)

-- the next interval
pub row_ended : {work : Workload} {loads : ℕ → ℕ} {table holders left cross : List ℕ} {i : ℕ} → i < work.intervals
    → RefillTables work loads table holders left cross i work.jobs → RefillTables work loads table holders left cross (suc i) 0
row_ended inside tables =
    record {
      sound = tables.sound;
      fillable = tables.fillable;
      room = tables.room;
      holding = tables.holding;
      left_length = tables.left_length;
      cross_length = tables.cross_length;
      refilling = refill_rows tables.sound.sound tables.fillable inside tables.refilling;
    }
