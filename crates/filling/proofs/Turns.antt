-- Laws of a job's turn: a job with cycles left can be placed, and after its turn the next job can.
-- Assumes nothing.
use mathlib.Core.Path.{◌≡◌, ◌∙◌}
use mathlib.Core.List.{List}
use Prim.Native.Nat.{ℕ, ◌+◌, ◌<◌, ◌≤◌}
use native.Mathlib.Decide.{ℕ_discrete}
use native.Mathlib.Omega.{arith}
use lib.ListN.{set, length-set}
use lib.Seq.{get_or-set_same, get_or-set_other, set-get_or}
use Rattle.model.specs.Plans.{Shares}
use Rattle.workloads.specs.Workloads.{Workload}
use Rattle.workloads.specs.Placement.{Problem, Open, placed_of}
use Rattle.workloads.specs.Arrays.{numbers_in}
use Rattle.paths.specs.Placing.{Placing}
use Rattle.paths.specs.FilledTargets.{PlacingTables}
use Rattle.filling.specs.Filling.{Filling, FillingTables}

module _ {p : Problem} {shares : Shares} {prices lefts : ℕ → ℕ} {band count : ℕ} (filling : Filling p shares prices lefts band count) where
  -- a job with cycles left
  placing_start : {job : ℕ} → job < p.jobs → band < p.bands → 0 < lefts job → Placing p shares prices lefts job (lefts job) band
  placing_start {job} below more has =
      record {
        priced = filling.priced;
        job_below = below;
        here = filling.rest job below;
        others = λ j inside other. filling.rest j inside;
        band_below = more;
        reaches = λ i inside is_open_true. filling.reaches i job inside below has is_open_true;
      }

  -- after a job's turn
  filling_turn : {job rest : ℕ} → count ≤ job → {after : Shares} {prices-after : ℕ → ℕ} → ((i : ℕ) → prices i ≤ prices-after i)
      → Placing p after prices-after lefts job rest band
      → (next : ℕ → ℕ) → next job ≡ rest → ((j : ℕ) → (j ≡ job → ⊥) → next j ≡ lefts j)
      → Filling p after prices-after next band count
  filling_turn {job} {rest} turn {after} {prices-after} rises placing next own same =
      record {
        priced = placing.priced;
        rest = λ j below. rest_of j below (ℕ_discrete j job);
        reaches = λ i j inside below has is_open_true. reaches i j inside below has is_open_true (ℕ_discrete j job);
        passed = λ i j inside early has is_open_true.
            let e = same j (λ e. omega arith) in
            omega (arith, rises i, filling.passed i j inside early (omega arith) is_open_true);
      }
    where
      rest_of : (j : ℕ) → j < p.jobs → Dec (j ≡ job) → placed_of p after j + next j ≡ p.cycles j
      rest_of j below (yes its) = rw (its, own) placing.here
      rest_of j below (no other) = rw (same j other) (placing.others j below other)

      reaches : (i j : ℕ) → i < p.intervals → j < p.jobs → 0 < next j → Open p i j → Dec (j ≡ job) → band ≤ prices-after i
      reaches i j inside below has is_open_true (yes its) = placing.reaches i inside (rw its at is_open_true)
      reaches i j inside below has is_open_true (no other) =
          let e = same j other in
          omega (arith, rises i, filling.reaches i j inside below (omega arith) is_open_true)

module _ {work : Workload} {table room holders left : List ℕ} {prices : ℕ → ℕ} {band count : ℕ}
    (tables : FillingTables work table room holders left prices band count) where
  module _ {job : ℕ} (below : job < work.jobs) where
    -- a job with cycles left
    pub turn_start : 0 < numbers_in left job → PlacingTables work table room holders prices (numbers_in left) job (numbers_in left job) band
    turn_start has =
        record { stored = tables.stored; placing = placing_start tables.filling below tables.band_below has }

    -- after its turn
    pub turn_end : count ≤ job → {rest : ℕ} {after room-after holders-after : List ℕ} {prices-after : ℕ → ℕ}
        → ((i : ℕ) → prices i ≤ prices-after i)
        → PlacingTables work after room-after holders-after prices-after (numbers_in left) job rest band
        → FillingTables work after room-after holders-after (set left job rest) prices-after band count
    turn_end turn {rest} rises placing =
        record {
          stored = placing.stored;
          band_below = tables.band_below;
          left_length = length-set left job rest ∙ tables.left_length;
          filling =
              filling_turn tables.filling turn rises placing.placing (numbers_in (set left job rest))
              (get_or-set_same left job rest 0 (omega (arith, tables.left_length, tables.stored.sound.jobs_most)))
              (λ j other. get_or-set_other left job j rest 0 other);
        }

-- what is left of a job is stored anew
pub left_same : (left : List ℕ) (job : ℕ) {rest : ℕ} → numbers_in left job ≡ rest → set left job rest ≡ left
left_same left job is = rw (← is) (set-get_or left job 0)
