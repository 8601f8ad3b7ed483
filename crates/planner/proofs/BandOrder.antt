-- Laws of placing jobs band after band: at the start nothing is placed, and every price is the lowest; after the turns of all
-- jobs the next band starts; past the last band all jobs are placed.
-- Assumes nothing.
use mathlib.Core.Path.{◌≡◌}
use mathlib.Core.Logic.{◌⊎◌, inl, inr}
use Prim.Native.Nat.{ℕ, suc, ◌<◌, ◌≤◌}
use native.Mathlib.Nat.{eq-or-lt_of_le, eq-zero-or-pos, le_of_suc-le-suc}
use native.Mathlib.Omega.{arith}
use Rattle.model.specs.Plans.{Shares}
use Rattle.model.proofs.Sum.{sum_zero}
use Rattle.workloads.specs.Placement.{Problem, SoundProblem, Open, placed_of, Placed}
use Rattle.paths.specs.Placing.{Placing}
use Rattle.filling.specs.Filling.{Filling}

-- nothing is placed, and all prices are 0
pub filling_none : {p : Problem} → SoundProblem p → (shares : Shares) (prices : ℕ → ℕ)
    → ((i j : ℕ) → i < p.intervals → j < p.jobs → shares i j ≡ 0) → ((i : ℕ) → i < p.intervals → prices i ≡ 0)
    → Filling p shares prices p.cycles 0 0
filling_none {p} sound shares prices no_share lowest =
    record {
      priced =
          record {
            shut = λ i j inside below share. absurd (omega (arith, no_share i j inside below));
            band = λ i inside. rw (lowest i inside) sound.some_band;
            low = λ i inside. rw (lowest i inside, sound.start) (omega arith);
            high = λ i inside. omega (arith, sum_zero p.jobs (λ j below. no_share i j inside below));
            cheapest = λ i other j inside next below share is_open_true. absurd (omega (arith, no_share i j inside below));
          };
      rest = λ j below. omega (arith, sum_zero p.intervals (λ i inside. no_share i j inside below));
      reaches = λ i j inside below has is_open_true. omega arith;
      passed = λ i j inside below. absurd (omega arith);
    }

module _ {p : Problem} {shares : Shares} {prices lefts : ℕ → ℕ} {band count : ℕ} (filling : Filling p shares prices lefts band count) where
  -- one job more has no cycles left, or no price of its window is the band
  pub filling_passed : ((i : ℕ) → i < p.intervals → 0 < lefts count → Open p i count → band < prices i)
      → Filling p shares prices lefts band (suc count)
  filling_passed here =
      record {
        priced = filling.priced;
        rest = filling.rest;
        reaches = filling.reaches;
        passed = λ i j inside below. upto i j inside (eq-or-lt_of_le (le_of_suc-le-suc below));
      }
    where
      upto : (i j : ℕ) → i < p.intervals → (j ≡ count) ⊎ (j < count) → 0 < lefts j → Open p i j → band < prices i
      upto i j inside (inl its) has is_open_true = here i inside (rw its at has) (rw its at is_open_true)
      upto i j inside (inr less) has is_open_true = filling.passed i j inside less has is_open_true

  -- the next band
  pub filling_next : count ≡ p.jobs → Filling p shares prices lefts (suc band) 0
  filling_next all =
      record {
        priced = filling.priced;
        rest = filling.rest;
        reaches = λ i j inside below has is_open_true. omega (arith, filling.passed i j inside (rw all below) has is_open_true);
        passed = λ i j inside below. absurd (omega arith);
      }

  -- past the last band
  pub filling_end : SoundProblem p → p.bands ≤ band → Placed p shares prices
  filling_end sound past = record { priced = filling.priced; whole = λ j below. go j below (eq-zero-or-pos (lefts j)) }
    where
      go : (j : ℕ) → j < p.jobs → (lefts j ≡ 0) ⊎ (0 < lefts j) → placed_of p shares j ≡ p.cycles j
      go j below (inl none) = omega (arith, filling.rest j below)
      go j below (inr has) =
          let start = p.first j in
          let window = sound.window j below in
          let inside : start < p.intervals = omega (arith, sound.inside j below) in
          let is_open_true : Open p start j = record { from = omega arith; to = window } in
          absurd (omega (arith, filling.reaches start j inside below has is_open_true, filling.priced.band start inside))

-- what holds at a band holds at the one below
pub placing_lower : {p : Problem} {shares : Shares} {prices lefts : ℕ → ℕ} {job left band : ℕ} → Placing p shares prices lefts job left (suc band)
    → Placing p shares prices lefts job left band
placing_lower placing =
    record {
      priced = placing.priced;
      job_below = placing.job_below;
      here = placing.here;
      others = placing.others;
      band_below = omega (arith, placing.band_below);
      reaches = λ i inside is_open_true. omega (arith, placing.reaches i inside is_open_true);
    }
