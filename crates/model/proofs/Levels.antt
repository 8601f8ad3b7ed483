-- Laws of running levels: a level has no fault exactly when it keeps the limits, and levels that have none are valid.
-- Assumes nothing.
use mathlib.Core.Path.{◌≡◌}
use mathlib.Core.Logic.{◌↔◌}
use mathlib.Core.Bool.{not, ◌&&◌}
use mathlib.Core.List.{List}
use Prim.Native.Nat.{ℕ, zero, suc, ◌<◌, ◌≤◌}
use native.Mathlib.Omega.{arith}
use lib.Dec.{leb}
use lib.ListN.{length}
use borrow.Author.Tests.{ltb-false, leb-false, le-ltb, lt-leb, le-leb}
use Rattle.model.specs.declared.Level.{Level}
use Rattle.model.specs.Limits.{max_levels, max_frequency, max_voltage}
use Rattle.model.specs.Levels.{level_of, level_before, wrong_frequency, wrong_voltage, fault_of_level, level_fault, ValidLevels}
use Rattle.model.proofs.Tests.{neither, in-range, no_fault}

-- the limits that a level keeps after the one before it
pub record SoundLevel (before this : Level) : Type 0 where
  pub frequency_low : 1 ≤ this.frequency
  pub frequency_high : this.frequency ≤ max_frequency
  pub frequency_above : before.frequency < this.frequency
  pub voltage_low : 1 ≤ this.voltage
  pub voltage_high : this.voltage ≤ max_voltage
  pub voltage_not_below : before.voltage ≤ this.voltage

module _ (before this : Level) where
  sound : fault_of_level before this ≡ 0 → SoundLevel before this
  unfolding fault_of_level
  sound e =
      let passed = no_fault (wrong_frequency before this) (wrong_voltage before this) 3 4 e in
      let frequency = neither (not (leb 1 this.frequency && leb this.frequency max_frequency)) _ passed.0 in
      let voltage = neither (not (leb 1 this.voltage && leb this.voltage max_voltage)) _ passed.1 in
      let frequencies = in-range this.frequency max_frequency frequency.0 in
      let voltages = in-range this.voltage max_voltage voltage.0 in
      record {
        frequency_low = frequencies.0;
        frequency_high = frequencies.1;
        frequency_above = leb-false _ _ frequency.1;
        voltage_low = voltages.0;
        voltage_high = voltages.1;
        voltage_not_below = ltb-false _ _ voltage.1;
      }

  faultless : SoundLevel before this → fault_of_level before this ≡ 0
  unfolding fault_of_level
  faultless h =
      rw (
        le-leb 1 this.frequency h.frequency_low,
        le-leb this.frequency max_frequency h.frequency_high,
        lt-leb this.frequency before.frequency h.frequency_above,
        le-leb 1 this.voltage h.voltage_low,
        le-leb this.voltage max_voltage h.voltage_high,
        le-ltb this.voltage before.voltage h.voltage_not_below,
      )

  -- a level has no fault exactly when it keeps the limits
  pub level_sound : (fault_of_level before this ≡ 0) ↔ SoundLevel before this
  level_sound = (sound, faultless)

-- no fault at any level, and their number within its limits, make valid levels
pub valid_levels : (levels : List Level) → 1 ≤ length levels → length levels ≤ max_levels
    → ((i : ℕ) → i < length levels → level_fault levels i ≡ 0) → ValidLevels levels
valid_levels levels some few faultless =
    record {
      some = some;
      few = few;
      frequency_low = λ i below. (at i below).frequency_low;
      frequency_high = λ i below. (at i below).frequency_high;
      frequency_rises = λ i below. (at (suc i) below).frequency_above;
      voltage_low = λ i below. (at i below).voltage_low;
      voltage_high = λ i below. (at i below).voltage_high;
      voltage_never_falls = λ i below. (at (suc i) below).voltage_not_below;
    }
  where
    at : (i : ℕ) → i < length levels → SoundLevel (level_before levels i) (level_of levels i)
    at i below = (level_sound _ _).0 (faultless i below)

pub levels_faultless : (levels : List Level) → ValidLevels levels → (i : ℕ) → i < length levels → level_fault levels i ≡ 0
levels_faultless levels h i below =
    (level_sound _ _).1 (record {
      frequency_low = h.frequency_low i below;
      frequency_high = h.frequency_high i below;
      frequency_above = above i below;
      voltage_low = h.voltage_low i below;
      voltage_high = h.voltage_high i below;
      voltage_not_below = not_below i below;
    })
  where
    above : (i : ℕ) → i < length levels → (level_before levels i).frequency < (level_of levels i).frequency
    above zero below = h.frequency_low 0 below
    above (suc i) below = h.frequency_rises i below

    not_below : (i : ℕ) → i < length levels → (level_before levels i).voltage ≤ (level_of levels i).voltage
    not_below zero below = omega arith
    not_below (suc i) below = h.voltage_never_falls i below
