-- Levels that the processor runs at: one after another, their faults, and what makes them valid (document 01, "Jobs, levels,
-- time" and "Reading levels").
use Rattle.std.specs.Prelude.{ℕ, zero, suc, ◌<◌, ◌≤◌, Bool, not, cond, ◌||◌, ◌&&◌, List, length, get_or, ltb, leb}
use Rattle.model.specs.declared.Level.{Level}
use Rattle.model.specs.Limits.{max_levels, max_frequency, max_voltage}

-- Idling has frequency 0. It stands before the first level, so that 4 and 5 have something to compare that level with, and find
-- nothing.
abbrev pub idling : Level
idling = record { frequency = 0; voltage = 0 }

-- Level number i of a table, counted from 0.
abbrev pub level_of : List Level → ℕ → Level
level_of levels i = get_or levels i idling

-- The level before number i.
abbrev pub level_before : List Level → ℕ → Level
level_before levels zero = idling
level_before levels (suc i) = level_of levels i

-- 4: frequency out of range or not above the one before.
abbrev pub wrong_frequency : (before this : Level) → Bool
wrong_frequency before this =
    not (leb 1 this.frequency && leb this.frequency max_frequency) || leb this.frequency before.frequency

-- 5: voltage out of range or below the one before.
abbrev pub wrong_voltage : (before this : Level) → Bool
wrong_voltage before this =
    not (leb 1 this.voltage && leb this.voltage max_voltage) || ltb this.voltage before.voltage

-- The lower refusal number first; 0 for a level without fault.
unfoldable pub fault_of_level : (before this : Level) → ℕ
fault_of_level before this = cond (wrong_frequency before this) 4 (cond (wrong_voltage before this) 5 0)

-- The fault at level i.
abbrev pub level_fault : List Level → ℕ → ℕ
level_fault levels i = fault_of_level (level_before levels i) (level_of levels i)

-- Limits: 1 to 8 levels, frequencies 1 to 1,000 and strictly rising, voltages 1 to 500 and never falling.
pub record ValidLevels (levels : List Level) : Type 0 where
  pub some : 1 ≤ length levels
  pub few : length levels ≤ max_levels
  pub frequency_low : (i : ℕ) → i < length levels → 1 ≤ (level_of levels i).frequency
  pub frequency_high : (i : ℕ) → i < length levels → (level_of levels i).frequency ≤ max_frequency
  pub frequency_rises : (i : ℕ) → suc i < length levels → (level_of levels i).frequency < (level_of levels (suc i)).frequency
  pub voltage_low : (i : ℕ) → i < length levels → 1 ≤ (level_of levels i).voltage
  pub voltage_high : (i : ℕ) → i < length levels → (level_of levels i).voltage ≤ max_voltage
  pub voltage_never_falls : (i : ℕ) → suc i < length levels → (level_of levels i).voltage ≤ (level_of levels (suc i)).voltage
