-- `levels::level_fault` meets its contract. Each way out rests on the tests that led there. Assumes nothing.
use mathlib.Core.Path.{◌≡◌, sym, ap}
use mathlib.Core.Bool.{true}
use Prim.Native.Nat.{◌<◌, ◌≤◌}
use native.Mathlib.Omega.{arith}
use borrow.Author.Tests.{lt-ltb, lt-leb, le-leb}
use Rattle.std.specs.Prelude.{Some}
use Rattle.model.specs.declared.Level.{Level}
use Rattle.model.specs.declared.refusal.Fault.TheVariants.{LevelFrequency, LevelVoltage}
use Rattle.model.specs.Limits.{max_frequency}
use Rattle.model.specs.Levels.{wrong_frequency, wrong_voltage, fault_of_level}
use Rattle.model.specs.Refusals.{fault_of}
use Rattle.model.proofs.Levels.{level_sound}
use Rattle.level_tables.proofs.levels.level_fault.Goals as goal

module _ (before this : Level) where
  frequency-fault : wrong_frequency before this ≡ true → Some LevelFrequency ≡ fault_of (fault_of_level before this)
  unfolding fault_of_level
  frequency-fault wrong = rw wrong

  voltage-fault : 1 ≤ this.frequency → this.frequency ≤ max_frequency → before.frequency < this.frequency
      → wrong_voltage before this ≡ true → Some LevelVoltage ≡ fault_of (fault_of_level before this)
  unfolding fault_of_level
  voltage-fault low high above wrong = rw (le-leb _ _ low, le-leb _ _ high, lt-leb _ _ above, wrong)

pub returns-then-this-lt1 : goal.returns-then-this-lt1
returns-then-this-lt1 c = frequency-fault _ _ (rw (lt-leb _ _ c.if-this-lt1.true))

pub returns-then-this-gt-MAX_FREQUENCY : goal.returns-then-this-gt-MAX_FREQUENCY
returns-then-this-gt-MAX_FREQUENCY c = frequency-fault _ _ (rw (le-leb _ _ c.if-this-lt1.false, lt-leb _ _ c.if-this-gt-MAX_FREQUENCY.true))

pub returns-then-this-before : goal.returns-then-this-before
returns-then-this-before c =
    frequency-fault _ _ (rw (le-leb _ _ c.if-this-lt1.false, le-leb _ _ c.if-this-gt-MAX_FREQUENCY.false, le-leb _ _ c.if-this-before.true))

pub returns-then-this-lt1-2 : goal.returns-then-this-lt1-2
returns-then-this-lt1-2 c = voltage-fault _ _ (omega arith) (omega arith) (omega arith) (rw (lt-leb _ _ c.if-this-lt1-2.true))

pub returns-then-this-gt-MAX_VOLTAGE : goal.returns-then-this-gt-MAX_VOLTAGE
returns-then-this-gt-MAX_VOLTAGE c =
    voltage-fault _ _ (omega arith) (omega arith) (omega arith)
    (rw (le-leb _ _ c.if-this-lt1-2.false, lt-leb _ _ c.if-this-gt-MAX_VOLTAGE.true))

pub returns-then-this-before-2 : goal.returns-then-this-before-2
returns-then-this-before-2 c =
    voltage-fault _ _ (omega arith) (omega arith) (omega arith)
    (rw (le-leb _ _ c.if-this-lt1-2.false, le-leb _ _ c.if-this-gt-MAX_VOLTAGE.false, lt-ltb _ _ c.if-this-before-2.true))

pub returns : goal.returns
returns c =
    ap fault_of (sym ((level_sound _ _).1 (record {
      frequency_low = omega arith;
      frequency_high = omega arith;
      frequency_above = omega arith;
      voltage_low = omega arith;
      voltage_high = omega arith;
      voltage_not_below = omega arith;
    })))
