-- `levels::first_fault` meets its contract. Each way out rests on the tests that led there. Assumes nothing.
use mathlib.Core.Path.{◌≡◌, sym, ◌∙◌}
use Prim.Native.Nat.{ℕ, zero, suc, ◌<◌, ◌≤◌}
use native.Mathlib.Omega.{arith}
use borrow.Author.Tests.{le-leb, lt-leb}
use Rattle.std.specs.Prelude.{Some, None}
use Rattle.model.specs.declared.Level.{Level}
use Rattle.model.specs.declared.refusal.Fault.{Fault}
use Rattle.model.specs.declared.refusal.Fault.TheVariants.{IdleDraw}
use Rattle.model.specs.Levels.{idling, fault_of_level}
use Rattle.model.specs.Points.{power_of}
use Rattle.model.specs.LevelTables.{or_fault, draw_fault}
use Rattle.model.specs.Refusals.{fault_of}
use Rattle.model.proofs.Levels.{level_sound}
use Rattle.model.proofs.Refusals.{fault_none}
use Rattle.level_tables.proofs.levels.first_fault.Goals as goal
use Rattle.level_tables.proofs.levels.first_fault.Goals.{In_default}

-- 4 or 5 comes before 32
found_first : (number next : ℕ) (fault : Fault) → fault_of number ≡ Some fault → Some fault ≡ fault_of (or_fault number next)
found_first zero next fault e = cc
found_first (suc number) next fault e = sym e

module _ (idle_power power : ℕ) (level : Level) (sound : fault_of_level idling level ≡ 0) (powered : power ≡ power_of level) where
  too_much : power ≤ idle_power → Some IdleDraw ≡ fault_of (or_fault (fault_of_level idling level) (draw_fault idle_power level))
  too_much high = rw (sound, le-leb (power_of level) idle_power (omega arith))

  low-enough : idle_power < power → None ≡ fault_of (or_fault (fault_of_level idling level) (draw_fault idle_power level))
  low-enough low = rw (sound, lt-leb (power_of level) idle_power (omega arith))

pub returns-in-Some : goal.returns-in-Some
returns-in-Some c = found_first _ _ _ (sym c.level_fault.ensures ∙ c.in-Some.is)

-- a level with no fault of its own is sound
no-fault : (c : In_default) → fault_of_level idling c.args.level ≡ 0
no-fault c = fault_none _ (sym c.level_fault.ensures ∙ c.in_default.is)

pub power_of-requires : goal.power_of-requires
power_of-requires c = let sound = (level_sound _ _).0 (no-fault c) in (sound.frequency_high, sound.voltage_high)

pub returns-then-power_of-idle_power : goal.returns-then-power_of-idle_power
returns-then-power_of-idle_power c =
    too_much c.args.idle_power c.power_of.result _ (no-fault (goal.at.returns-then-power_of-idle_power c).In_default) c.power_of.ensures (omega arith)

pub returns : goal.returns
returns c = low-enough c.args.idle_power c.power_of.result _ (no-fault (goal.at.returns c).In_default) c.power_of.ensures (omega arith)
