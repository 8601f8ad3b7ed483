-- Going through the level entries that stand in arrays, one law for each way out: 31, the first running level, and those
-- after it.
-- Assumes nothing.
use mathlib.Core.Path.{◌≡◌, sym, ◌∙◌, ap, ap₂}
use mathlib.Core.List.{List, [], ◌∷◌}
use Prim.Native.Nat.{ℕ, suc, ◌-◌, ◌<◌, ◌≤◌}
use native.Mathlib.Omega.{arith}
use native.Mathlib.Decide.{ℕ_discrete}
use lib.ListN.{get_or}
use borrow.Author.Tests.{eq-eqb, ne_eqb}
use Rattle.std.specs.Prelude.{Option, Some, None, Err}
use Rattle.model.specs.declared.Level.{Level}
use Rattle.model.specs.declared.refusal.Fault.{Fault}
use Rattle.model.specs.declared.refusal.Fault.TheVariants.{IdleAlone}
use Rattle.model.specs.Refusals.{fault_of}
use Rattle.model.proofs.Refusals.{fault_none}
use Rattle.model.specs.Levels.{idling, fault_of_level}
use Rattle.model.specs.LevelTables.{idle_entries, idle_power_of, or_fault, draw_fault, table_fault}
use Rattle.model.proofs.LevelTables.{idle_few, fault_of_idle, fault_of_first, fault_of_later}
use Rattle.reading.specs.Tables.{returned_count}
use Rattle.reading.proofs.ByEntry.{reading_stops}
use Rattle.level_tables.specs.Tables.{levels_in, checked_entries, checked_levels}
use Rattle.level_tables.proofs.Read.{length_levels_in, level_in}

module _ (count : ℕ) (frequencies voltages : List ℕ) where
  abbrev entries : List Level
  entries = levels_in count frequencies voltages

  -- entry i, as the arrays have it
  abbrev pub entry_in : ℕ → Level
  entry_in i = record { frequency = get_or frequencies i 0; voltage = get_or voltages i 0 }

  -- an entry past the first running level, after the one before it
  pub later_fault : (i : ℕ) → idle_entries entries < i → i < count → fault_of_level (entry_in (i - 1)) (entry_in i) ≡ table_fault entries i
  later_fault i past below =
      let place : suc (i - 1) ≡ i = omega arith in
      ap₂ fault_of_level (sym (level_in count frequencies voltages (i - 1) (omega arith))) (sym (level_in count frequencies voltages i below))
      ∙ sym (rw place at (fault_of_later entries (i - 1) (omega arith)))

  module _ (some : 1 ≤ count) (first : ℕ) (counted : first ≡ idle_entries (entry_in 0 ∷ [])) where
    pub first_is : first ≡ idle_entries entries
    first_is = counted ∙ ap (λ (entry : Level). idle_entries (entry ∷ [])) (sym (level_in count frequencies voltages 0 some))

    -- 31
    pub alone : count ≡ first → Err (record { fault = IdleAlone; place = 0 }) ≡ returned_count (checked_levels count frequencies voltages)
    alone all = rw (eq-eqb _ _ (length_levels_in count frequencies voltages ∙ (all ∙ first_is)))

    module _ (more : count ≡ first → ⊥) where
      some_run : first < count
      some_run = omega (arith, more, first_is, idle_few entries)

      -- past 31
      pub not_alone : checked_entries count frequencies voltages ≡ checked_levels count frequencies voltages
      not_alone = rw (ne_eqb _ _ (λ all. more (sym (length_levels_in count frequencies voltages) ∙ (all ∙ sym first_is))))

      -- the first running level
      module _ (idle_power : ℕ) (found : Option Fault) (drawn : idle_power ≡ idle_power_of (entry_in 0 ∷ []))
          (found_is : found ≡ fault_of (or_fault (fault_of_level idling (entry_in first)) (draw_fault idle_power (entry_in first)))) where
        power_is : idle_power ≡ idle_power_of entries
        power_is = drawn ∙ ap (λ (entry : Level). idle_power_of (entry ∷ [])) (sym (level_in count frequencies voltages 0 some))

        fault_at_first : found ≡ fault_of (table_fault entries first)
        fault_at_first =
            found_is
            ∙ ap fault_of (ap₂ (λ (power : ℕ) (level : Level). or_fault (fault_of_level idling level) (draw_fault power level)) power_is
            (sym (level_in count frequencies voltages first some_run))
            ∙ sym (rw (← first_is) at (fault_of_first entries)))

        idle_passed : (k : ℕ) → k < first → table_fault entries k ≡ 0
        idle_passed k below = fault_of_idle entries k (rw first_is at below)

        pub first_stops : (fault : Fault) → found ≡ Some fault
            → Err (record { fault = fault; place = first }) ≡ returned_count (checked_levels count frequencies voltages)
        first_stops fault bad =
            reading_stops count (table_fault entries) entries first fault idle_passed some_run (sym fault_at_first ∙ bad) ∙ ap returned_count not_alone

        pub first_passes : found ≡ None → (k : ℕ) → k ≤ first → table_fault entries k ≡ 0
        first_passes sound k below = go (ℕ_discrete k first)
          where
            go : Dec (k ≡ first) → table_fault entries k ≡ 0
            go (yes same) = rw same (fault_none _ (sym fault_at_first ∙ sound))
            go (no other) = idle_passed k (omega (arith, other))
