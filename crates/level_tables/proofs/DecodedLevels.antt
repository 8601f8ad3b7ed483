-- Reading levels, one law for each way out: the refusals without a place; the refusal at an entry; and the answer, where
-- the arrays that reading fills hold the entries of the bytes.
-- Assumes nothing.
use mathlib.Core.Path.{◌≡◌, refl, sym, ◌∙◌, ap}
use mathlib.Core.List.{List}
use Prim.Native.Nat.{ℕ, ◌+◌, ◌*◌, ◌<◌, ◌≤◌}
use native.Mathlib.Omega.{arith}
use lib.ListN.{length}
use borrow.Author.Tests.{lt-ltb, le-ltb, lt-leb, le-leb, eq-eqb, ne_eqb}
use Rattle.std.specs.Prelude.{Result, Ok, Err}
use Rattle.model.specs.declared.Level.{Level}
use Rattle.model.specs.declared.refusal.Refusal.{Refusal}
use Rattle.model.proofs.Refusals.{returned_refused, refused_returned}
use Rattle.model.specs.Limits.{max_levels}
use Rattle.model.specs.Bytes.{number16}
use Rattle.model.specs.Outcome.{Outcome, refused, answer, refuse_when, by_entry}
use Rattle.model.specs.Levels.{idling}
use Rattle.model.specs.LevelTables.{level_count, level_at, level_entries, stands_alone, table_fault, read_levels}
use Rattle.model.proofs.Entries.{length_list_of, list_of_cong}
use Rattle.reading.specs.Column.{column_of}
use Rattle.reading.specs.Tables.{returned_count}
use Rattle.reading.proofs.Column.{column_at, column_of_entries}
use Rattle.reading.proofs.ByEntry.{reading_answered, reading_past}
use Rattle.level_tables.specs.Tables.{levels_in, level_table, checked_levels}

module _ (bytes : List ℕ) where
  abbrev frequency_column : List ℕ
  frequency_column = column_of max_levels (level_count bytes) (λ i. number16 bytes (2 + 2 * i))

  abbrev voltage_column : List ℕ
  voltage_column = column_of max_levels (level_count bytes) (λ i. number16 bytes (2 + 2 * level_count bytes + 2 * i))

  -- the outcome of going through the entries, and with 31 before that
  abbrev gone : Outcome (List Level)
  gone = by_entry (level_count bytes) (table_fault (level_entries bytes)) (answer (level_entries bytes))

  abbrev pub checked : Outcome (List Level)
  checked = refuse_when (stands_alone (level_entries bytes)) 31 gone

  -- the levels in the arrays are the entries of the bytes
  levels_decoded : level_count bytes ≤ max_levels → levels_in (level_count bytes) frequency_column voltage_column ≡ level_entries bytes
  unfolding levels_in level_at
  levels_decoded few =
      list_of_cong (level_count bytes) _ _ (λ i below. let inside : i < max_levels = omega arith in rw (column_at, column_at))

  -- where the entries are answered, the answer has the arrays as they were filled
  levels_answered : (n : ℕ) → returned_count checked ≡ Ok n
      → Ok (record { count = level_count bytes; frequencies = frequency_column; voltages = voltage_column }) ≡ level_table checked
  unfolding level_at
  levels_answered n e =
      let past : checked ≡ gone = reading_past (stands_alone (level_entries bytes)) 31 n gone e in
      let whole : checked ≡ answer (level_entries bytes) = past ∙ reading_answered _ _ _ n (ap returned_count (sym past) ∙ e) in
      rw (
        whole,
        column_of_entries max_levels (level_count bytes) (level_at bytes) idling (λ level. level.frequency) _ (λ i. refl),
        column_of_entries max_levels (level_count bytes) (level_at bytes) idling (λ level. level.voltage) _ (λ i. refl),
        length_list_of (level_count bytes) (level_at bytes),
      )

  -- the ways out before the entries, and past them
  pub levels_short : length bytes < 2 → refused 1 0 ≡ read_levels bytes
  unfolding read_levels
  levels_short short = rw (lt-ltb _ _ short)

  module _ (long : 2 ≤ length bytes) where
    pub levels_none : level_count bytes < 1 → refused 2 0 ≡ read_levels bytes
    unfolding read_levels
    levels_none none = rw (le-ltb _ _ long, lt-leb _ _ none)

    pub levels_many : max_levels < level_count bytes → refused 2 0 ≡ read_levels bytes
    unfolding read_levels
    levels_many many = let some : 1 ≤ level_count bytes = omega arith in rw (le-ltb _ _ long, le-leb _ _ some, lt-leb _ _ many)

    module _ (some : 1 ≤ level_count bytes) (few : level_count bytes ≤ max_levels) where
      pub levels_cut : (length bytes ≡ 2 + 4 * level_count bytes → ⊥) → refused 3 0 ≡ read_levels bytes
      unfolding read_levels
      levels_cut cut = rw (le-ltb _ _ long, le-leb _ _ some, le-leb _ _ few, ne_eqb _ _ cut)

      pub levels_whole : length bytes ≡ 2 + 4 * level_count bytes → checked ≡ read_levels bytes
      unfolding read_levels
      levels_whole whole = rw (le-ltb _ _ long, le-leb _ _ some, le-leb _ _ few, eq-eqb _ _ whole)

  -- what was filled and found, as the code has it
  module _ (count : ℕ) (frequencies voltages : List ℕ) (checking : Result ℕ Refusal)
      (are : count ≡ level_count bytes)
      (few : count ≤ max_levels)
      (first : frequencies ≡ column_of max_levels count (λ i. number16 bytes (2 + 2 * i)))
      (second : voltages ≡ column_of max_levels count (λ i. number16 bytes (2 + 2 * count + 2 * i)))
      (found : checking ≡ returned_count (checked_levels count frequencies voltages)) where
    found_checked : checking ≡ returned_count checked
    found_checked = found ∙ rw (first, second, are, levels_decoded (rw are at few))

    pub levels_refused : (own : Refusal) → checking ≡ Err own → Err own ≡ level_table checked
    levels_refused own e = refused_returned _ (returned_refused length checked own (sym found_checked ∙ e))

    pub levels_filled : (n : ℕ) → checking ≡ Ok n
        → Ok (record { count = count; frequencies = frequencies; voltages = voltages }) ≡ level_table checked
    levels_filled n e = rw (first, second, are) (levels_answered n (sym found_checked ∙ e))
