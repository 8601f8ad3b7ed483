-- Laws of a level table in arrays: its entries one by one, and what a valid table says of them. Where the arrays were
-- read from bytes, a caller that was given them has the outcome in terms of the arrays.
-- Assumes nothing.
use mathlib.Core.Path.{◌≡◌, sym, ◌∙◌, ap}
use mathlib.Core.List.{List}
use Prim.Native.Nat.{ℕ, ◌+◌, ◌-◌, ◌<◌, ◌≤◌}
use native.Mathlib.Omega.{arith}
use lib.ListN.{length, get_or}
use Rattle.model.specs.declared.Level.{Level}
use Rattle.model.specs.Limits.{max_levels, max_frequency}
use Rattle.std.specs.Prelude.{Ok}
use Rattle.model.specs.Outcome.{answer}
use Rattle.model.specs.Levels.{idling, level_of}
use Rattle.model.specs.LevelTables.{idle_entries, running_levels, read_levels, ValidLevelTable}
use Rattle.model.specs.Points.{top_frequency}
use Rattle.model.proofs.Entries.{length_list_of, get_d_list_of}
use Rattle.model.proofs.LevelTables.{running_length, running_level, table_some, levels_valid}
use Rattle.model.proofs.Refusals.{returned_answered}
use Rattle.reading.specs.Column.{column_of}
use Rattle.reading.proofs.Column.{column_at}
use Rattle.reading.proofs.Read.{same_elements}
use Rattle.level_tables.specs.declared.levels.LevelTable.{LevelTable}
use Rattle.level_tables.specs.Tables.{levels_in, level_table}

-- the levels in two arrays
module _ (count : ℕ) (frequencies voltages : List ℕ) where
  pub length_levels_in : length (levels_in count frequencies voltages) ≡ count
  unfolding levels_in
  length_levels_in = length_list_of count _

  pub level_in : (i : ℕ) → i < count
      → level_of (levels_in count frequencies voltages) i ≡ record { frequency = get_or frequencies i 0; voltage = get_or voltages i 0 }
  unfolding levels_in
  level_in i below = get_d_list_of count _ i _ below

  -- what a valid table says of its count, of its first entry, of its running levels, and of the last frequency
  module _ (valid : ValidLevelTable (levels_in count frequencies voltages)) where
    abbrev levels : List Level
    levels = levels_in count frequencies voltages

    pub first_inside : idle_entries levels < count
    first_inside = omega (arith, table_some levels valid, length_levels_in)

    pub levels_count : (1 ≤ count) × (count ≤ max_levels)
    levels_count = omega (arith, first_inside, valid.few, length_levels_in)

    pub running-count : length (running_levels levels) ≡ count - idle_entries levels
    running-count = rw length_levels_in at (running_length levels)

    pub running_in : (i : ℕ) → idle_entries levels ≤ i → i < count
        → level_of (running_levels levels) (i - idle_entries levels) ≡ record { frequency = get_or frequencies i 0; voltage = get_or voltages i 0 }
    running_in i past below =
        let place : idle_entries levels + (i - idle_entries levels) ≡ i = omega arith in
        running_level levels (i - idle_entries levels) ∙ ap (level_of levels) place ∙ level_in i below

    pub top_in : top_frequency (running_levels levels) ≡ get_or frequencies (count - 1) 0
    top_in =
        let place : length (running_levels levels) - 1 ≡ count - 1 - idle_entries levels = omega (arith, running-count) in
        ap (λ (i : ℕ). (level_of (running_levels levels) i).frequency) place
        ∙ ap (λ (level : Level). level.frequency) (running_in (count - 1) (omega (arith, first_inside)) (omega (arith, first_inside)))

    pub top_high : get_or frequencies (count - 1) 0 ≤ max_frequency
    top_high =
        let last : length (running_levels levels) - 1 < length (running_levels levels) = omega (arith, valid.running.some) in
        rw (← top_in) (valid.running.frequency_high (length (running_levels levels) - 1) last)

levels_held : (levels : List Level) → length levels ≤ max_levels
    → levels_in (length levels)
    (column_of max_levels (length levels) (λ i. (level_of levels i).frequency))
    (column_of max_levels (length levels) (λ i. (level_of levels i).voltage))
    ≡ levels
unfolding levels_in
levels_held levels few =
    same_elements levels idling _ (λ i below. let inside : i < max_levels = omega arith in rw (column_at, column_at))

-- the levels of the bytes stand in the arrays
module _ (bytes : List ℕ) (table : LevelTable) (read : level_table (read_levels bytes) ≡ Ok table) where
  pub levels_read : read_levels bytes ≡ answer (levels_in table.count table.frequencies table.voltages)
  levels_read =
      let (levels, answered, is) = returned_answered _ (read_levels bytes) table read in
      answered ∙ ap answer (sym (held is (levels_valid bytes levels answered).few))
    where
      held : {levels : List Level}
          → record {
            count = length levels;
            frequencies = column_of max_levels (length levels) (λ i. (level_of levels i).frequency);
            voltages = column_of max_levels (length levels) (λ i. (level_of levels i).voltage);
          } ≡ table
          → length levels ≤ max_levels → levels_in table.count table.frequencies table.voltages ≡ levels
      held {levels} is few = rw (← is) (levels_held levels few)
