-- What reading levels answers, for each outcome: the entries in plain arrays, or the refusal.
use Rattle.std.specs.Prelude.{ℕ, List, length, get_or, Result}
use Rattle.model.specs.declared.refusal.Refusal.{Refusal}
use Rattle.model.specs.declared.Level.{Level}
use Rattle.model.specs.Limits.{max_levels}
use Rattle.model.specs.Refusals.{returned_by}
use Rattle.model.specs.Outcome.{Outcome, answer, refuse_when, by_entry}
use Rattle.model.specs.Entries.{list_of}
use Rattle.model.specs.Levels.{level_of}
use Rattle.model.specs.LevelTables.{stands_alone, table_fault}
use Rattle.reading.specs.Column.{column_of}
use Rattle.level_tables.specs.declared.levels.LevelTable.{LevelTable}

-- The whole answer of reading levels: frequencies and voltages of the entries, zeros after them; or the refusal.
abbrev pub level_table : Outcome (List Level) → Result LevelTable Refusal
level_table outcome =
    returned_by (λ levels. record {
      count = length levels;
      frequencies = column_of max_levels (length levels) (λ i. (level_of levels i).frequency);
      voltages = column_of max_levels (length levels) (λ i. (level_of levels i).voltage);
    }) outcome

-- The entries of a level table that stand in two arrays, the first `count` of them.
unfoldable pub levels_in : (count : ℕ) → (frequencies voltages : List ℕ) → List Level
levels_in count frequencies voltages =
    list_of count (λ i. record { frequency = get_or frequencies i 0; voltage = get_or voltages i 0 })

-- Going through the level entries that stand in arrays, by 4, 5 and 32.
abbrev pub checked_entries : (count : ℕ) → (frequencies voltages : List ℕ) → Outcome (List Level)
checked_entries count frequencies voltages =
    let levels : List Level = levels_in count frequencies voltages in
    by_entry count (table_fault levels) (answer levels)

-- With 31 before that.
abbrev pub checked_levels : (count : ℕ) → (frequencies voltages : List ℕ) → Outcome (List Level)
checked_levels count frequencies voltages =
    refuse_when (stands_alone (levels_in count frequencies voltages)) 31 (checked_entries count frequencies voltages)
