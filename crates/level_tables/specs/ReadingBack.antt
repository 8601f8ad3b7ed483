-- Reading back: what stands encoded in the bytes is what a reader answers, and nothing else is answered (document 01,
-- "Tables in bytes"). Stated of any function that meets the contract of `read_levels`. Proved in proofs/ReadingBack.antt.
use Rattle.std.specs.Prelude.{ℕ, ◌≡◌, List, length, Result, Ok}
use Rattle.std.specs.Borrow.{Bor}
use Rattle.model.specs.declared.Level.{Level}
use Rattle.model.specs.declared.refusal.Refusal.{Refusal}
use Rattle.model.specs.Limits.{max_levels}
use Rattle.model.specs.Bytes.{IsBytes}
use Rattle.model.specs.Levels.{level_of}
use Rattle.model.specs.LevelTables.{read_levels, ValidLevelTable, DrawFits, encode_levels}
use Rattle.reading.specs.Column.{column_of}
use Rattle.level_tables.specs.declared.levels.LevelTable.{LevelTable}
use Rattle.level_tables.specs.Tables.{level_table, levels_in}

-- A reader of level tables, lent bytes.
pub record ReadsLevelsBack (read : Bor (List ℕ) → Result LevelTable Refusal) : Type 0 where
  -- lent the encoding of a valid table it answers exactly that table, its idle entry with it: the number of its entries,
  -- their frequencies and their voltages, zeros past the last
  pub encoded_read : (levels : List Level) → ValidLevelTable levels → DrawFits levels → (bytes : Bor (List ℕ)) → bytes.now ≡ encode_levels levels
      → read bytes ≡ Ok (record {
        count = length levels;
        frequencies = column_of max_levels (length levels) (λ i. (level_of levels i).frequency);
        voltages = column_of max_levels (length levels) (λ i. (level_of levels i).voltage);
      })
  -- where it answers entries they are a valid table, and the bytes are its encoding
  pub read_encoded : (bytes : Bor (List ℕ)) → IsBytes bytes.now → (table : LevelTable) → read bytes ≡ Ok table
      → let levels : List Level = levels_in table.count table.frequencies table.voltages in
      ValidLevelTable levels × DrawFits levels × (bytes.now ≡ encode_levels levels)

-- Any function that meets the contract of `read_levels` reads level tables back.
abbrev pub LevelsComeBack : Type 0
LevelsComeBack =
    (read : Bor (List ℕ) → Result LevelTable Refusal) → ((bytes : Bor (List ℕ)) → read bytes ≡ level_table (read_levels bytes.now))
    → ReadsLevelsBack read
