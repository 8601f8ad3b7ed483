-- The level table: its idle entry, reading it, what makes it valid, and how it is encoded (document 01, "Tables in bytes",
-- "Reading levels"; document 02, Change 2).
use Rattle.std.specs.Prelude.{ℕ, zero, suc, ◌+◌, ◌-◌, ◌*◌, ◌<◌, ◌≤◌, ◌≡◌, ◌↔◌, ◌⊎◌, Bool, not, cond, ◌&&◌, List, ◌++◌, length, drop, ltb, leb, eqb}
use Rattle.model.specs.declared.Level.{Level}
use Rattle.model.specs.Limits.{max_levels, max_draw}
use Rattle.model.specs.Outcome.{Outcome, answer, refuse_when, by_entry, From}
use Rattle.model.specs.Bytes.{IsBytes, number16, bytes16}
use Rattle.model.specs.Entries.{list_of, encode_each}
use Rattle.model.specs.Levels.{level_of, level_fault, ValidLevels}
use Rattle.model.specs.Points.{power_of}

-- Levels in bytes: count v as 16 bits; frequencies, 16 bits each; voltages, 16 bits each.
abbrev pub level_count : List ℕ → ℕ
level_count bytes = number16 bytes 0

unfoldable pub level_at : List ℕ → ℕ → Level
level_at bytes i = record { frequency = number16 bytes (2 + 2 * i); voltage = number16 bytes (2 + 2 * level_count bytes + 2 * i) }

-- All entries that the count announces, as the bytes have them.
abbrev pub level_entries : List ℕ → List Level
level_entries bytes = list_of (level_count bytes) (level_at bytes)

-- "A level table may begin with a frequency 0 entry .."
abbrev pub begins_idle : List Level → Bool
begins_idle entries = eqb (level_of entries 0).frequency 0

-- The idle entry of a draw.
abbrev pub idle_entry : (draw : ℕ) → Level
idle_entry draw = record { frequency = 0; voltage = draw }

-- How many idle entries a table has that has entries: 1, or 0.
abbrev pub idle_entries : List Level → ℕ
idle_entries entries = cond (begins_idle entries) 1 0

-- ".. whose voltage place holds the idle draw in thousands of power units; without it idling draws 0."
abbrev pub idle_power_of : List Level → ℕ
idle_power_of entries = cond (begins_idle entries) (1_000 * (level_of entries 0).voltage) 0

-- The running levels are the entries after it.
abbrev pub running_levels : List Level → List Level
running_levels entries = drop (idle_entries entries) entries

-- 31: the idle entry stands alone.
abbrev pub stands_alone : List Level → Bool
stands_alone entries = eqb (length entries) (idle_entries entries)

-- A fault, or the next one where there is none.
abbrev pub or_fault : (fault next : ℕ) → ℕ
or_fault zero next = next
or_fault (suc number) next = suc number

-- 32: the draw is not below the first running level's power.
abbrev pub draw_fault : (idle_power : ℕ) → (first : Level) → ℕ
draw_fault idle_power first = cond (leb (power_of first) idle_power) 32 0

-- The fault at running level number j: 4 and 5, and after them 32 at the first one.
unfoldable pub running_fault : (idle_power : ℕ) → List Level → (j : ℕ) → ℕ
running_fault idle_power levels zero = or_fault (level_fault levels 0) (draw_fault idle_power (level_of levels 0))
running_fault idle_power levels (suc j) = level_fault levels (suc j)

-- The fault at entry i. "Refusals 4 and 5 pass over that entry and test the next level as a first one."
unfoldable pub table_fault : List Level → (i : ℕ) → ℕ
table_fault entries i =
    cond (ltb i (idle_entries entries)) 0 (running_fault (idle_power_of entries) (running_levels entries) (i - idle_entries entries))

-- Reading levels. 1: under 2 bytes. 2: count not 1 to 8; it includes the idle entry. 3: length not 2 + 4v. 31: the idle
-- entry stands alone. Then by entry 4 and 5, and 32.
unfoldable pub read_levels : List ℕ → Outcome (List Level)
read_levels bytes =
    refuse_when (ltb (length bytes) 2) 1
    (refuse_when (not (leb 1 (level_count bytes) && leb (level_count bytes) max_levels)) 2
    (refuse_when (not (eqb (length bytes) (2 + 4 * level_count bytes))) 3
    (refuse_when (stands_alone (level_entries bytes)) 31
    (by_entry (level_count bytes) (table_fault (level_entries bytes))
    (answer (level_entries bytes))))))

-- The numbers that reading levels refuses by.
abbrev pub LevelNumbers : ℕ → Type 0
LevelNumbers n = From 1 5 n ⊎ From 31 32 n

-- A valid level table: at most 8 entries, running levels within document 01's limits, and a draw below the power of the
-- first of them.
pub record ValidLevelTable (entries : List Level) : Type 0 where
  pub few : length entries ≤ max_levels
  pub running : ValidLevels (running_levels entries)
  pub draw_low : idle_power_of entries < power_of (level_of (running_levels entries) 0)

-- The draw stands in the 16 bits of a voltage.
abbrev pub DrawFits : List Level → Type 0
DrawFits entries = idle_power_of entries ≤ 1_000 * max_draw

unfoldable pub encode_levels : List Level → List ℕ
encode_levels entries =
    bytes16 (length entries)
    ++ (encode_each (λ level. bytes16 level.frequency) entries
    ++ encode_each (λ level. bytes16 level.voltage) entries)

-- The law of the level table, proved in proofs/LevelTables.antt: a reading answers entries exactly when the bytes encode a
-- valid table, with its idle entry or without one, and then they are the encoded ones.
abbrev pub LevelsReadBack : Type 0
LevelsReadBack =
    (bytes : List ℕ) (entries : List Level) → IsBytes bytes
    → (read_levels bytes ≡ answer entries) ↔ (ValidLevelTable entries × DrawFits entries × (bytes ≡ encode_levels entries))
