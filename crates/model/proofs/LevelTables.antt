-- Laws of the level table: what its idle entry and its running levels are, and that a reading answers entries exactly when
-- the bytes encode a valid table of them.
-- Assumes nothing.
use mathlib.Core.Path.{◌≡◌, refl, sym, ◌∙◌, ap, ap₂, subst}
use mathlib.Core.Logic.{◌↔◌, ◌⊎◌, inl, inr}
use mathlib.Core.Bool.{Bool, true, false, not, cond, ◌&&◌}
use mathlib.Core.List.{List, ◌∷◌, ◌++◌}
use Prim.Native.Nat.{ℕ, zero, suc, ◌+◌, ◌-◌, ◌*◌, ◌<◌, ◌≤◌}
use native.Mathlib.Omega.{arith}
use lib.Dec.{ltb, leb, eqb}
use lib.ListN.{length, drop, length-drop}
use lib.Seq.{get_or-drop}
use borrow.Author.Tests.{leb-false, le-leb, lt-leb, lt-ltb, le-ltb, ne_eqb, eqb-true, eqb-false}
use Rattle.model.specs.declared.Level.{Level}
use Rattle.model.specs.Limits.{max_levels, max_power}
use Rattle.model.specs.Outcome.{Outcome, answer, refuse_when, by_entry, by_entry_from}
use Rattle.model.specs.Bytes.{IsBytes, number16, bytes16}
use Rattle.model.specs.Levels.{idling, level_of, fault_of_level, level_fault, ValidLevels}
use Rattle.model.specs.Points.{power_of}
use Rattle.model.specs.LevelTables.{level_count, level_at, level_entries, begins_idle, idle_entry, idle_entries, idle_power_of, running_levels, stands_alone}
use Rattle.model.specs.LevelTables.{or_fault, draw_fault, running_fault, table_fault, read_levels, ValidLevelTable, DrawFits, encode_levels, LevelsReadBack}
use Rattle.model.proofs.Numbers.{true_or_false, lt_or_le}
use Rattle.model.proofs.Bytes.{length_bytes_of, bytes_of_number_at, number_at_found, number_at_small}
use Rattle.model.proofs.Entries.{get_d_list_of, length_list_of}
use Rattle.model.proofs.Tests.{in-range}
use Rattle.model.proofs.Levels.{valid_levels, levels_faultless}
use Rattle.model.proofs.Points.{power_some, power_high}
use Rattle.model.proofs.Tables.{Table, TableLaws, read_table, table_sound, table_read_back}

-- a table has one idle entry at most
few_idle : (idle : Bool) → cond idle 1 0 ≤ 1
few_idle true = omega arith
few_idle false = omega arith

module _ (entries : List Level) where
  pub idle_few : idle_entries entries ≤ 1
  idle_few = few_idle (begins_idle entries)

  pub running_length : length (running_levels entries) ≡ length entries - idle_entries entries
  running_length = length-drop (idle_entries entries) entries

  -- running level j is the entry that stands j after the idle one
  pub running_level : (j : ℕ) → level_of (running_levels entries) j ≡ level_of entries (idle_entries entries + j)
  running_level j = get_or-drop (idle_entries entries) entries j idling

  -- some entry runs where the idle one does not stand alone
  not_alone : stands_alone entries ≡ false → 1 ≤ length entries → 1 ≤ length (running_levels entries)
  not_alone apart some =
      let other = eqb-false (length entries) (idle_entries entries) apart in
      rw running_length (omega (arith, idle_few, other))

  pub apart : 1 ≤ length (running_levels entries) → stands_alone entries ≡ false
  apart some = ne_eqb (length entries) (idle_entries entries) (λ e. omega (arith, running_length, e))

  -- the fault of a running level is the fault of its entry
  fault_of_running : (j : ℕ) → table_fault entries (idle_entries entries + j) ≡ running_fault (idle_power_of entries) (running_levels entries) j
  unfolding table_fault
  fault_of_running j =
      let place : idle_entries entries + j - idle_entries entries ≡ j = omega arith in
      rw (le-ltb (idle_entries entries + j) (idle_entries entries) (omega arith), place)

  -- 4, 5 and then 32 at the first running level, with no level before it
  pub fault_of_first : table_fault entries (idle_entries entries)
      ≡ or_fault (fault_of_level idling (level_of entries (idle_entries entries))) (draw_fault (idle_power_of entries) (level_of entries (idle_entries entries)))
  unfolding running_fault
  fault_of_first =
      let here : idle_entries entries + 0 ≡ idle_entries entries = omega arith in
      rw here at
      (fault_of_running 0 ∙ ap (λ (first : Level). or_fault (fault_of_level idling first) (draw_fault (idle_power_of entries) first)) (running_level 0))

  -- 4 and 5 at a later one, with the entry before it
  pub fault_of_later : (j : ℕ) → idle_entries entries ≤ j → table_fault entries (suc j) ≡ fault_of_level (level_of entries j) (level_of entries (suc j))
  unfolding running_fault
  fault_of_later j past =
      let d : ℕ = j - idle_entries entries in
      let here : idle_entries entries + d ≡ j = omega arith in
      let next : idle_entries entries + suc d ≡ suc j = omega arith in
      rw (here, next) at (fault_of_running (suc d) ∙ ap₂ fault_of_level (running_level d) (running_level (suc d)))

  -- and the idle entry has none
  pub fault_of_idle : (i : ℕ) → i < idle_entries entries → table_fault entries i ≡ 0
  unfolding table_fault
  fault_of_idle i idle = rw (lt-ltb i (idle_entries entries) idle)

-- no fault of two in turn
both_none : (fault next : ℕ) → or_fault fault next ≡ 0 → (fault ≡ 0) × (next ≡ 0)
both_none zero next e = (refl, e)
both_none (suc number) next e = absurd (omega arith)

draw_sound : (idle_power : ℕ) (first : Level) → (draw_fault idle_power first ≡ 0) ↔ (idle_power < power_of first)
draw_sound idle_power first = (forth (true_or_false (leb (power_of first) idle_power)), λ low. rw (lt-leb (power_of first) idle_power low))
  where
    forth : (leb (power_of first) idle_power ≡ true) ⊎ (leb (power_of first) idle_power ≡ false) → draw_fault idle_power first ≡ 0 → idle_power < power_of first
    forth (inl above) e = let z : ◌≡◌ {A = ℕ} 32 0 = rw above at e in absurd (omega arith)
    forth (inr below) e = leb-false _ _ below

-- no running level has a fault exactly when none has 4 or 5 and the draw is low
module _ (idle_power : ℕ) (levels : List Level) where
  running-levels : (j : ℕ) → running_fault idle_power levels j ≡ 0 → level_fault levels j ≡ 0
  unfolding running_fault
  running-levels zero e = (both_none (level_fault levels 0) _ e).0
  running-levels (suc j) e = e

  running_draw : running_fault idle_power levels 0 ≡ 0 → idle_power < power_of (level_of levels 0)
  unfolding running_fault
  running_draw e = (draw_sound idle_power (level_of levels 0)).0 (both_none (level_fault levels 0) _ e).1

  running_faultless : ValidLevels levels → idle_power < power_of (level_of levels 0) → (j : ℕ) → j < length levels → running_fault idle_power levels j ≡ 0
  unfolding running_fault
  running_faultless valid low zero below = rw (levels_faultless levels valid 0 below) ((draw_sound _ _).1 low)
  running_faultless valid low (suc j) below = levels_faultless levels valid (suc j) below

-- 31 is the fault of every entry of a table whose idle entry stands alone; it has one
fault_or_alone : List Level → ℕ → ℕ
fault_or_alone entries i = cond (stands_alone entries) 31 (table_fault entries i)

cond_none : (alone : Bool) (fault : ℕ) → cond alone 31 fault ≡ 0 → (alone ≡ false) × (fault ≡ 0)
cond_none true fault e = absurd (omega arith)
cond_none false fault e = (refl, e)

-- a table of at least one entry without fault is valid
valid_table : (entries : List Level) → 1 ≤ length entries → length entries ≤ max_levels
    → ((i : ℕ) → i < length entries → fault_or_alone entries i ≡ 0) → ValidLevelTable entries
unfolding fault_or_alone
valid_table entries some few faultless =
    record {
      few = few;
      running = valid_levels (running_levels entries) runs (omega (arith, running_length entries))
          (λ j below. running-levels (idle_power_of entries) (running_levels entries) j (at j below));
      draw_low = running_draw (idle_power_of entries) (running_levels entries) (at 0 runs);
    }
  where
    runs : 1 ≤ length (running_levels entries)
    runs = not_alone entries (cond_none (stands_alone entries) _ (faultless 0 some)).0 some

    at : (j : ℕ) → j < length (running_levels entries) → running_fault (idle_power_of entries) (running_levels entries) j ≡ 0
    at j below =
        let inside : idle_entries entries + j < length entries = omega (arith, running_length entries) in
        sym (fault_of_running entries j) ∙ (cond_none (stands_alone entries) _ (faultless (idle_entries entries + j) inside)).1

module _ (entries : List Level) (valid : ValidLevelTable entries) where
  pub table_some : idle_entries entries < length entries
  table_some = omega (arith, running_length entries, valid.running.some)

  entry_faultless : (i : ℕ) → i < length entries → (i < idle_entries entries) ⊎ (idle_entries entries ≤ i) → table_fault entries i ≡ 0
  entry_faultless i below (inl idle) = fault_of_idle entries i idle
  entry_faultless i below (inr runs) =
      let place : i ≡ idle_entries entries + (i - idle_entries entries) = omega arith in
      rw place
      (fault_of_running entries (i - idle_entries entries)
      ∙ running_faultless _ _ valid.running valid.draw_low (i - idle_entries entries) (omega (arith, running_length entries)))

  table_faultless : (i : ℕ) → i < length entries → fault_or_alone entries i ≡ 0
  unfolding fault_or_alone
  table_faultless i below = rw (apart entries valid.running.some) (entry_faultless i below (lt_or_le i (idle_entries entries)))

  -- the place of the first voltage, which is a draw or a voltage, is small
  pub first_voltage : (level_of entries 0).voltage ≤ max_power
  first_voltage = go (true_or_false (begins_idle entries))
    where
      go : (begins_idle entries ≡ true) ⊎ (begins_idle entries ≡ false) → (level_of entries 0).voltage ≤ max_power
      go (inl idle) =
          let low : 1_000 * (level_of entries 0).voltage < power_of (level_of (running_levels entries) 0) =
          subst (λ (begins : Bool). cond begins (1_000 * (level_of entries 0).voltage) 0 < power_of (level_of (running_levels entries) 0)) idle valid.draw_low in
          omega (arith, power_high (running_levels entries) valid.running 0 valid.running.some)
      go (inr runs) =
          let high : ValidLevels (drop 0 entries) = rw runs at valid.running in
          omega (arith, high.voltage_high 0 high.some)

-- levels without an idle entry
module _ (levels : List Level) (valid : ValidLevels levels) where
  pub plain_begins : begins_idle levels ≡ false
  plain_begins = ne_eqb (level_of levels 0).frequency 0 (λ e. omega (arith, valid.frequency_low 0 valid.some))

  pub plain_table : ValidLevelTable levels × DrawFits levels
  plain_table =
      (record { few = valid.few; running = rw plain_begins valid; draw_low = rw plain_begins (power_some levels valid) }, rw plain_begins (omega arith))

-- levels after one
pub idle_table : (draw : ℕ) (levels : List Level) → ValidLevels levels → length levels ≤ 7 → draw ≤ 65_535
    → 1_000 * draw < power_of (level_of levels 0) → ValidLevelTable (idle_entry draw ∷ levels) × DrawFits (idle_entry draw ∷ levels)
idle_table draw levels valid few high low = (record { few = omega arith; running = valid; draw_low = low }, omega arith)

-- both numbers of an entry stand in 16 bits
module _ (entries : List Level) (valid : ValidLevelTable entries) (fits : DrawFits entries) where
  entry_small : (i : ℕ) → i < length entries → (i < idle_entries entries) ⊎ (idle_entries entries ≤ i)
      → ((level_of entries i).frequency < 65_536) × ((level_of entries i).voltage < 65_536)
  entry_small i below (inl idle) = small (true_or_false (begins_idle entries))
    where
      small : (begins_idle entries ≡ true) ⊎ (begins_idle entries ≡ false) → ((level_of entries i).frequency < 65_536) × ((level_of entries i).voltage < 65_536)
      small (inl yes-idle) =
          let first : i ≡ 0 = omega (arith, idle_few entries) in
          let none : (level_of entries 0).frequency ≡ 0 = eqb-true _ _ yes-idle in
          let draw : 1_000 * (level_of entries 0).voltage ≤ 65_535_000 = rw yes-idle at fits in
          rw first (omega arith, omega arith)
      small (inr not-idle) = let none : i < 0 = rw not-idle at idle in absurd (omega arith)
  entry_small i below (inr runs) =
      let j : ℕ = i - idle_entries entries in
      let inside : j < length (running_levels entries) = omega (arith, running_length entries) in
      let place : i ≡ idle_entries entries + j = omega arith in
      rw (place, ← running_level entries j)
      (omega (arith, valid.running.frequency_high j inside), omega (arith, valid.running.voltage_high j inside))

abbrev levels_table : Table Level
levels_table =
    record {
      first = λ level. bytes16 level.frequency;
      second = λ level. bytes16 level.voltage;
      first_size = 2;
      second_size = 2;
      entry = level_at;
      none = idling;
      short_number = 1;
      count_number = 2;
      length_number = 3;
      wrong_count = λ n. not (leb 1 n && leb n max_levels);
      fault = fault_or_alone;
    }

abbrev Fit : List Level → Type 0
Fit entries = ValidLevelTable entries × DrawFits entries

-- an entry stands where its frequency's and its voltage's bytes do
level_read : (entries : List Level) → Fit entries → (bytes : List ℕ) (i : ℕ) → i < length entries
    → (more : List ℕ) → drop (2 + 2 * i) bytes ≡ bytes16 (level_of entries i).frequency ++ more
    → (rest : List ℕ) → drop (2 + 2 * number16 bytes 0 + 2 * i) bytes ≡ bytes16 (level_of entries i).voltage ++ rest
    → level_at bytes i ≡ level_of entries i
unfolding level_at
level_read entries (valid, fits) bytes i below more first rest second =
    let small = entry_small entries valid fits i below (lt_or_le i (idle_entries entries)) in
    rw (
      number_at_found 2 _ bytes more (2 + 2 * i) first small.0,
      number_at_found 2 _ bytes rest (2 + 2 * number16 bytes 0 + 2 * i) second small.1,
    )

counted_valid : (entries : List Level) → not (leb 1 (length entries) && leb (length entries) max_levels) ≡ false
    → ((i : ℕ) → i < length entries → fault_or_alone entries i ≡ 0) → ValidLevelTable entries
counted_valid entries e = let count = in-range (length entries) max_levels e in valid_table entries count.0 count.1

-- a draw that was read fits
draw_fits : (bytes : List ℕ) → IsBytes bytes → 1 ≤ level_count bytes → DrawFits (level_entries bytes)
unfolding level_at
draw_fits bytes small some =
    let first : level_of (level_entries bytes) 0 ≡ level_at bytes 0 = get_d_list_of (level_count bytes) (level_at bytes) 0 idling some in
    let voltage : (level_of (level_entries bytes) 0).voltage < 65_536 = rw first (number_at_small 2 bytes (2 + 2 * level_count bytes + 2 * 0) small) in
    go (begins_idle (level_entries bytes)) voltage
  where
    go : (idle : Bool) {voltage : ℕ} → voltage < 65_536 → cond idle (1_000 * voltage) 0 ≤ 65_535_000
    go true high = omega arith
    go false high = omega arith

levels_laws : TableLaws levels_table Fit
unfolding level_at
levels_laws =
    record {
      first-size = λ level. length_bytes_of 2 level.frequency;
      second-size = λ level. length_bytes_of 2 level.voltage;
      count_small = λ n e. omega (arith, in-range n max_levels e);
      valid_count = λ entries h.
          let some : 1 ≤ length entries = omega (arith, table_some entries h.0) in
          rw (le-leb 1 (length entries) some, le-leb (length entries) max_levels h.0.few);
      valid_sound = λ entries h. table_faultless entries h.0;
      sound_valid = λ bytes small entries read e faultless.
          (counted_valid entries e faultless, rw read at (draw_fits bytes small (counted bytes entries read e)));
      first_written = λ bytes i. bytes_of_number_at 2 bytes (2 + 2 * i);
      second_written = λ bytes i. bytes_of_number_at 2 bytes (2 + 2 * number16 bytes 0 + 2 * i);
      entry_read = level_read;
    }
  where
    counted : (bytes : List ℕ) (entries : List Level) → level_entries bytes ≡ entries
        → not (leb 1 (length entries) && leb (length entries) max_levels) ≡ false → 1 ≤ level_count bytes
    counted bytes entries read e =
        let many : length entries ≡ level_count bytes = ap length (sym read) ∙ length_list_of (level_count bytes) (level_at bytes) in
        omega (arith, in-range (length entries) max_levels e)

-- 31 before the entries is 31 at the first of them
under : {A : Type 0} (test : Bool) (number : ℕ) {one two : Outcome A} → (test ≡ false → one ≡ two)
    → refuse_when test number one ≡ refuse_when test number two
under true number same = refl
under false number same = same refl

alone_first : {A : Type 0} (alone : Bool) (fault : ℕ → ℕ) (count : ℕ) (next : Outcome A) → 1 ≤ count
    → refuse_when alone 31 (by_entry count fault next) ≡ by_entry count (λ i. cond alone 31 (fault i)) next
unfolding by_entry_from
alone_first true fault zero next some = absurd (omega arith)
alone_first true fault (suc count) next some = refl
alone_first false fault count next some = refl

table_read : (bytes : List ℕ) → read_levels bytes ≡ read_table levels_table bytes
unfolding read_levels fault_or_alone
table_read bytes =
    under (ltb (length bytes) 2) 1 λ long.
    under (not (leb 1 (level_count bytes) && leb (level_count bytes) max_levels)) 2 λ counted.
    under (not (eqb (length bytes) (2 + 4 * level_count bytes))) 3 λ whole.
    alone_first (stands_alone (level_entries bytes)) (table_fault (level_entries bytes)) (level_count bytes) (answer (level_entries bytes))
    (in-range (level_count bytes) max_levels counted).0

-- what a reading answers is a valid table
pub levels_valid : (bytes : List ℕ) (entries : List Level) → read_levels bytes ≡ answer entries → ValidLevelTable entries
levels_valid bytes entries e =
    let sound = table_sound levels_table bytes entries (sym (table_read bytes) ∙ e) in
    counted_valid entries sound.0 sound.1

pub levels_read_back : LevelsReadBack
unfolding encode_levels
levels_read_back bytes entries small =
    let law = table_read_back levels_table Fit levels_laws bytes entries small in (
      λ e. let found = law.0 (sym (table_read bytes) ∙ e) in (found.0.0, found.0.1, found.1),
      λ h. table_read bytes ∙ law.1 ((h.0, h.1), h.2),
    )
