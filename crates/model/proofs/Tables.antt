-- The law of a table in bytes: a count of 16 bits, then a stretch of bytes with a part of each entry, then a stretch
-- with the rest of each entry. A reading answers entries exactly when the bytes encode a valid table of them.
-- What varies between the tables is a record, and what the law asks of it another.
-- Assumes nothing.
use mathlib.Core.Path.{◌≡◌, refl, sym, ◌∙◌, ap}
use mathlib.Core.Logic.{◌↔◌}
use mathlib.Core.Bool.{Bool, false, not}
use mathlib.Core.List.{List, [], ◌++◌, append-nil}
use Prim.Native.Nat.{ℕ, suc, ◌+◌, ◌*◌, ◌^◌, ◌<◌, ◌≤◌}
use native.Mathlib.Nat.{mul-le-mul_left}
use native.Mathlib.Omega.{arith}
use lib.Dec.{ltb, eqb}
use lib.ListN.{length, get_or, take, drop, length-append}
use lib.Seq.{take_all, take-add, drop_at, drop-drop}
use borrow.Author.Tests.{eqb-true, not-false, le-ltb, eq-eqb}
use Rattle.model.specs.Outcome.{Outcome, answer, refuse_when, by_entry}
use Rattle.model.specs.Bytes.{IsBytes, number16, bytes16}
use Rattle.model.specs.Entries.{list_of, encode_each}
use Rattle.model.proofs.Outcome.{answered_past, answer_injective, by_entry_passes, by_entry_answered}
use Rattle.model.proofs.Bytes.{length_bytes_of, bytes_of_number_at, number_at_found}
use Rattle.model.proofs.Entries.{length_list_of, list_of_get_d, list_of_cong, length_encode_each, drop_encode_each, encode_each_list_of}

-- What varies.
pub record Table (A : Type 0) : Type 0 where
  -- an entry's bytes in the first stretch and in the second, and how many they are
  pub first : A → List ℕ
  pub second : A → List ℕ
  pub first_size : ℕ
  pub second_size : ℕ
  -- the entry that the bytes have at a number, and what stands past the last
  pub entry : List ℕ → ℕ → A
  pub none : A
  -- the refusals: their numbers, the test of the count, and the fault of an entry
  pub short_number : ℕ
  pub count_number : ℕ
  pub length_number : ℕ
  pub wrong_count : ℕ → Bool
  pub fault : List A → ℕ → ℕ

module _ {A : Type 0} (t : Table A) where
  abbrev pub entries : List ℕ → List A
  entries bytes = list_of (number16 bytes 0) (t.entry bytes)

  abbrev pub size : ℕ → ℕ
  size count = 2 + (t.first_size + t.second_size) * count

  -- where the two parts of entry i start
  abbrev pub first_place : ℕ → ℕ
  first_place i = 2 + t.first_size * i

  abbrev pub second_place : (count i : ℕ) → ℕ
  second_place count i = 2 + t.first_size * count + t.second_size * i

  abbrev pub read_table : List ℕ → Outcome (List A)
  read_table bytes =
      refuse_when (ltb (length bytes) 2) t.short_number
      (refuse_when (t.wrong_count (number16 bytes 0)) t.count_number
      (refuse_when (not (eqb (length bytes) (size (number16 bytes 0)))) t.length_number
      (by_entry (number16 bytes 0) (t.fault (entries bytes))
      (answer (entries bytes)))))

  abbrev pub encode_table : List A → List ℕ
  encode_table l = bytes16 (length l) ++ (encode_each t.first l ++ encode_each t.second l)

  -- what an answer says of the bytes
  record Accepted (bytes : List ℕ) : Type 0 where
    count : t.wrong_count (number16 bytes 0) ≡ false
    whole : length bytes ≡ size (number16 bytes 0)
    sound : (i : ℕ) → i < number16 bytes 0 → t.fault (entries bytes) i ≡ 0

  answered : (bytes : List ℕ) {l : List A} → read_table bytes ≡ answer l → Accepted bytes × (entries bytes ≡ l)
  answered bytes e =
      let long = answered_past (ltb (length bytes) 2) t.short_number _ e in
      let counted = answered_past (t.wrong_count (number16 bytes 0)) t.count_number _ long.1 in
      let measured = answered_past (not (eqb (length bytes) (size (number16 bytes 0)))) t.length_number _ counted.1 in
      let checked = by_entry_answered _ _ _ measured.1 in
      (record { count = counted.0; whole = eqb-true _ _ (not-false _ measured.0); sound = checked.0 }, answer_injective checked.1)

  -- an answer has a right count and entries without fault
  pub table_sound : (bytes : List ℕ) (l : List A) → read_table bytes ≡ answer l
      → (t.wrong_count (length l) ≡ false) × ((i : ℕ) → i < length l → t.fault l i ≡ 0)
  table_sound bytes l e =
      let found = answered bytes e in
      let many : length (entries bytes) ≡ number16 bytes 0 = length_list_of (number16 bytes 0) (t.entry bytes) in
      let count : t.wrong_count (length (entries bytes)) ≡ false = rw many found.0.count in
      let sound : (i : ℕ) → i < length (entries bytes) → t.fault (entries bytes) i ≡ 0 = λ i below. found.0.sound i (rw many at below) in
      (rw found.1 at count, rw found.1 at sound)

  answers : (bytes : List ℕ) → Accepted bytes → read_table bytes ≡ answer (entries bytes)
  answers bytes h =
      rw (le-ltb (length bytes) 2 (omega arith), h.count, eq-eqb _ _ h.whole)
      (by_entry_passes _ _ (number16 bytes 0) h.sound)

-- What the law asks: of the sizes, of being valid, of an entry's bytes once it was read, and of an entry read from its bytes.
pub record TableLaws {A : Type 0} (t : Table A) (Valid : List A → Type 0) : Type 0 where
  pub first-size : (x : A) → length (t.first x) ≡ t.first_size
  pub second-size : (x : A) → length (t.second x) ≡ t.second_size
  pub count_small : (n : ℕ) → t.wrong_count n ≡ false → n < 256 ^ 2
  pub valid_count : (l : List A) → Valid l → t.wrong_count (length l) ≡ false
  pub valid_sound : (l : List A) → Valid l → (i : ℕ) → i < length l → t.fault l i ≡ 0
  pub sound_valid : (bytes : List ℕ) → IsBytes bytes → (l : List A) → entries t bytes ≡ l
      → t.wrong_count (length l) ≡ false → ((i : ℕ) → i < length l → t.fault l i ≡ 0) → Valid l
  pub first_written : (bytes : List ℕ) (i : ℕ) → IsBytes bytes → first_place t i + t.first_size ≤ length bytes
      → t.first (t.entry bytes i) ≡ take t.first_size (drop (first_place t i) bytes)
  pub second_written : (bytes : List ℕ) (i : ℕ) → IsBytes bytes → second_place t (number16 bytes 0) i + t.second_size ≤ length bytes
      → t.second (t.entry bytes i) ≡ take t.second_size (drop (second_place t (number16 bytes 0) i) bytes)
  pub entry_read : (l : List A) → Valid l → (bytes : List ℕ) (i : ℕ) → i < length l
      → (more : List ℕ) → drop (first_place t i) bytes ≡ t.first (get_or l i t.none) ++ more
      → (rest : List ℕ) → drop (second_place t (number16 bytes 0) i) bytes ≡ t.second (get_or l i t.none) ++ rest
      → t.entry bytes i ≡ get_or l i t.none

-- a list in three parts
three_parts : (a b c : ℕ) (l : List ℕ) → length l ≡ a + (b + c) → take a l ++ (take b (drop a l) ++ take c (drop (a + b) l)) ≡ l
three_parts a b c l e = rw (← drop-drop, ← take-add, ← take-add) (take_all (a + (b + c)) l (omega arith))

module _ {A : Type 0} (t : Table A) (Valid : List A → Type 0) (laws : TableLaws t Valid) where
  accepted_encoded : (bytes : List ℕ) → IsBytes bytes → Accepted t bytes → bytes ≡ encode_table t (entries t bytes)
  accepted_encoded bytes small h =
      rw (length_list_of, bytes_of_number_at 2 bytes 0 small (omega arith), firsts, seconds)
      (sym (three_parts 2 (t.first_size * number16 bytes 0) (t.second_size * number16 bytes 0) bytes (omega arith)))
    where
      firsts : encode_each t.first (entries t bytes) ≡ take (t.first_size * number16 bytes 0) (drop 2 bytes)
      firsts =
          encode_each_list_of t.first t.first_size bytes 2 (number16 bytes 0) (t.entry bytes)
          (λ i below. laws.first_written bytes i small (omega (arith, mul-le-mul_left t.first_size below)))

      seconds : encode_each t.second (entries t bytes) ≡ take (t.second_size * number16 bytes 0) (drop (first_place t (number16 bytes 0)) bytes)
      seconds =
          encode_each_list_of t.second t.second_size bytes (first_place t (number16 bytes 0)) (number16 bytes 0) (t.entry bytes)
          (λ i below. laws.second_written bytes i small (omega (arith, mul-le-mul_left t.second_size below)))

  -- how long a table is
  pub length_encoded : (l : List A) → length (encode_table t l) ≡ size t (length l)
  length_encoded l =
      rw (
        length-append,
        length-append,
        length_bytes_of,
        length_encode_each t.first t.first_size laws.first-size,
        length_encode_each t.second t.second_size laws.second-size,
      )
      (omega arith)

  module _ (l : List A) (valid : Valid l) where
    count_encoded : number16 (encode_table t l) 0 ≡ length l
    count_encoded = number_at_found 2 (length l) (encode_table t l) _ 0 refl (laws.count_small _ (laws.valid_count l valid))

    module _ (i : ℕ) (below : i < length l) where
      first_encoded : drop (first_place t i) (encode_table t l)
          ≡ t.first (get_or l i t.none) ++ (encode_each t.first (drop (suc i) l) ++ encode_each t.second l)
      first_encoded =
          rw (← drop-drop, drop_at (bytes16 (length l)) _ 2 (length_bytes_of 2 (length l)))
          (drop_encode_each t.first t.first_size laws.first-size l (encode_each t.second l) i t.none below)

      second_encoded : drop (second_place t (number16 (encode_table t l) 0) i) (encode_table t l)
          ≡ t.second (get_or l i t.none) ++ (encode_each t.second (drop (suc i) l) ++ [])
      second_encoded =
          let firsts = length_encode_each t.first t.first_size laws.first-size l in
          let seconds = drop_encode_each t.second t.second_size laws.second-size l [] i t.none below in
          rw (count_encoded, ← drop-drop, ← drop-drop, drop_at (bytes16 (length l)) _ 2 (length_bytes_of 2 (length l)), drop_at _ _ _ firsts)
          (rw (append-nil (encode_each t.second l)) at seconds)

      entry_encoded : t.entry (encode_table t l) i ≡ get_or l i t.none
      entry_encoded = laws.entry_read l valid (encode_table t l) i below _ first_encoded _ second_encoded

    entries_encoded : entries t (encode_table t l) ≡ l
    entries_encoded = rw (count_encoded, list_of_cong (length l) _ _ entry_encoded) (list_of_get_d l t.none)

    encoded_accepted : Accepted t (encode_table t l)
    encoded_accepted =
        record {
          count = rw count_encoded (laws.valid_count l valid);
          whole = rw (count_encoded, length_encoded);
          sound = λ i below. rw entries_encoded (laws.valid_sound l valid i (rw count_encoded at below));
        }

  -- the law of the table
  pub table_read_back : (bytes : List ℕ) (l : List A) → IsBytes bytes
      → (read_table t bytes ≡ answer l) ↔ (Valid l × (bytes ≡ encode_table t l))
  table_read_back bytes l small = (forth, back)
    where
      forth : read_table t bytes ≡ answer l → Valid l × (bytes ≡ encode_table t l)
      forth e =
          let found = answered t bytes e in
          let sound = table_sound t bytes l e in
          (laws.sound_valid bytes small l found.1 sound.0 sound.1, rw found.1 at (accepted_encoded bytes small found.0))

      back : Valid l × (bytes ≡ encode_table t l) → read_table t bytes ≡ answer l
      back h = rw h.1 (answers t (encode_table t l) (encoded_accepted l h.0) ∙ ap answer (entries_encoded l h.0))
