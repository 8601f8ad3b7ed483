-- Laws of the mark table: what a reading answers is valid, and a reading answers marks exactly when the bytes encode valid ones.
-- Assumes nothing.
use mathlib.Core.Path.{◌≡◌, refl, sym, ◌∙◌}
use mathlib.Core.Bool.{false, not}
use mathlib.Core.List.{List, [], ◌∷◌, append-nil}
use Prim.Native.Nat.{ℕ, suc, ◌+◌, ◌-◌, ◌*◌, ◌<◌, ◌≤◌}
use native.Mathlib.Omega.{arith}
use lib.Dec.{ltb, eqb}
use lib.ListN.{length}
use borrow.Author.Tests.{ltb-false, leb-false, le-ltb, lt-leb}
use Rattle.model.specs.Limits.{max_marks}
use Rattle.model.specs.Outcome.{answer}
use Rattle.model.specs.Bytes.{IsBytes, number_at, number16, number32, bytes32}
use Rattle.model.specs.Entries.{list_of, encode_each}
use Rattle.model.specs.Search.{some_below}
use Rattle.model.specs.Marks.{mark_of, mark_count, mark_entries, not_rising, read_marks, ValidMarks, MarksFit, encode_marks, no_marks, MarksReadBack}
use Rattle.model.proofs.Outcome.{answered_past, answer_injective, by_entry_passes}
use Rattle.model.proofs.Entries.{length_list_of, get_d_list_of}
use Rattle.model.proofs.Bytes.{length_bytes_of, number_at_small, bytes_of_number_at, number_at_found}
use Rattle.model.proofs.Search.{some_below_none, some_below_fails}
use Rattle.model.proofs.Tables.{Table, TableLaws, read_table, entries, encode_table, table_sound, table_read_back}

-- marks rise where no mark is found that is not above the one before it
pub rising_passed : (marks : List ℕ) → not_rising marks ≡ false → (i : ℕ) → suc i < length marks → mark_of marks i < mark_of marks (suc i)
rising_passed marks e i below = leb-false _ _ (some_below_none (length marks - 1) _ e i (omega arith))

pub rising_passes : (marks : List ℕ) → ((i : ℕ) → suc i < length marks → mark_of marks i < mark_of marks (suc i)) → not_rising marks ≡ false
rising_passes marks rises = some_below_fails (length marks - 1) _ (λ i below. lt-leb _ _ (rises i (omega arith)))

-- The ticks alone, whether they rise or not, are a table with one stretch.
abbrev ticks : Table ℕ
ticks =
    record {
      first = bytes32;
      second = λ mark. [];
      first_size = 4;
      second_size = 0;
      entry = λ bytes i. number32 bytes (2 + 4 * i);
      none = 0;
      short_number = 34;
      count_number = 34;
      length_number = 34;
      wrong_count = λ n. ltb max_marks n;
      fault = λ marks i. 0;
    }

abbrev Ticks : List ℕ → Type 0
Ticks marks = (length marks ≤ max_marks) × MarksFit marks

ticks_fit : (bytes : List ℕ) → IsBytes bytes → (marks : List ℕ) → entries ticks bytes ≡ marks → MarksFit marks
ticks_fit bytes small marks read i below =
    let count : length (entries ticks bytes) ≡ number16 bytes 0 = length_list_of (number16 bytes 0) (λ i. number32 bytes (2 + 4 * i)) in
    let inside : i < length (entries ticks bytes) = rw read below in
    rw (← read, get_d_list_of (number16 bytes 0) (λ i. number32 bytes (2 + 4 * i)) i 0 (omega arith)) (number_at_small 4 bytes (2 + 4 * i) small)

ticks_laws : TableLaws ticks Ticks
ticks_laws =
    record {
      first-size = λ mark. length_bytes_of 4 mark;
      second-size = λ mark. refl;
      count_small = λ n e. omega (arith, ltb-false max_marks n e);
      valid_count = λ marks h. le-ltb max_marks (length marks) h.0;
      valid_sound = λ marks h i below. refl;
      sound_valid = λ bytes small marks read e sound. (ltb-false max_marks (length marks) e, ticks_fit bytes small marks read);
      first_written = λ bytes i. bytes_of_number_at 4 bytes (2 + 4 * i);
      second_written = λ bytes i small inside. refl;
      entry_read = λ marks h bytes i below more first rest second. number_at_found 4 _ bytes more (2 + 4 * i) first (h.1 i below);
    }

-- a reading answers marks exactly when their ticks are read, and rise
marks_ticks : (bytes marks : List ℕ) → read_marks bytes ≡ answer marks → (read_table ticks bytes ≡ answer marks) × (not_rising marks ≡ false)
unfolding read_marks
marks_ticks bytes marks e =
    let (long, e) = answered_past (ltb (length bytes) 2) 34 _ e in
    let (counted, e) = answered_past (ltb max_marks (mark_count bytes)) 34 _ e in
    let (measured, e) = answered_past (not (eqb (length bytes) (2 + 4 * mark_count bytes))) 34 _ e in
    let (rises, e) = answered_past (not_rising (mark_entries bytes)) 34 _ e in
    let same : mark_entries bytes ≡ marks = answer_injective e in
    (rw (long, counted, measured) (by_entry_passes _ _ (mark_count bytes) (λ i below. refl) ∙ e), rw same at rises)

ticks_marks : (bytes marks : List ℕ) → read_table ticks bytes ≡ answer marks → not_rising marks ≡ false → read_marks bytes ≡ answer marks
unfolding read_marks
ticks_marks bytes marks e rises =
    let (long, e) = answered_past (ltb (length bytes) 2) 34 _ e in
    let (counted, e) = answered_past (ltb max_marks (mark_count bytes)) 34 _ e in
    let (measured, e) = answered_past (not (eqb (length bytes) (2 + 4 * mark_count bytes))) 34 _ e in
    let e = sym (by_entry_passes _ _ (mark_count bytes) (λ i below. refl)) ∙ e in
    let same : mark_entries bytes ≡ marks = answer_injective e in
    rw (long, counted, measured, same, rises)

-- what a reading answers is valid
pub marks_valid : (bytes marks : List ℕ) → read_marks bytes ≡ answer marks → ValidMarks marks
marks_valid bytes marks e =
    let (read, rises) = marks_ticks bytes marks e in
    record { few = ltb-false max_marks (length marks) (table_sound ticks bytes marks read).0; rises = rising_passed marks rises }

-- the second stretch is empty
encode_nothing : (marks : List ℕ) → encode_each (λ (mark : ℕ). []) marks ≡ []
unfolding encode_each
encode_nothing [] = refl
encode_nothing (mark ∷ marks) = encode_nothing marks

one_stretch : (marks : List ℕ) → encode_table ticks marks ≡ encode_marks marks
unfolding encode_marks
one_stretch marks = rw (encode_nothing marks, append-nil)

pub marks_read_back : MarksReadBack
marks_read_back bytes marks small = (forth, back)
  where
    forth : read_marks bytes ≡ answer marks → ValidMarks marks × MarksFit marks × (bytes ≡ encode_marks marks)
    forth e =
        let (read, rises) = marks_ticks bytes marks e in
        let (fit, encoded) = (table_read_back ticks Ticks ticks_laws bytes marks small).0 read in
        (marks_valid bytes marks e, fit.1, encoded ∙ one_stretch marks)

    back : ValidMarks marks × MarksFit marks × (bytes ≡ encode_marks marks) → read_marks bytes ≡ answer marks
    back (valid, fit, encoded) =
        ticks_marks bytes marks
        ((table_read_back ticks Ticks ticks_laws bytes marks small).1 ((valid.few, fit), encoded ∙ sym (one_stretch marks)))
        (rising_passes marks valid.rises)

-- no marks are read as none
pub no_marks_read : read_marks no_marks ≡ answer []
unfolding read_marks number_at list_of some_below
no_marks_read = refl
