-- Reading back: what stands encoded in the bytes is what a reader answers, and nothing else is answered (document 02,
-- Change 6). Stated of any function that meets the contract of `read_marks`. Proved in proofs/ReadingBack.antt.
use Rattle.std.specs.Prelude.{ℕ, ◌≡◌, List, length, Result, Ok}
use Rattle.std.specs.Borrow.{Bor}
use Rattle.model.specs.declared.refusal.Refusal.{Refusal}
use Rattle.model.specs.Limits.{max_marks}
use Rattle.model.specs.Bytes.{IsBytes}
use Rattle.model.specs.Marks.{mark_of, read_marks, ValidMarks, MarksFit, encode_marks}
use Rattle.reading.specs.Column.{column_of}
use Rattle.mark_tables.specs.declared.marks.MarkTable.{MarkTable}
use Rattle.mark_tables.specs.Tables.{mark_table, marks_in}

-- A reader of marks, lent bytes.
pub record ReadsMarksBack (read : Bor (List ℕ) → Result MarkTable Refusal) : Type 0 where
  -- lent the encoding of valid marks it answers exactly these: their number and their ticks, zeros past the last
  pub encoded_read : (marks : List ℕ) → ValidMarks marks → MarksFit marks → (bytes : Bor (List ℕ)) → bytes.now ≡ encode_marks marks
      → read bytes ≡ Ok (record { count = length marks; marks = column_of max_marks (length marks) (λ i. mark_of marks i) })
  -- where it answers marks they are valid, and the bytes are their encoding
  pub read_encoded : (bytes : Bor (List ℕ)) → IsBytes bytes.now → (table : MarkTable) → read bytes ≡ Ok table
      → let marks : List ℕ = marks_in table.count table.marks in
      ValidMarks marks × MarksFit marks × (bytes.now ≡ encode_marks marks)

-- Any function that meets the contract of `read_marks` reads marks back.
abbrev pub MarksComeBack : Type 0
MarksComeBack =
    (read : Bor (List ℕ) → Result MarkTable Refusal) → ((bytes : Bor (List ℕ)) → read bytes ≡ mark_table (read_marks bytes.now))
    → ReadsMarksBack read
