-- Handover marks (document 02, Change 6): "Up to 8 strictly rising ticks come beside the job table (count as 16 bits, ticks 32 bits
-- each), and each one strictly between earliest release and latest deadline is a bound too; others have no effect." Reading them,
-- what makes them valid, how they are encoded, and the bounds with them.
use Rattle.std.specs.Prelude.{ℕ, suc, ◌+◌, ◌-◌, ◌*◌, ◌^◌, ◌<◌, ◌≤◌, ◌≡◌, ◌↔◌, Bool, not, cond, ◌&&◌, List, [], ◌∷◌, ◌++◌, length, get_or, ltb, leb, eqb}
use Rattle.model.specs.declared.Job.{Job}
use Rattle.model.specs.Limits.{max_marks}
use Rattle.model.specs.Outcome.{Outcome, answer, refuse_when}
use Rattle.model.specs.Bytes.{IsBytes, number16, number32, bytes16, bytes32}
use Rattle.model.specs.Entries.{list_of, encode_each}
use Rattle.model.specs.Search.{some_below}
use Rattle.model.specs.Intervals.{insert_time, bounds_of, earliest_release, latest_deadline}

-- Mark number i of a table, counted from 0.
abbrev pub mark_of : List ℕ → ℕ → ℕ
mark_of marks i = get_or marks i 0

-- Marks in bytes: their count as 16 bits; ticks, 32 bits each.
abbrev pub mark_count : List ℕ → ℕ
mark_count bytes = number16 bytes 0

-- All ticks that the count announces, as the bytes have them.
abbrev pub mark_entries : List ℕ → List ℕ
mark_entries bytes = list_of (mark_count bytes) (λ i. number32 bytes (2 + 4 * i))

-- Not rising: some mark is not above the one before it.
abbrev pub not_rising : (marks : List ℕ) → Bool
not_rising marks = some_below (length marks - 1) (λ i. leb (mark_of marks (suc i)) (mark_of marks i))

-- Reading marks. 34: a wrong length, which under 2 bytes is, more than 8 marks, or not rising; "place 0 for all".
unfoldable pub read_marks : List ℕ → Outcome (List ℕ)
read_marks bytes =
    refuse_when (ltb (length bytes) 2) 34
    (refuse_when (ltb max_marks (mark_count bytes)) 34
    (refuse_when (not (eqb (length bytes) (2 + 4 * mark_count bytes))) 34
    (refuse_when (not_rising (mark_entries bytes)) 34
    (answer (mark_entries bytes)))))

-- Limits: up to 8 marks, strictly rising.
pub record ValidMarks (marks : List ℕ) : Type 0 where
  pub few : length marks ≤ max_marks
  pub rises : (i : ℕ) → suc i < length marks → mark_of marks i < mark_of marks (suc i)

-- A tick of a mark has 32 bits. It comes from the bytes, and nothing after reading needs it.
abbrev pub MarksFit : List ℕ → Type 0
MarksFit marks = (i : ℕ) → i < length marks → mark_of marks i < 256 ^ 4

unfoldable pub encode_marks : List ℕ → List ℕ
encode_marks marks = bytes16 (length marks) ++ encode_each bytes32 marks

-- No marks, in bytes.
abbrev pub no_marks : List ℕ
no_marks = 0 ∷ 0 ∷ []

-- The law of the mark table, proved in proofs/Marks.antt: a reading answers marks exactly when the bytes encode valid ones, and
-- then they are the encoded ones.
abbrev pub MarksReadBack : Type 0
MarksReadBack =
    (bytes marks : List ℕ) → IsBytes bytes
    → (read_marks bytes ≡ answer marks) ↔ (ValidMarks marks × MarksFit marks × (bytes ≡ encode_marks marks))

-- A mark strictly between two times.
abbrev pub is_between : (first last mark : ℕ) → Bool
is_between first last mark = ltb first mark && ltb mark last

-- Bounds with a mark put in its place where it lies strictly between two times; any other has no effect.
abbrev pub insert_mark : (first last mark : ℕ) → (bounds : List ℕ) → List ℕ
insert_mark first last mark bounds = cond (is_between first last mark) (insert_time mark bounds) bounds

unfoldable pub insert_marks : (first last : ℕ) → (marks bounds : List ℕ) → List ℕ
insert_marks first last [] bounds = bounds
insert_marks first last (mark ∷ marks) bounds = insert_mark first last mark (insert_marks first last marks bounds)

-- All releases and deadlines, and "each [mark] strictly between earliest release and latest deadline", sorted, repeats removed.
unfoldable pub bounds_with : (marks : List ℕ) → List Job → List ℕ
bounds_with marks jobs = insert_marks (earliest_release jobs) (latest_deadline jobs) marks (bounds_of jobs)
