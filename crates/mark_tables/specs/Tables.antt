-- What reading marks answers, for each outcome: the marks in a plain array, or the refusal.
use Rattle.std.specs.Prelude.{ℕ, List, length, get_or, Result}
use Rattle.model.specs.declared.refusal.Refusal.{Refusal}
use Rattle.model.specs.Limits.{max_marks}
use Rattle.model.specs.Outcome.{Outcome}
use Rattle.model.specs.Refusals.{returned_by}
use Rattle.model.specs.Entries.{list_of}
use Rattle.model.specs.Marks.{mark_of}
use Rattle.reading.specs.Column.{column_of}
use Rattle.mark_tables.specs.declared.marks.MarkTable.{MarkTable}

-- The whole answer of reading marks: the marks, zeros after them; or the refusal.
abbrev pub mark_table : Outcome (List ℕ) → Result MarkTable Refusal
mark_table outcome =
    returned_by (λ marks. record { count = length marks; marks = column_of max_marks (length marks) (λ i. mark_of marks i) }) outcome

-- The marks that stand in an array, the first `count` of them.
unfoldable pub marks_in : (count : ℕ) → (marks : List ℕ) → List ℕ
marks_in count marks = list_of count (λ i. get_or marks i 0)
