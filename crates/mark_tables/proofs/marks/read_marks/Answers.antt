-- `marks::read_marks` meets its contract. Each way out rests on the tests that led there and on what the callees ensure, by the
-- laws of proofs/MarksIn.antt. Assumes nothing.
use mathlib.Core.Path.{sym, ◌∙◌, ap}
use native.Mathlib.Omega.{arith}
use Rattle.std.specs.Prelude.{Err}
use Rattle.mark_tables.specs.Tables.{mark_table}
use Rattle.mark_tables.proofs.MarksIn.{marks_short, marks_many, marks_cut, marks_fall, marks_answered}
use Rattle.mark_tables.proofs.marks.read_marks.Goals as goal

pub returns-then-bytes-lt2 : goal.returns-then-bytes-lt2
returns-then-bytes-lt2 c = ap Err c.at.ensures ∙ ap mark_table (marks_short _ (omega arith))

pub returns-then-count-gt-MAX_MARKS : goal.returns-then-count-gt-MAX_MARKS
returns-then-count-gt-MAX_MARKS c = ap Err c.at-then-count-gt-MAX_MARKS.ensures ∙ ap mark_table (marks_many _ (omega arith) (omega arith))

pub returns-then-bytes-count : goal.returns-then-bytes-count
returns-then-bytes-count c = ap Err c.at-then-bytes-count.ensures ∙ ap mark_table (marks_cut _ (omega arith) (omega arith) (λ e. omega arith))

pub returns-then-not_rising : goal.returns-then-not_rising
returns-then-not_rising c =
    ap Err c.at-then-not_rising.ensures
    ∙ ap mark_table
    (marks_fall _ (omega arith) (omega arith) (omega arith) _ _
    c.number16-count.ensures.0 c.column32.ensures (sym c.if-not_rising.true ∙ c.not_rising.ensures))

pub returns : goal.returns
returns c =
    marks_answered _ (omega arith) (omega arith) (omega arith) _ _
    c.number16-count.ensures.0 c.column32.ensures (sym c.if-not_rising.false ∙ c.not_rising.ensures)
