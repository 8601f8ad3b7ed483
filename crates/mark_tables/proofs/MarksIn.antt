-- Laws of marks in an array: one by one, whether they rise, and the ways out of reading them.
-- Assumes nothing.
use mathlib.Core.Path.{◌≡◌, refl, sym, ◌∙◌, ap}
use mathlib.Core.Bool.{true, false}
use mathlib.Core.List.{List}
use Prim.Native.Nat.{ℕ, suc, ◌+◌, ◌-◌, ◌*◌, ◌<◌, ◌≤◌}
use native.Mathlib.Omega.{arith}
use lib.ListN.{length, get_or}
use borrow.Author.Tests.{lt-ltb, le-ltb, eq-eqb, ne_eqb, le-leb, lt-leb}
use Rattle.model.specs.Limits.{max_marks}
use Rattle.model.specs.Bytes.{number32}
use Rattle.std.specs.Prelude.{Ok}
use Rattle.model.specs.Outcome.{refused, answer}
use Rattle.model.specs.Marks.{mark_of, mark_count, mark_entries, not_rising, read_marks}
use Rattle.model.proofs.Entries.{length_list_of, get_d_list_of, list_of_get_d, list_of_cong}
use Rattle.model.proofs.Search.{some_below_holds, some_below_fails}
use Rattle.model.proofs.Marks.{marks_valid}
use Rattle.model.proofs.Refusals.{returned_answered}
use Rattle.reading.specs.Column.{column_of}
use Rattle.reading.proofs.Column.{column_at, column_of_entries}
use Rattle.mark_tables.specs.declared.marks.MarkTable.{MarkTable}
use Rattle.mark_tables.specs.Tables.{mark_table, marks_in}

module _ (count : ℕ) (marks : List ℕ) where
  pub length_marks_in : length (marks_in count marks) ≡ count
  unfolding marks_in
  length_marks_in = length_list_of count _

  pub mark_in : (i : ℕ) → i < count → mark_of (marks_in count marks) i ≡ get_or marks i 0
  unfolding marks_in
  mark_in i below = get_d_list_of count _ i 0 below

  -- a mark that is not above the one before it is found
  pub falls_at : (i : ℕ) → i + 1 < count → get_or marks (i + 1) 0 ≤ get_or marks i 0 → true ≡ not_rising (marks_in count marks)
  falls_at i below falls =
      let next : suc i ≡ i + 1 = omega arith in
      let here : mark_of (marks_in count marks) (suc i) ≤ mark_of (marks_in count marks) i = rw (next, mark_in (i + 1) below, mark_in i (omega arith)) falls in
      sym (some_below_holds (length (marks_in count marks) - 1) _ i (omega (arith, length_marks_in)) (le-leb _ _ here))

  -- and where there is none they rise
  pub rises_all : ((i : ℕ) → i + 1 < count → get_or marks i 0 < get_or marks (i + 1) 0) → false ≡ not_rising (marks_in count marks)
  rises_all rises =
      sym (some_below_fails (length (marks_in count marks) - 1) _ (λ i below. lt-leb _ _ (above i (omega (arith, length_marks_in)))))
    where
      above : (i : ℕ) → i + 1 < count → mark_of (marks_in count marks) i < mark_of (marks_in count marks) (suc i)
      above i below = let next : suc i ≡ i + 1 = omega arith in rw (next, mark_in (i + 1) below, mark_in i (omega arith)) (rises i below)

-- the marks of a list stand in its column
marks_held : (marks : List ℕ) → length marks ≤ max_marks → marks_in (length marks) (column_of max_marks (length marks) (λ i. mark_of marks i)) ≡ marks
unfolding marks_in
marks_held marks few =
    list_of_cong (length marks) _ _ (λ i below. let inside : i < max_marks = omega arith in rw column_at) ∙ list_of_get_d marks 0

-- what a caller that was given the marks knows
module _ (bytes : List ℕ) (table : MarkTable) (read : mark_table (read_marks bytes) ≡ Ok table) where
  pub marks_read : read_marks bytes ≡ answer (marks_in table.count table.marks)
  marks_read =
      let (marks, answered, is) = returned_answered _ (read_marks bytes) table read in
      answered ∙ ap answer (sym (held is (marks_valid bytes marks answered).few))
    where
      held : {marks : List ℕ} → record { count = length marks; marks = column_of max_marks (length marks) (λ i. mark_of marks i) } ≡ table
          → length marks ≤ max_marks → marks_in table.count table.marks ≡ marks
      held {marks} is few = rw (← is) (marks_held marks few)

  -- no more than there may be
  pub marks_few : table.count ≤ max_marks
  marks_few = omega (arith, (marks_valid bytes _ marks_read).few, length_marks_in table.count table.marks)

-- the ways out of reading
module _ (bytes : List ℕ) where
  pub marks_short : length bytes < 2 → refused 34 0 ≡ read_marks bytes
  unfolding read_marks
  marks_short short = rw (lt-ltb _ _ short)

  module _ (long : 2 ≤ length bytes) where
    pub marks_many : max_marks < mark_count bytes → refused 34 0 ≡ read_marks bytes
    unfolding read_marks
    marks_many many = rw (le-ltb _ _ long, lt-ltb _ _ many)

    module _ (few : mark_count bytes ≤ max_marks) where
      pub marks_cut : (length bytes ≡ 2 + 4 * mark_count bytes → ⊥) → refused 34 0 ≡ read_marks bytes
      unfolding read_marks
      marks_cut cut = rw (le-ltb _ _ long, le-ltb _ _ few, ne_eqb _ _ cut)

      -- what was filled and found, as the code has it
      module _ (whole : length bytes ≡ 2 + 4 * mark_count bytes) (count : ℕ) (marks : List ℕ) (counted : count ≡ mark_count bytes)
          (filled : marks ≡ column_of max_marks count (λ i. number32 bytes (2 + 4 * i))) where
        marks_are : marks_in count marks ≡ mark_entries bytes
        unfolding marks_in
        marks_are =
            rw (filled, counted)
            (list_of_cong (mark_count bytes) _ _ (λ i below. let inside : i < max_marks = omega arith in rw column_at))

        pub marks_fall : true ≡ not_rising (marks_in count marks) → refused 34 0 ≡ read_marks bytes
        unfolding read_marks
        marks_fall falls =
            let found : not_rising (mark_entries bytes) ≡ true = rw (← marks_are) (sym falls) in
            rw (le-ltb _ _ long, le-ltb _ _ few, eq-eqb _ _ whole, found)

        pub marks_answered : false ≡ not_rising (marks_in count marks)
            → Ok (record { count = count; marks = marks }) ≡ mark_table (read_marks bytes)
        unfolding read_marks
        marks_answered rises =
            let none : not_rising (mark_entries bytes) ≡ false = rw (← marks_are) (sym rises) in
            rw (le-ltb _ _ long, le-ltb _ _ few, eq-eqb _ _ whole, none, filled, counted)
            (rw (column_of_entries max_marks (mark_count bytes) (λ i. number32 bytes (2 + 4 * i)) 0 (λ mark. mark) _ (λ i. refl), length_list_of (mark_count bytes) (λ i. number32 bytes (2 + 4 * i))))
