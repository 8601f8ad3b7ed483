-- `numbers::column32` meets its contract. What `fill_column` puts in is a column (proofs/Column.antt). Assumes nothing.
use borrow.Author.Rules.{rules}
use Rattle.reading.proofs.Column.{column_filled}
use Rattle.reading.proofs.numbers.column32.Goals as goal

pub returns : goal.returns
returns g c =
    column_filled _ _ _ _ c.fill_column.ensures.numbers_len
    (λ i below. let read = c.fill_column.ensures.filled i below in search rules) c.fill_column.ensures.zeros_after
