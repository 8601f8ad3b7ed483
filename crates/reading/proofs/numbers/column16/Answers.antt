-- `numbers::column16` meets its contract. What `fill_column` puts in is a column of numbers of 16 bits (proofs/Column.antt). Assumes nothing.
use mathlib.Core.Logic.{◌⊎◌, inl, inr}
use Prim.Native.Nat.{◌<◌, ◌≤◌}
use native.Mathlib.Omega.{arith}
use lib.ListN.{get_or}
use borrow.Author.Rules.{rules}
use Rattle.model.proofs.Numbers.{lt_or_le}
use Rattle.reading.proofs.Column.{column_filled}
use Rattle.reading.proofs.numbers.column16.Goals as goal

pub returns-clause-value : goal.returns-clause-value
returns-clause-value g c =
    column_filled _ _ _ _ c.fill_column.ensures.numbers_len
    (λ i below. let read = c.fill_column.ensures.filled i below in search rules) c.fill_column.ensures.zeros_after

pub returns-clause-small : goal.returns-clause-small
returns-clause-small g c i inside = small (lt_or_le i c.args.count)
  where
    small : (i < c.args.count) ⊎ (c.args.count ≤ i) → get_or c.fill_column.new.numbers i 0 < 65_536
    small (inl below) = let read = c.fill_column.ensures.filled i below in search rules
    small (inr past) = rw (c.fill_column.ensures.zeros_after i past) (omega arith)
