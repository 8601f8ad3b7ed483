-- Laws of the points in a table: how many there are, their frequencies in the terms of the table, and that these are small.
-- Assumes nothing.
use mathlib.Core.Path.{◌≡◌, sym, ap}
use Prim.Native.Nat.{ℕ, ◌-◌, ◌<◌, ◌≤◌}
use lib.ListN.{get_or}
use Rattle.model.specs.Points.{Point}
use Rattle.model.specs.Bands.{band_count, frequency_of}
use Rattle.levels.specs.declared.points.PointTable.{PointTable}
use Rattle.levels.specs.PointTables.{points_of, SmallPoints}
use Rattle.levels.proofs.PointTables.{length_points_of, point-in}

module _ (table : PointTable) where
  pub frequency_in : (i : ℕ) → i < table.count → get_or table.frequencies i 0 ≡ frequency_of (points_of table) i
  frequency_in i below = ap (λ (p : Point). p.frequency) (sym (point-in table i below))

  pub band-count : band_count (points_of table) ≡ table.count - 1
  band-count = ap (λ (n : ℕ). n - 1) (length_points_of table)

  module _ (small : SmallPoints table) where
    pub table_some : 2 ≤ table.count
    table_some = rw (length_points_of table) at small.rising.some

    pub frequency_high : (i : ℕ) → i < table.count → get_or table.frequencies i 0 ≤ 1_000
    frequency_high i below = rw (frequency_in i below) (small.frequency_high i below)
