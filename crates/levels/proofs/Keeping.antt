-- Laws of the points that are not dropped, put into a table one after another: at the end they are the working points.
-- Assumes nothing.
use mathlib.Core.Path.{◌≡◌, refl, ◌∙◌}
use mathlib.Core.Bool.{true, false, not}
use mathlib.Core.List.{List, [], append-nil}
use Prim.Native.Nat.{ℕ, ◌+◌, ◌<◌, ◌≤◌}
use native.Mathlib.Nat.{zero-add}
use native.Mathlib.Numerals.{add-one}
use native.Mathlib.Omega.{arith}
use lib.ListN.{length, take}
use lib.Seq.{take_all, length-take-le}
use Rattle.model.specs.Limits.{max_points}
use Rattle.model.specs.Points.{Point, idling_point, point_at, dropped, select_from, working}
use Rattle.model.proofs.Selection.{select_length, select_next}
use Rattle.levels.specs.declared.points.PointTable.{PointTable}
use Rattle.levels.specs.PointTables.{point_table}
use Rattle.levels.proofs.PointTables.{with_point, table_more}

module _ (ps : List Point) where
  -- of the first points those that are not dropped
  pub kept : (count : ℕ) → List Point
  kept count = select_from 0 (λ i. not (dropped ps i)) (take count ps)

  pub kept_none : [] ≡ kept 0
  unfolding kept select_from
  kept_none = refl

  pub kept_all : (count : ℕ) → length ps ≤ count → kept count ≡ working ps
  unfolding kept working
  kept_all count all = rw (take_all count ps all)

  kept_few : (count : ℕ) → count ≤ length ps → length (kept count) ≤ count
  unfolding kept
  kept_few count inside = omega (arith, select_length (λ i. not (dropped ps i)) 0 (take count ps), length-take-le count ps inside)

  pub kept_count : (i : ℕ) (table : PointTable) → i ≤ length ps → table ≡ point_table (kept i) → table.count ≤ i
  kept_count i table inside filled = rw filled (kept_few i inside)

  module _ (i : ℕ) (below : i < length ps) (table : PointTable) (filled : table ≡ point_table (kept i)) where
    -- a dropped point is passed over
    pub kept_dropped : dropped ps i ≡ true → table ≡ point_table (kept (i + 1))
    unfolding kept
    kept_dropped drop =
        filled ∙ rw (add-one i, select_next (λ i. not (dropped ps i)) 0 ps i (idling_point 0) below, zero-add i, drop, append-nil)

    -- any other is put at the end
    pub kept_point : (point : Point) → length ps ≤ max_points → point ≡ point_at ps i → dropped ps i ≡ false
        → with_point table point ≡ point_table (kept (i + 1))
    unfolding kept
    kept_point point few is-next keep =
        rw (filled, is-next, add-one i, select_next (λ i. not (dropped ps i)) 0 ps i (idling_point 0) below, zero-add i, keep)
        (table_more (kept i) (point_at ps i) (omega (arith, kept_few i (omega arith))))
