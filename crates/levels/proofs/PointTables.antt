-- Laws of points in plain arrays: the points of a table one by one; a list of at most nine points in arrays is that list;
-- one more point at the end, of any points and of the first points of a list.
-- Assumes nothing.
use mathlib.Core.Path.{◌≡◌, sym, ◌∙◌, ap}
use mathlib.Core.List.{List, [], ◌∷◌, ◌++◌}
use Prim.Native.Nat.{ℕ, suc, ◌+◌, ◌<◌, ◌≤◌}
use native.Mathlib.Omega.{arith}
use lib.ListN.{length, take, set, length-append, get_or-append}
use lib.Seq.{get_or-append_seam, take-suc, length-take-le}
use Rattle.model.specs.Limits.{max_points}
use Rattle.model.specs.Points.{Point, idling_point, point_at}
use Rattle.model.proofs.Entries.{length_list_of, get_d_list_of, list_of_get_d, list_of_cong}
use Rattle.reading.specs.Column.{column_of}
use Rattle.reading.proofs.Column.{column_at, column_cong, column_more}
use Rattle.levels.specs.declared.points.PointTable.{PointTable}
use Rattle.levels.specs.PointTables.{point_in, point_table, points_of}

module _ (table : PointTable) where
  pub length_points_of : length (points_of table) ≡ table.count
  unfolding points_of
  length_points_of = length_list_of table.count _

  pub point-in : (i : ℕ) → i < table.count → point_at (points_of table) i ≡ point_in table.frequencies table.powers i
  unfolding points_of
  point-in i below = get_d_list_of table.count _ i _ below

-- points put into arrays and taken out again
pub table_points : (ps : List Point) → length ps ≤ max_points → points_of (point_table ps) ≡ ps
unfolding points_of
table_points ps few =
    list_of_cong (length ps) _ _ (λ i below. let inside : i < max_points = omega arith in rw (column_at, column_at))
    ∙ list_of_get_d ps (idling_point 0)

-- The arrays with one more point at the end.
abbrev pub with_point : PointTable → Point → PointTable
with_point table point =
    record {
      count = table.count + 1;
      frequencies = set table.frequencies table.count point.frequency;
      powers = set table.powers table.count point.power;
    }

-- the column of a field with one more point
column_point : (field : Point → ℕ) (ps : List Point) (point : Point) → length ps < max_points
    → set (column_of max_points (length ps) (λ i. field (point_at ps i))) (length ps) (field point)
    ≡ column_of max_points (length ps + 1) (λ i. field (point_at (ps ++ (point ∷ [])) i))
column_point field ps point few =
    column_more max_points (λ i. field (point_at (ps ++ (point ∷ [])) i)) _ (length ps) (field point) few
    (column_cong max_points (length ps) _ _ (λ i below. ap field (sym (get_or-append ps _ _ i below))))
    (ap field (sym (get_or-append_seam ps point [] (idling_point 0))))

pub table_more : (ps : List Point) (point : Point) → length ps < max_points → with_point (point_table ps) point ≡ point_table (ps ++ (point ∷ []))
table_more ps point few =
    let count : length (ps ++ (point ∷ [])) ≡ length ps + 1 = length-append ps (point ∷ []) in
    rw (count, column_point (λ p. p.frequency) ps point few, column_point (λ p. p.power) ps point few)

-- the next point of a list after its first points
pub table_next : (ps : List Point) (i : ℕ) → i < length ps → length ps ≤ max_points
    → with_point (point_table (take i ps)) (point_at ps i) ≡ point_table (take (suc i) ps)
table_next ps i below few =
    rw (take-suc ps i (idling_point 0) below)
    (table_more (take i ps) (point_at ps i) (omega (arith, length-take-le i ps (omega arith))))
