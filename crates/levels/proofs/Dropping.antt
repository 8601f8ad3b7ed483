-- Laws of the test that drops a point: three points read from a table in order keep the limits that the test asks for, and
-- what the test answers of them is what the definition says of the points with their numbers.
-- Assumes nothing.
use mathlib.Core.Path.{◌≡◌, sym, ◌∙◌}
use mathlib.Core.Bool.{Bool}
use mathlib.Core.List.{List}
use Prim.Native.Nat.{ℕ, ◌<◌, ◌≤◌}
use native.Mathlib.Omega.{arith}
use lib.ListN.{length}
use borrow.Author.Tests.{lt-ltb}
use Rattle.model.specs.Limits.{max_frequency, max_power}
use Rattle.model.specs.Points.{Point, point_at, drops}
use Rattle.model.proofs.Points.{frequencies_rise, powers_rise}
use Rattle.levels.specs.declared.points.Point.{Point as CodePoint}
use Rattle.levels.specs.declared.points.PointTable.{PointTable}
use Rattle.levels.specs.PointTables.{as_point, point_in, points_of, Ordered, SmallPoints, dropped_by}
use Rattle.levels.proofs.PointTables.{length_points_of, point-in}

-- three numbers of one field, along three points in order
ordered : (field : Point → ℕ) (ps : List Point) (limit a b c : ℕ) (p q r : CodePoint)
    → as_point p ≡ point_at ps a → as_point q ≡ point_at ps b → as_point r ≡ point_at ps c
    → field (point_at ps a) < field (point_at ps b) → field (point_at ps b) < field (point_at ps c) → field (point_at ps c) ≤ limit
    → Ordered (field (as_point p)) (field (as_point q)) (field (as_point r)) limit
ordered field ps limit a b c p q r at_a at_b at_c low high most =
    rw (at_a, at_b, at_c) (record { low = omega arith; high = omega arith; most = most })

module _ (table : PointTable) (a b c : ℕ) (lower : a < b) (higher : b < c) (inside : c < table.count) (p q r : CodePoint)
    (p-read : as_point p ≡ point_in table.frequencies table.powers a)
    (q-read : as_point q ≡ point_in table.frequencies table.powers b)
    (r-read : as_point r ≡ point_in table.frequencies table.powers c) where
  at_a : as_point p ≡ point_at (points_of table) a
  at_a = p-read ∙ sym (point-in table a (omega arith))

  at_b : as_point q ≡ point_at (points_of table) b
  at_b = q-read ∙ sym (point-in table b (omega arith))

  at_c : as_point r ≡ point_at (points_of table) c
  at_c = r-read ∙ sym (point-in table c inside)

  pub in_order : SmallPoints table
      → Ordered p.frequency q.frequency r.frequency max_frequency × Ordered p.power q.power r.power max_power
  in_order small =
      let ps = points_of table in
      let top : c < length ps = rw (length_points_of table) inside in
      let middle : b < length ps = omega arith in (
        ordered (λ x. x.frequency) ps max_frequency a b c p q r at_a at_b at_c
            (frequencies_rise ps small.rising a b lower middle)
            (frequencies_rise ps small.rising b c higher top)
            (small.frequency_high c inside),
        ordered (λ x. x.power) ps max_power a b c p q r at_a at_b at_c
            (powers_rise ps small.rising a b lower middle)
            (powers_rise ps small.rising b c higher top)
            (small.power_high c inside),
      )

  pub drop_test : (result : Bool) → result ≡ drops (as_point p) (as_point q) (as_point r) → result ≡ dropped_by (points_of table) a b c
  drop_test result found = rw (lt-ltb b c higher) (found ∙ rw (at_a, at_b, at_c))
