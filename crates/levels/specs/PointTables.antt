-- Points in plain arrays.
use Rattle.std.specs.Prelude.{ℕ, ◌≤◌, ◌<◌, Bool, ◌&&◌, List, [], length, get_or, ltb}
use Rattle.model.specs.Limits.{max_points, max_frequency, max_power}
use Rattle.model.specs.Outcome.{Outcome, refused, answer}
use Rattle.model.specs.Entries.{list_of}
use Rattle.model.specs.Search.{some_below}
use Rattle.model.specs.Points.{Point, point_at, drops, RisingPoints}
use Rattle.model.specs.Processors.{Processor, working_of}
use Rattle.reading.specs.Column.{column_of}
use Rattle.levels.specs.declared.points.Point.{Point as CodePoint}
use Rattle.levels.specs.declared.points.PointTable.{PointTable}

-- A point of the code as a point of the definitions.
abbrev pub as_point : CodePoint → Point
as_point point = record { frequency = point.frequency; power = point.power }

-- A list of points in arrays, zeros past the last.
abbrev pub point_table : List Point → PointTable
point_table ps =
    record {
      count = length ps;
      frequencies = column_of max_points (length ps) (λ i. (point_at ps i).frequency);
      powers = column_of max_points (length ps) (λ i. (point_at ps i).power);
    }

-- The point with a number, in arrays.
abbrev pub point_in : (frequencies powers : List ℕ) → ℕ → Point
point_in frequencies powers i = record { frequency = get_or frequencies i 0; power = get_or powers i 0 }

-- The points that stand in arrays.
unfoldable pub points_of : PointTable → List Point
points_of table = list_of table.count (point_in table.frequencies table.powers)

-- A count and two arrays, lent one by one, as a table.
abbrev pub table_of : (count : ℕ) → (frequencies powers : List ℕ) → PointTable
table_of count frequencies powers = record { count = count; frequencies = frequencies; powers = powers }

-- Three numbers in order, none above a limit.
pub record Ordered (a b c limit : ℕ) : Type 0 where
  pub low : a ≤ b
  pub high : b ≤ c
  pub most : c ≤ limit

-- Points of a valid level table: at most nine, rising, and within the limits of frequency and power.
pub record SmallPoints (table : PointTable) : Type 0 where
  pub few : table.count ≤ max_points
  pub rising : RisingPoints (points_of table)
  pub frequency_high : (i : ℕ) → i < table.count → (point_at (points_of table) i).frequency ≤ max_frequency
  pub power_high : (i : ℕ) → i < table.count → (point_at (points_of table) i).power ≤ max_power

-- Point c is higher than point b, and with point a it drops b.
abbrev pub dropped_by : List Point → (a b c : ℕ) → Bool
dropped_by ps a b c = ltb b c && drops (point_at ps a) (point_at ps b) (point_at ps c)

-- The lower point a and some higher point drop point b.
abbrev pub dropped_from : List Point → (a b : ℕ) → Bool
dropped_from ps a b = some_below (length ps) (dropped_by ps a b)

-- The working points of a processor that was read; a level table that is refused has none.
abbrev pub working_read : Outcome Processor → List Point
working_read (refused number place) = []
working_read (answer processor) = working_of processor
