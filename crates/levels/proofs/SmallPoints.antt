-- The points of a valid processor, and its working points, keep the limits: at most nine, rising, frequencies at most
-- 1,000 and powers at most 1,000 × 500 × 500.
-- Assumes nothing.
use mathlib.Core.Path.{◌≡◌, refl}
use mathlib.Core.Bool.{not}
use mathlib.Core.List.{List}
use Prim.Native.Nat.{ℕ, zero, suc, ◌<◌, ◌≤◌}
use native.Mathlib.Omega.{arith}
use lib.ListN.{length}
use Rattle.model.specs.Limits.{max_points}
use Rattle.model.specs.Outcome.{Outcome, refused, answer}
use Rattle.model.specs.Points.{Point, point_at, dropped, working, RisingPoints}
use Rattle.model.specs.Processors.{Processor, all_points, working_of, read_processor, ValidProcessor}
use Rattle.model.proofs.Points.{points_length, points_level, power_high}
use Rattle.model.proofs.Sites.{processors_are_valid}
use Rattle.model.proofs.Working.{place, working_curve}
use Rattle.model.proofs.Selection.{select_length}
use Rattle.levels.specs.PointTables.{point_table, points_of, SmallPoints, working_read}
use Rattle.levels.proofs.PointTables.{table_points}

-- a point within the limits of frequency and power
record SmallPoint (point : Point) : Type 0 where
  frequency_high : point.frequency ≤ 1_000
  power_high : point.power ≤ 250_000_000

small_table : (ps : List Point) → length ps ≤ max_points → RisingPoints ps → ((i : ℕ) → i < length ps → SmallPoint (point_at ps i))
    → SmallPoints (point_table ps)
small_table ps few rising small =
    record {
      few = few;
      rising = rw (table_points ps few) rising;
      frequency_high = rw (table_points ps few) (λ i below. (small i below).frequency_high);
      power_high = rw (table_points ps few) (λ i below. (small i below).power_high);
    }

small_working : (ps : List Point) → length ps ≤ max_points → RisingPoints ps → ((i : ℕ) → i < length ps → SmallPoint (point_at ps i))
    → SmallPoints (point_table (working ps))
unfolding working
small_working ps few rising small =
    small_table (working ps) (omega (arith, select_length (λ i. not (dropped ps i)) 0 ps))
    (let curve = working_curve ps rising in
    record {
      some = curve.some;
      start = curve.start;
      frequency_rises = λ k inside. curve.frequency_rises k (omega arith);
      power_rises = λ k inside. curve.power_rises k (omega arith);
    })
    (λ k inside. let (i, p) = place ps k inside in rw p.same at (small i p.inside))

module _ (processor : Processor) (valid : ValidProcessor processor) where
  level_small : (i : ℕ) → i < length processor.levels → SmallPoint (point_at (all_points processor) (suc i))
  level_small i below =
      let levels = valid.levels in
      rw (points_level processor.idle_power processor.levels i)
      (record {
        frequency_high = levels.frequency_high i below;
        power_high = power_high processor.levels levels i below;
      })

  -- idling draws less than the first level
  small-points : (i : ℕ) → i < length (all_points processor) → SmallPoint (point_at (all_points processor) i)
  small-points zero inside =
      record {
        frequency_high = omega (arith, valid.rising.start);
        power_high = omega (
          arith,
          valid.rising.power_rises 0 valid.rising.some,
          (level_small 0 valid.levels.some).power_high,
        );
      }
  small-points (suc i) inside = level_small i (omega (arith, points_length processor.idle_power processor.levels))

  few_points : length (all_points processor) ≤ max_points
  few_points = omega (arith, points_length processor.idle_power processor.levels, valid.levels.few)

  -- all points of a valid processor
  pub points_small : SmallPoints (point_table (all_points processor))
  points_small = small_table (all_points processor) few_points valid.rising small-points

  -- its working points
  pub working_small : SmallPoints (point_table (working_of processor))
  working_small = small_working (all_points processor) few_points valid.rising small-points

  -- both stand whole in their tables
  pub points_held : points_of (point_table (all_points processor)) ≡ all_points processor
  points_held = table_points (all_points processor) few_points

  pub working_held : points_of (point_table (working_of processor)) ≡ working_of processor
  working_held = table_points (working_of processor) working_small.few

-- the working points of any bytes
pub read_few : (bytes : List ℕ) (highest : ℕ) → length (working_read (read_processor bytes highest)) ≤ max_points
read_few bytes highest = go (read_processor bytes highest) (processors_are_valid bytes highest)
  where
    go : (outcome : Outcome Processor) → ((processor : Processor) → outcome ≡ answer processor → ValidProcessor processor)
        → length (working_read outcome) ≤ max_points
    go (refused number place) valid = omega arith
    go (answer processor) valid = (working_small processor (valid processor refl)).few
