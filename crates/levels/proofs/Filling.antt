-- Laws of the points of a level table that stands in arrays, put into a table of points: idling, and then one running level
-- after another.
-- Assumes nothing.
use mathlib.Core.Path.{◌≡◌, refl, sym, ◌∙◌, ap}
use mathlib.Core.List.{List, [], ◌∷◌}
use Prim.Native.Nat.{ℕ, suc, ◌+◌, ◌-◌, ◌<◌, ◌≤◌}
use native.Mathlib.Omega.{arith}
use lib.ListN.{length, get_or, take, set, replicate}
use lib.Seq.{take_all}
use Rattle.model.specs.declared.Level.{Level}
use Rattle.model.specs.Limits.{max_frequency, max_voltage, max_power, max_points}
use Rattle.model.specs.Entries.{list_of}
use Rattle.model.specs.Levels.{level_of}
use Rattle.model.specs.Points.{Point, points, point_at, power_of, point_of_level}
use Rattle.model.specs.LevelTables.{idle_entries, idle_power_of, running_levels, ValidLevelTable}
use Rattle.model.specs.Processors.{all_points, processor_of}
use Rattle.model.proofs.Points.{points_length, points_level}
use Rattle.model.proofs.LevelTables.{first_voltage}
use Rattle.reading.specs.Column.{column_of}
use Rattle.level_tables.specs.Tables.{levels_in}
use Rattle.level_tables.proofs.Read.{level_in, levels_count, running-count, running_in}
use Rattle.level_tables.proofs.CheckedLevels.{entry_in, first_is}
use Rattle.levels.specs.declared.points.PointTable.{PointTable}
use Rattle.levels.specs.PointTables.{point_table}
use Rattle.levels.proofs.PointTables.{with_point, table_next}

-- idling alone
idling_table : (idle_power : ℕ) (levels : List Level)
    → record { count = 1; frequencies = replicate max_points 0; powers = set (replicate max_points 0) 0 idle_power } ≡ point_table (take 1 (points idle_power levels))
unfolding points column_of list_of
idling_table idle_power levels = refl

module _ (count : ℕ) (frequencies voltages : List ℕ) (valid : ValidLevelTable (levels_in count frequencies voltages)) where
  abbrev entries : List Level
  entries = levels_in count frequencies voltages

  abbrev points_in : List Point
  points_in = all_points (processor_of entries)

  -- the first running level
  abbrev first_in : ℕ
  first_in = idle_entries entries

  some : 1 ≤ count
  some = (levels_count count frequencies voltages valid).0

  first-in : level_of entries 0 ≡ entry_in count frequencies voltages 0
  first-in = level_in count frequencies voltages 0 some

  pub first_small : get_or voltages 0 0 ≤ max_power
  first_small = rw first-in at (first_voltage entries valid)

  pub first_found : (first : ℕ) → first ≡ idle_entries (entry_in count frequencies voltages 0 ∷ []) → first ≡ first_in
  first_found first counted = first_is count frequencies voltages some first counted

  pub idling_filled : (idle_power : ℕ) → idle_power ≡ idle_power_of (entry_in count frequencies voltages 0 ∷ [])
      → record { count = 1; frequencies = replicate max_points 0; powers = set (replicate max_points 0) 0 idle_power } ≡ point_table (take 1 points_in)
  idling_filled idle_power drawn =
      rw (drawn ∙ ap (λ (entry : Level). idle_power_of (entry ∷ [])) (sym first-in)) (idling_table (idle_power_of entries) (running_levels entries))

  count_points : length points_in ≡ suc (count - first_in)
  count_points = points_length (idle_power_of entries) (running_levels entries) ∙ ap suc (running-count count frequencies voltages valid)

  module _ (i : ℕ) (past : first_in ≤ i) where
    -- the table with idling and the running levels before entry i
    module _ (table : PointTable) (filled : table ≡ point_table (take (suc (i - first_in)) points_in)) where
      -- after the last level
      pub levels_all : count ≤ i → table ≡ point_table points_in
      levels_all all = filled ∙ rw (take_all (suc (i - first_in)) points_in (omega (arith, count_points)))

    module _ (below : i < count) where
      pub level_high : (get_or frequencies i 0 ≤ max_frequency) × (get_or voltages i 0 ≤ max_voltage)
      level_high =
          let inside : i - first_in < length (running_levels entries) = omega (arith, running-count count frequencies voltages valid) in
          let here = running_in count frequencies voltages valid i past below in
          (rw here at (valid.running.frequency_high (i - first_in) inside), rw here at (valid.running.voltage_high (i - first_in) inside))

      -- entry i is the next point
      entry_is_point : point_of_level (entry_in count frequencies voltages i) ≡ point_at points_in (suc (i - first_in))
      entry_is_point =
          ap point_of_level (sym (running_in count frequencies voltages valid i past below))
          ∙ sym (points_level (idle_power_of entries) (running_levels entries) (i - first_in))

      pub level_next : (power : ℕ) (table : PointTable) → table ≡ point_table (take (suc (i - first_in)) points_in)
          → power ≡ power_of (entry_in count frequencies voltages i)
          → with_point table (record { frequency = get_or frequencies i 0; power = power }) ≡ point_table (take (suc (i + 1 - first_in)) points_in)
      level_next power table filled is-power =
          let place : i + 1 - first_in ≡ suc (i - first_in) = omega arith in
          let point : record { frequency = get_or frequencies i 0; power = power } ≡ point_at points_in (suc (i - first_in)) = rw is-power entry_is_point in
          rw (filled, place)
          (ap (with_point (point_table (take (suc (i - first_in)) points_in))) point
          ∙ table_next points_in (suc (i - first_in)) (omega (arith, count_points)) (omega (arith, count_points, levels_count count frequencies voltages valid)))
