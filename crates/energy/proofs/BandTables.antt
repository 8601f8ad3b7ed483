-- Laws of the bands of the working points in a table: gaps and differences in power as the arrays have them, their limits, and
-- a band's energy over bounds that stand in an array.
-- Assumes nothing.
use mathlib.Core.Path.{◌≡◌, sym, ap}
use mathlib.Core.List.{List}
use Prim.Native.Nat.{ℕ, ◌+◌, ◌-◌, ◌*◌, ◌/◌, ◌<◌, ◌≤◌}
use native.Mathlib.Nat.{mul-le-mul, div-le_self}
use native.Mathlib.Numerals.{add-one}
use native.Mathlib.Omega.{arith}
use lib.ListN.{get_or, take}
use Rattle.model.specs.Sum.{sum}
use Rattle.model.specs.Points.{Point}
use Rattle.model.specs.Bands.{band_count, power_at, gap, rise}
use Rattle.model.proofs.Sum.{sum_next}
use Rattle.levels.specs.declared.points.PointTable.{PointTable}
use Rattle.levels.specs.PointTables.{points_of, SmallPoints}
use Rattle.levels.proofs.PointTables.{length_points_of, point-in}
use Rattle.levels.proofs.Frequencies.{frequency_in, band-count, table_some, frequency_high}
use Rattle.intervals.specs.Times.{SmallBounds}
use Rattle.energy.specs.Figures.{band_total_of, idle_of, band_energy_of, figure_of_loads}
use Rattle.energy.proofs.HeldBounds.{total_few, idle_few}

-- A band's gap and difference in power, as the arrays have them.
abbrev gap_in : PointTable → (band : ℕ) → ℕ
gap_in table k = get_or table.frequencies (k + 1) 0 - get_or table.frequencies k 0

abbrev rise_in : PointTable → (band : ℕ) → ℕ
rise_in table k = get_or table.powers (k + 1) 0 - get_or table.powers k 0

-- The figure over the first bands, with what idling draws, and its limit.
pub record FigureUpTo (ws : List Point) (bounds loads : List ℕ) (bands figure : ℕ) : Type 0 where
  pub figured : figure ≡ sum bands (band_energy_of ws bounds loads) + idle_of bounds (power_at ws 0)
  pub small : figure ≤ 250_000_000_000_000 + 250_000_000_000_000_000 * bands

module _ (table : PointTable) where
  power_in : (i : ℕ) → i < table.count → get_or table.powers i 0 ≡ power_at (points_of table) i
  power_in i below = ap (λ (p : Point). p.power) (sym (point-in table i below))

  module _ (small : SmallPoints table) where
    pub power_high : (i : ℕ) → i < table.count → get_or table.powers i 0 ≤ 250_000_000
    power_high i below = rw (power_in i below) (small.power_high i below)

    -- a band's two ends stand in the arrays
    module _ (k : ℕ) (inside : k + 1 < table.count) where
      pub frequency_steps : get_or table.frequencies k 0 < get_or table.frequencies (k + 1) 0
      frequency_steps =
          rw (frequency_in table k (omega arith), frequency_in table (k + 1) inside, add-one k)
          (small.rising.frequency_rises k (omega (arith, length_points_of table)))

      pub power_steps : get_or table.powers k 0 < get_or table.powers (k + 1) 0
      power_steps =
          rw (power_in k (omega arith), power_in (k + 1) inside, add-one k)
          (small.rising.power_rises k (omega (arith, length_points_of table)))

      gap-in : gap_in table k ≡ gap (points_of table) k
      unfolding gap
      gap-in = rw (frequency_in table k (omega arith), frequency_in table (k + 1) inside, add-one k)

      rise-in : rise_in table k ≡ rise (points_of table) k
      unfolding rise
      rise-in = rw (power_in k (omega arith), power_in (k + 1) inside, add-one k)

      pub ends_high : (get_or table.frequencies k 0 ≤ 1_000) × (gap_in table k ≤ 1_000)
      ends_high = (frequency_high table small k (omega arith), omega (arith, frequency_high table small (k + 1) inside))

      -- the band's total over bounds that stand in an array, and the energy that comes of it
      module _ (bounds : ℕ) (times loads : List ℕ) (total : ℕ)
          (summed : total ≡ band_total_of (take bounds times) loads (get_or table.frequencies k 0) (gap_in table k)) where
        pub energy_few : SmallBounds bounds times → total * rise_in table k ≤ 250_000_000_000_000_000
        energy_few held =
            let few : total ≤ 1_000_000 * gap_in table k = rw summed (total_few bounds times held loads _ _) in
            let high : rise_in table k ≤ 250_000_000 = omega (arith, power_high (k + 1) inside) in
            omega (arith, mul-le-mul few high, ends_high.1)

        energy_in : total * rise_in table k / gap_in table k ≡ band_energy_of (points_of table) (take bounds times) loads k
        energy_in = rw (summed, gap-in, rise-in, frequency_in table k (omega arith))

        -- the figure with one band more
        pub figure_more : SmallBounds bounds times → (figure : ℕ) → FigureUpTo (points_of table) (take bounds times) loads k figure
            → FigureUpTo (points_of table) (take bounds times) loads (k + 1) (figure + total * rise_in table k / gap_in table k)
        figure_more held figure before =
            record {
              figured = omega (arith, before.figured, energy_in, sum_next k (band_energy_of (points_of table) (take bounds times) loads));
              small = omega (arith, before.small, energy_few held, div-le_self (total * rise_in table k) (gap_in table k));
            }

    -- without bands there is what idling draws
    pub figure_none : (bounds : ℕ) (times loads : List ℕ) (figure : ℕ) → SmallBounds bounds times
        → figure ≡ idle_of (take bounds times) (get_or table.powers 0 0) → FigureUpTo (points_of table) (take bounds times) loads 0 figure
    unfolding sum
    figure_none bounds times loads figure held drawn =
        let some-point : 0 < table.count = omega (arith, table_some table small) in
        record {
          figured = rw (← power_in 0 some-point) (omega arith);
          small = omega (arith, idle_few bounds times held (get_or table.powers 0 0), power_high 0 some-point);
        }

  -- after the last band
  pub figure_all : (bounds loads : List ℕ) (k figure : ℕ) → k ≤ table.count - 1 → table.count - 1 ≤ k
      → FigureUpTo (points_of table) bounds loads k figure → figure ≡ figure_of_loads (points_of table) bounds loads
  unfolding figure_of_loads
  figure_all bounds loads k figure within past all = let every : band_count (points_of table) ≡ k = omega (arith, band-count table) in rw every all.figured
