-- Laws of a load over the working points in a table: products with a length of at most 1,000,000 ticks are small, and the
-- band and the setting of a load in the terms of the table.
-- Assumes nothing.
use mathlib.Core.Path.{◌≡◌, sym, ◌∙◌}
use mathlib.Core.Bool.{false}
use Prim.Native.Nat.{ℕ, suc, ◌+◌, ◌-◌, ◌*◌, ◌<◌, ◌≤◌}
use native.Mathlib.Nat.{mul-le-mul}
use native.Mathlib.Numerals.{add-one}
use native.Mathlib.Omega.{arith}
use lib.Dec.{leb}
use lib.ListN.{get_or}
use borrow.Author.Tests.{le-leb, lt-leb}
use Rattle.model.specs.Bands.{band_count, frequency_of, gap, Curve}
use Rattle.model.specs.Setting.{band_of, setting_of}
use Rattle.model.proofs.Search.{first_below_is, first_below_none}
use Rattle.model.proofs.Fitting.{InBand, band_of_law, setting_of_is}
use Rattle.levels.specs.declared.points.PointTable.{PointTable}
use Rattle.levels.specs.PointTables.{points_of, SmallPoints}
use Rattle.levels.proofs.PointTables.{length_points_of}
use Rattle.levels.proofs.Frequencies.{frequency_in, band-count, frequency_high}
use Rattle.settings.specs.Settings.{answered, Fits}

module _ (table : PointTable) (small : SmallPoints table) where
  pub load_high : (length i : ℕ) → length ≤ 1_000_000 → i < table.count → length * get_or table.frequencies i 0 ≤ 1_000_000_000
  load_high length i short below = omega (arith, mul-le-mul short (frequency_high table small i below))

-- The upper end of band j, over the length, is below the load.
abbrev pub Past : PointTable → (length load j : ℕ) → Type 0
Past table length load j = leb load (length * frequency_of (points_of table) (suc j)) ≡ false

-- the search for the band of a load
module _ (table : PointTable) (length load k : ℕ) where
  pub band_past : k < table.count - 1 → length * get_or table.frequencies (k + 1) 0 < load → Past table length load k
  band_past inside over = rw (frequency_in table (k + 1) (omega arith), add-one k) at (lt-leb _ _ over)

  pub band_found : k < table.count - 1 → ((j : ℕ) → j < k → Past table length load j) → load ≤ length * get_or table.frequencies (k + 1) 0
      → k ≡ band_of (points_of table) length load
  unfolding band_of
  band_found inside before upto =
      sym (first_below_is _ _ k (rw (band-count table) inside) before
      (rw (frequency_in table (k + 1) (omega arith), add-one k) at (le-leb _ _ upto)))

  pub band_none : k ≤ table.count - 1 → table.count - 1 ≤ k → ((j : ℕ) → j < k → Past table length load j)
      → k ≡ band_of (points_of table) length load
  unfolding band_of
  band_none inside last before =
      let e : k ≡ band_count (points_of table) = omega (arith, band-count table) in
      e ∙ sym (first_below_none _ _ (rw e at before))

-- the setting of a load
module _ (table : PointTable) (curve : Curve (points_of table)) (length load k : ℕ)
    (found : k ≡ band_of (points_of table) length load) (positive : 0 < load) (fits : Fits (points_of table) length load) where
  in_band : InBand (points_of table) length load k
  in_band = rw (← found) at (band_of_law curve length load positive fits)

  pub band_inside : k + 1 < table.count
  band_inside = omega (arith, in_band.band, length_points_of table)

  pub lower_below : length * get_or table.frequencies k 0 < load
  lower_below = rw (frequency_in table k (omega (arith, band_inside))) in_band.above

  pub frequency_above : get_or table.frequencies k 0 ≤ get_or table.frequencies (k + 1) 0
  frequency_above =
      rw (frequency_in table k (omega (arith, band_inside)), frequency_in table (k + 1) band_inside, add-one k)
      (omega (arith, curve.frequency_rises k in_band.band))

  pub setting_found : record {
    band = k + 1;
    extra = load - length * get_or table.frequencies k 0;
    gap = get_or table.frequencies (k + 1) 0 - get_or table.frequencies k 0;
  }
      ≡ answered (setting_of (points_of table) length load)
  unfolding gap
  setting_found =
      rw (
        frequency_in table k (omega (arith, band_inside)),
        frequency_in table (k + 1) band_inside,
        add-one k,
        setting_of_is curve length load k in_band,
      )

pub setting_idle : (table : PointTable) (length load : ℕ) → load ≡ 0 → record { band = 0; extra = 0; gap = 0 } ≡ answered (setting_of (points_of table) length load)
unfolding setting_of
setting_idle table length load empty = rw empty
