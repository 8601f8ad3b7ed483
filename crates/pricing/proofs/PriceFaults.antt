-- Refusal 23 at an interval, one law for each way out of the code: a price fits a load exactly where the load lies between
-- the ends of the band that the price names. And what a test's answer says of the fault at an interval.
-- Assumes nothing.
use mathlib.Core.Path.{◌≡◌, sym, ◌∙◌}
use mathlib.Core.Bool.{Bool, true, false, not, cond, ◌&&◌, and-false}
use mathlib.Core.Logic.{◌⊎◌, inl, inr}
use mathlib.Core.List.{List}
use Prim.Native.Nat.{ℕ, zero, suc, ◌-◌, ◌*◌, ◌<◌, ◌≤◌}
use native.Mathlib.Nat.{mul-le-mul_left}
use native.Mathlib.Omega.{arith}
use lib.ListN.{get_or}
use lib.Dec.{leb}
use borrow.Author.Tests.{ne_eqb, lt-leb, le-leb, le-ltb, not-true, not-false}
use Rattle.model.specs.Points.{Point}
use Rattle.model.specs.Bands.{band_count, frequency_of, Curve}
use Rattle.model.specs.Setting.{band_of}
use Rattle.model.specs.Prices.{is_band_number, fits_load}
use Rattle.model.proofs.Numbers.{lt_or_le, true_or_false, true≢false, both_true}
use Rattle.model.proofs.Bands.{curve_frequencies_never_fall}
use Rattle.model.proofs.Search.{first_below_none}
use Rattle.model.proofs.Fitting.{Between, fits_between, between_fits}
use Rattle.levels.specs.declared.points.PointTable.{PointTable}
use Rattle.levels.specs.PointTables.{points_of}
use Rattle.levels.proofs.Frequencies.{frequency_in, band-count}

-- a price that names a band fits exactly the loads between its ends, whatever the load
module _ {ws : List Point} (curve : Curve ws) (length load k : ℕ) (band : k < band_count ws) where
  -- a load above what the top gives fits no price
  past_top : length * frequency_of ws (band_count ws) < load → fits_load ws length load (suc k) ≡ false
  unfolding fits_load band_of
  past_top past = go load past
    where
      none_fits : (over : ℕ) → length * frequency_of ws (band_count ws) < over → band_of ws length over ≡ band_count ws
      none_fits over above =
          first_below_none (band_count ws) _
          (λ l below.
          let rises = curve_frequencies_never_fall ws curve (suc l) (band_count ws) below (omega (arith, curve.some)) in
          lt-leb over (length * frequency_of ws (suc l)) (omega (arith, mul-le-mul_left length rises)))

      go : (over : ℕ) → length * frequency_of ws (band_count ws) < over → fits_load ws length over (suc k) ≡ false
      go zero above = absurd (omega arith)
      go (suc cycles) above =
          rw (
            none_fits (suc cycles) above,
            ne_eqb (suc k) (suc (band_count ws)) (λ e. omega arith),
            le-ltb (suc (band_count ws)) (band_count ws) (omega arith),
            and-false,
          )

  fits_ends : fits_load ws length load (suc k) ≡ true → Between ws length load k
  fits_ends fits = go (lt_or_le (length * frequency_of ws (band_count ws)) load)
    where
      go : (length * frequency_of ws (band_count ws) < load) ⊎ (load ≤ length * frequency_of ws (band_count ws)) → Between ws length load k
      go (inl past) = absurd (true≢false (sym fits ∙ past_top past))
      go (inr within) =
          fits_between curve length load within k (rw (le-leb 1 (suc k) (omega arith), le-leb (suc k) (band_count ws) band) fits)

  load_outside : (Between ws length load k → ⊥) → fits_load ws length load (suc k) ≡ false
  load_outside never = go (true_or_false (fits_load ws length load (suc k)))
    where
      go : (fits_load ws length load (suc k) ≡ true) ⊎ (fits_load ws length load (suc k) ≡ false) → fits_load ws length load (suc k) ≡ false
      go (inl fits) = absurd (never (fits_ends fits))
      go (inr fails) = fails

  load_between : 1 ≤ length → length * frequency_of ws k ≤ load → load ≤ length * frequency_of ws (suc k) → fits_load ws length load (suc k) ≡ true
  load_between some low high =
      (both_true (is_band_number ws (suc k)) _ (between_fits curve length load some k (record { band = band; low = low; high = high }))).1

-- the same over working points in arrays, as the code tests it
module _ (working : PointTable) (curve : Curve (points_of working)) (length load number : ℕ) (some : 1 ≤ length) (low : 1 ≤ number) (high : number < working.count) where
  from_one : number ≡ suc (number - 1)
  from_one = omega arith

  band : number - 1 < band_count (points_of working)
  band = omega (arith, band-count working)

  lower : length * frequency_of (points_of working) (number - 1) ≡ length * get_or working.frequencies (number - 1) 0
  lower = rw (frequency_in working (number - 1) (omega arith))

  upper : length * frequency_of (points_of working) (suc (number - 1)) ≡ length * get_or working.frequencies number 0
  upper = rw (← from_one, frequency_in working number high)

  fits_in_band :
      fits_load (points_of working) length load number
      ≡ (leb (length * get_or working.frequencies (number - 1) 0) load && leb load (length * get_or working.frequencies number 0))
  fits_in_band = go (lt_or_le load (length * get_or working.frequencies (number - 1) 0)) (lt_or_le (length * get_or working.frequencies number 0) load)
    where
      go : (load < length * get_or working.frequencies (number - 1) 0) ⊎ (length * get_or working.frequencies (number - 1) 0 ≤ load)
          → (length * get_or working.frequencies number 0 < load) ⊎ (load ≤ length * get_or working.frequencies number 0)
          → fits_load (points_of working) length load number
          ≡ (leb (length * get_or working.frequencies (number - 1) 0) load && leb load (length * get_or working.frequencies number 0))
      go (inl less) either =
          rw (
            lt-leb (length * get_or working.frequencies (number - 1) 0) load less,
            from_one,
            load_outside curve length load (number - 1) band (λ between. omega (arith, between.low, lower)),
          )
      go (inr least) (inl more) =
          rw (
            lt-leb load (length * get_or working.frequencies number 0) more,
            and-false,
            from_one,
            load_outside curve length load (number - 1) band (λ between. omega (arith, between.high, upper)),
          )
      go (inr least) (inr most) =
          rw (
            le-leb (length * get_or working.frequencies (number - 1) 0) load least,
            le-leb load (length * get_or working.frequencies number 0) most,
            from_one,
            load_between curve length load (number - 1) band some (omega (arith, lower)) (omega (arith, upper)),
          )

  pub outside_told : (told : Bool)
      → told ≡ not (leb (length * get_or working.frequencies (number - 1) 0) load && leb load (length * get_or working.frequencies number 0))
      → told ≡ not (fits_load (points_of working) length load number)
  outside_told told found = rw fits_in_band found

-- the fault at an interval, where it was told whether a test fails there
module _ (test told : Bool) (is : told ≡ not test) (number : ℕ) where
  pub told_wrong : told ≡ true → cond test 0 number ≡ number
  told_wrong e = rw (not-true test (sym is ∙ e))

  pub told_right : told ≡ false → cond test 0 number ≡ 0
  told_right e = rw (not-false test (sym is ∙ e))
