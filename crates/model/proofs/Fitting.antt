-- Laws of the band of a load, of the setting of an interval, and of the prices that fit a load (rule 23): a band number
-- fits exactly when the load lies between the ends of that band.
-- Assumes nothing.
use mathlib.Core.Path.{◌≡◌, refl, sym}
use mathlib.Core.Bool.{Bool, true, ◌&&◌, or-true}
use mathlib.Core.Logic.{◌⊎◌, inl, inr}
use mathlib.Core.List.{List}
use Prim.Native.Nat.{ℕ, zero, suc, ◌-◌, ◌*◌, ◌<◌, ◌≤◌}
use native.Mathlib.Nat.{eq-or-lt_of_le, mul-le-mul_left, mul-lt-mul_of_pos_left}
use native.Mathlib.Omega.{arith}
use lib.Dec.{ltb, leb, eqb}
use borrow.Author.Tests.{lt-ltb, leb-true, le-leb, lt-leb, leb-false, eqb-true, eq-eqb}
use Rattle.model.specs.Points.{Point}
use Rattle.model.specs.Bands.{band_count, frequency_of, gap, Curve}
use Rattle.model.specs.Setting.{band_of, setting_of}
use Rattle.model.specs.Prices.{is_band_number, fits_load}
use Rattle.model.proofs.Numbers.{lt_or_le, both_true, either_true}
use Rattle.model.proofs.Bands.{curve_frequencies_never_fall}
use Rattle.model.proofs.Search.{first_below_is, FirstBelow, first_below_law}

-- the load lies in band k, above its lower end
pub record InBand (ws : List Point) (length load k : ℕ) : Type 0 where
  pub band : k < band_count ws
  pub above : length * frequency_of ws k < load
  pub upto : load ≤ length * frequency_of ws (suc k)

-- the load lies between the ends of band k
pub record Between (ws : List Point) (length load k : ℕ) : Type 0 where
  pub band : k < band_count ws
  pub low : length * frequency_of ws k ≤ load
  pub high : load ≤ length * frequency_of ws (suc k)

module _ {ws : List Point} (curve : Curve ws) where
  pub band_of_law : (length load : ℕ) → 0 < load → load ≤ length * frequency_of ws (band_count ws) → InBand ws length load (band_of ws length load)
  unfolding band_of
  band_of_law length load positive fits = go (band_of ws length load) (first_below_law (band_count ws) test)
    where
      test : ℕ → Bool
      test k = leb load (length * frequency_of ws (suc k))

      below : (k : ℕ) → FirstBelow (band_count ws) test k → (k < band_count ws) ⊎ (band_count ws ≤ k) → k < band_count ws
      below k law (inl inside) = inside
      below k law (inr outside) =
          let last : suc (band_count ws - 1) ≡ band_count ws = omega (arith, curve.some) in
          let over = leb-false load (length * frequency_of ws (suc (band_count ws - 1))) (law.before (band_count ws - 1) (omega arith)) in
          absurd (omega (arith, rw last at over))

      above : (k : ℕ) → FirstBelow (band_count ws) test k → length * frequency_of ws k < load
      above zero law = rw curve.start (omega arith)
      above (suc k) law = leb-false load (length * frequency_of ws (suc k)) (law.before k (omega arith))

      go : (k : ℕ) → FirstBelow (band_count ws) test k → InBand ws length load k
      go k law =
          let inside = below k law (lt_or_le k (band_count ws)) in
          record { band = inside; above = above k law; upto = leb-true load (length * frequency_of ws (suc k)) (law.here inside) }

  pub band_of_is : (length load k : ℕ) → InBand ws length load k → band_of ws length load ≡ k
  unfolding band_of
  band_of_is length load k inside =
      first_below_is (band_count ws) (λ k. leb load (length * frequency_of ws (suc k))) k inside.band
      (λ l below.
      let rises = curve_frequencies_never_fall ws curve (suc l) k below (omega (arith, inside.band)) in
      lt-leb load (length * frequency_of ws (suc l)) (omega (arith, inside.above, mul-le-mul_left length rises)))
      (le-leb load (length * frequency_of ws (suc k)) inside.upto)

  pub setting_of_is : (length load k : ℕ) → InBand ws length load k
      → setting_of ws length load ≡ record { band = suc k; extra = load - length * frequency_of ws k; gap = gap ws k }
  unfolding setting_of
  setting_of_is length zero k inside = absurd (omega (arith, inside.above))
  setting_of_is length (suc cycles) k inside = rw (band_of_is length (suc cycles) k inside)

  fits_ends : (length load : ℕ) → load ≤ length * frequency_of ws (band_count ws) → (k : ℕ) → k < band_count ws
      → fits_load ws length load (suc k) ≡ true → (length * frequency_of ws k ≤ load) × (load ≤ length * frequency_of ws (suc k))
  unfolding fits_load
  fits_ends length zero fits k below e =
      let first : k ≡ 0 = omega (arith, eqb-true (suc k) 1 e) in
      (rw (first, curve.start) (omega arith), omega arith)
  fits_ends length (suc cycles) fits k below e = go (either_true _ _ e)
    where
      own : ℕ
      own = band_of ws length (suc cycles)

      inside : InBand ws length (suc cycles) own
      inside = band_of_law length (suc cycles) (omega arith) fits

      go : (eqb (suc k) (suc own) ≡ true)
          ⊎ ((eqb (suc cycles) (length * frequency_of ws (suc own)) && ltb (suc own) (band_count ws) && eqb (suc k) (suc (suc own))) ≡ true)
          → (length * frequency_of ws k ≤ suc cycles) × (suc cycles ≤ length * frequency_of ws (suc k))
      go (inl here) =
          let same : k ≡ own = omega (arith, eqb-true (suc k) (suc own) here) in
          rw same (omega (arith, inside.above), inside.upto)
      go (inr full) =
          let at-end : Bool = eqb (suc cycles) (length * frequency_of ws (suc own)) in
          let tests = both_true (at-end && ltb (suc own) (band_count ws)) (eqb (suc k) (suc (suc own))) full in
          let ended = (both_true at-end (ltb (suc own) (band_count ws)) tests.0).0 in
          let same : k ≡ suc own = omega (arith, eqb-true (suc k) (suc (suc own)) tests.1) in
          let end : suc cycles ≡ length * frequency_of ws k = rw same (eqb-true (suc cycles) (length * frequency_of ws (suc own)) ended) in
          (omega arith, omega (arith, mul-le-mul_left length (curve_frequencies_never_fall ws curve k (suc k) (omega arith) below)))

  own_fits : (length load k : ℕ) → InBand ws length load k → fits_load ws length load (suc k) ≡ true
  unfolding fits_load
  own_fits length zero k inside = absurd (omega (arith, inside.above))
  own_fits length (suc cycles) k inside = rw (band_of_is length (suc cycles) k inside, eq-eqb (suc k) (suc k) refl)

  next_fits : (length load k : ℕ) → InBand ws length load k → suc k < band_count ws → load ≡ length * frequency_of ws (suc k)
      → fits_load ws length load (suc (suc k)) ≡ true
  unfolding fits_load
  next_fits length zero k inside more end = absurd (omega (arith, inside.above))
  next_fits length (suc cycles) k inside more end =
      let full = eq-eqb (suc cycles) (length * frequency_of ws (suc k)) end in
      let next = lt-ltb (suc k) (band_count ws) more in
      rw (band_of_is length (suc cycles) k inside, full, next, eq-eqb (suc (suc k)) (suc (suc k)) refl, or-true)

  ends_fit : (length load : ℕ) → 1 ≤ length → (k : ℕ) → k < band_count ws → length * frequency_of ws k ≤ load
      → load ≤ length * frequency_of ws (suc k) → fits_load ws length load (suc k) ≡ true
  unfolding fits_load
  ends_fit length zero some zero below low high = refl
  ends_fit length (suc cycles) some zero below low high =
      own_fits length (suc cycles) 0 (record { band = below; above = rw curve.start (omega arith); upto = high })
  ends_fit length load some (suc k) below low high = go (eq-or-lt_of_le low)
    where
      go : (length * frequency_of ws (suc k) ≡ load) ⊎ (length * frequency_of ws (suc k) < load) → fits_load ws length load (suc (suc k)) ≡ true
      go (inl end) =
          next_fits length load k
          (record {
            band = omega arith;
            above = omega (arith, mul-lt-mul_of_pos_left (curve.frequency_rises k (omega arith)) some);
            upto = omega arith;
          })
          below (sym end)
      go (inr more) = own_fits length load (suc k) (record { band = below; above = more; upto = high })

  -- rule 23, one way
  pub fits_between : (length load : ℕ) → load ≤ length * frequency_of ws (band_count ws) → (k : ℕ)
      → (is_band_number ws (suc k) && fits_load ws length load (suc k)) ≡ true → Between ws length load k
  fits_between length load fits k e =
      let tests = both_true (is_band_number ws (suc k)) (fits_load ws length load (suc k)) e in
      let numbers = both_true (leb 1 (suc k)) (leb (suc k) (band_count ws)) tests.0 in
      let below : k < band_count ws = leb-true (suc k) (band_count ws) numbers.1 in
      let ends = fits_ends length load fits k below tests.1 in
      record { band = below; low = ends.0; high = ends.1 }

  -- and the other
  pub between_fits : (length load : ℕ) → 1 ≤ length → (k : ℕ) → Between ws length load k
      → (is_band_number ws (suc k) && fits_load ws length load (suc k)) ≡ true
  between_fits length load some k between =
      rw (le-leb 1 (suc k) (omega arith), le-leb (suc k) (band_count ws) between.band)
      (ends_fit length load some k between.band between.low between.high)
