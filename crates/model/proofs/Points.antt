-- Laws of points: the points of a valid level table rise; three points in a row compared without subtraction; what it
-- says that a point is dropped and that it is not. Idling and the last point are never dropped. No level runs faster than
-- the last.
-- Assumes nothing.
use mathlib.Core.Path.{◌≡◌, refl, sym, ◌∙◌}
use mathlib.Core.Bool.{true, false}
use mathlib.Core.Logic.{◌⊎◌, inl, inr}
use mathlib.Core.List.{List}
use Prim.Native.Nat.{ℕ, zero, suc, ◌+◌, ◌-◌, ◌*◌, ◌<◌, ◌≤◌}
use native.Mathlib.Nat.{le_dest, add-sub_cancel_left, mul-le-mul, mul-le-mul_left, mul-lt-mul_of_pos_right, mul-pos}
use native.Mathlib.Omega.{arith}
use lib.Dec.{ltb, leb}
use lib.ListN.{length, length-map, get_or-map}
use borrow.Author.Tests.{leb-true, leb-false, le-leb, lt-leb, ltb-true, lt-ltb, le-ltb}
use Rattle.model.specs.declared.Level.{Level}
use Rattle.model.specs.Limits.{max_power}
use Rattle.model.specs.Levels.{idling, level_of, ValidLevels}
use Rattle.model.specs.Points.{Point, power_of, point_of_level, points, point_at, drops, dropped, top_frequency, RisingPoints}
use Rattle.model.specs.Search.{some_below}
use Rattle.model.proofs.Numbers.{lt_or_le, true_or_false, both_true, rises_between}
use Rattle.model.proofs.Search.{some_below_found, some_below_none, some_below_fails}

power_rises : (a b : Level) → a.frequency < b.frequency → 1 ≤ a.voltage → a.voltage ≤ b.voltage → power_of a < power_of b
power_rises a b faster positive higher =
    omega (
      arith,
      mul-lt-mul_of_pos_right faster (mul-pos positive positive),
      mul-le-mul_left b.frequency (mul-le-mul higher higher),
    )

module _ (idle_power : ℕ) (levels : List Level) where
  pub points_length : length (points idle_power levels) ≡ suc (length levels)
  unfolding points
  points_length = rw length-map

  -- level number i is point i + 1
  pub points_level : (i : ℕ) → point_at (points idle_power levels) (suc i) ≡ point_of_level (level_of levels i)
  unfolding points
  points_level i = get_or-map point_of_level levels i idling

  -- the points of a valid level table rise, where idling draws less than the first level
  pub points_rise : ValidLevels levels → idle_power < power_of (level_of levels 0) → RisingPoints (points idle_power levels)
  unfolding points
  points_rise valid low =
      record {
        some = rw length-map (omega (arith, valid.some));
        start = refl;
        frequency_rises = frequency;
        power_rises = power;
      }
    where
      frequency : (i : ℕ) → suc i < length (points idle_power levels)
          → (point_at (points idle_power levels) i).frequency < (point_at (points idle_power levels) (suc i)).frequency
      frequency zero inside = rw (points_level 0) (valid.frequency_low 0 valid.some)
      frequency (suc i) inside = rw (points_level i, points_level (suc i)) (valid.frequency_rises i (omega (arith, points_length)))

      power : (i : ℕ) → suc i < length (points idle_power levels)
          → (point_at (points idle_power levels) i).power < (point_at (points idle_power levels) (suc i)).power
      power zero inside = rw (points_level 0) low
      power (suc i) inside =
          rw (points_level i, points_level (suc i)) (power_rises _ _
          (valid.frequency_rises i (omega (arith, points_length)))
          (valid.voltage_low i (omega (arith, points_length)))
          (valid.voltage_never_falls i (omega (arith, points_length))))

-- every level draws power
pub power_some : (levels : List Level) → ValidLevels levels → 0 < power_of (level_of levels 0)
power_some levels valid = mul-pos (mul-pos (valid.frequency_low 0 valid.some) (valid.voltage_low 0 valid.some)) (valid.voltage_low 0 valid.some)

-- and at most that of the highest frequency at the highest voltage
pub power_high : (levels : List Level) → ValidLevels levels → (i : ℕ) → i < length levels → power_of (level_of levels i) ≤ max_power
power_high levels valid i below =
    mul-le-mul (mul-le-mul (valid.frequency_high i below) (valid.voltage_high i below)) (valid.voltage_high i below)

-- so that idling may draw none
pub valid_points_rise : (levels : List Level) → ValidLevels levels → RisingPoints (points 0 levels)
valid_points_rise levels valid = points_rise 0 levels valid (power_some levels valid)

-- The shoelace sum of three points. With a, b and c from left to right, b lies on or above the line from a to c exactly
-- when the sum of a, c and b is at most that of a, b and c.
abbrev pub shoelace : (a b c : Point) → ℕ
shoelace a b c = a.power * b.frequency + b.power * c.frequency + c.power * a.frequency

-- a product of differences, without subtraction
pub cross : (low high near far : ℕ) → low ≤ high → near ≤ far
    → (high - low) * (far - near) + (high * near + low * far) ≡ high * far + low * near
cross low high near far up along =
    let e = le_dest up in
    let d = le_dest along in
    rw (← e.1, ← d.1, add-sub_cancel_left low, add-sub_cancel_left near) (omega arith)

-- two tests of numbers with equal differences
leb_shift : (a b c d : ℕ) → a + d ≡ b + c → leb a b ≡ leb c d
leb_shift a b c d e = go (true_or_false (leb a b))
  where
    go : (leb a b ≡ true) ⊎ (leb a b ≡ false) → leb a b ≡ leb c d
    go (inl t) = t ∙ sym (le-leb c d (omega (arith, leb-true)))
    go (inr t) = t ∙ sym (lt-leb c d (omega (arith, leb-false)))

-- dropping without subtraction
drops_shoelace : (a b c : Point) → a.power ≤ b.power → a.power ≤ c.power → a.frequency ≤ b.frequency → a.frequency ≤ c.frequency
    → drops a b c ≡ leb (shoelace a c b) (shoelace a b c)
unfolding drops
drops_shoelace a b c up-b up-c along-b along-c =
    leb_shift ((c.power - a.power) * (b.frequency - a.frequency)) ((b.power - a.power) * (c.frequency - a.frequency))
    (shoelace a c b) (shoelace a b c)
    (omega (
      arith,
      cross a.power c.power a.frequency b.frequency up-c along-b,
      cross a.power b.power a.frequency c.frequency up-b along-c,
    ))

module _ (ps : List Point) where
  -- no point is below idling
  pub idling_works : dropped ps 0 ≡ false
  unfolding dropped some_below
  idling_works = refl

  -- no point is above the last
  pub top_works : dropped ps (length ps - 1) ≡ false
  unfolding dropped
  top_works = some_below_fails _ _ (λ a lower. some_below_fails _ _ (λ c inside. rw (le-ltb (length ps - 1) c (omega arith))))

  module _ (rising : RisingPoints ps) where
    pub frequencies_rise : (i j : ℕ) → i < j → j < length ps → (point_at ps i).frequency < (point_at ps j).frequency
    frequencies_rise = rises_between (λ i. (point_at ps i).frequency) (length ps) rising.frequency_rises

    -- no point's frequency is above that of the last
    pub frequency_below_top : (i : ℕ) → i < length ps → (point_at ps i).frequency ≤ (point_at ps (length ps - 1)).frequency
    frequency_below_top i inside = go (lt_or_le i (length ps - 1))
      where
        go : (i < length ps - 1) ⊎ (length ps - 1 ≤ i) → (point_at ps i).frequency ≤ (point_at ps (length ps - 1)).frequency
        go (inl below) = omega (arith, frequencies_rise i (length ps - 1) below (omega arith))
        go (inr top) = let e : i ≡ length ps - 1 = omega arith in rw e (omega arith)

    pub powers_rise : (i j : ℕ) → i < j → j < length ps → (point_at ps i).power < (point_at ps j).power
    powers_rise = rises_between (λ i. (point_at ps i).power) (length ps) rising.power_rises

    pub drops_additive : (a b c : ℕ) → a < b → b < c → c < length ps
        → drops (point_at ps a) (point_at ps b) (point_at ps c)
        ≡ leb (shoelace (point_at ps a) (point_at ps c) (point_at ps b)) (shoelace (point_at ps a) (point_at ps b) (point_at ps c))
    drops_additive a b c lower higher inside =
        drops_shoelace (point_at ps a) (point_at ps b) (point_at ps c)
        (omega (arith, powers_rise a b lower (omega arith)))
        (omega (arith, powers_rise a c (omega arith) inside))
        (omega (arith, frequencies_rise a b lower (omega arith)))
        (omega (arith, frequencies_rise a c (omega arith) inside))

    -- a point that is not dropped lies below the line from any lower to any higher point
    pub kept_below : (a b c : ℕ) → a < b → b < c → c < length ps → dropped ps b ≡ false
        → shoelace (point_at ps a) (point_at ps b) (point_at ps c) < shoelace (point_at ps a) (point_at ps c) (point_at ps b)
    unfolding dropped
    kept_below a b c lower higher inside e =
        let kept = some_below_none _ _ (some_below_none _ _ e a lower) c inside in
        leb-false _ _ (sym (drops_additive a b c lower higher inside) ∙ (rw (lt-ltb b c higher) at kept))

    -- a dropped point lies on or above the line from some lower to some higher point
    pub dropped_above : (b : ℕ) → dropped ps b ≡ true
        → (a : ℕ) × (c : ℕ) × (a < b) × (b < c) × (c < length ps)
        × (shoelace (point_at ps a) (point_at ps c) (point_at ps b) ≤ shoelace (point_at ps a) (point_at ps b) (point_at ps c))
    unfolding dropped
    dropped_above b e =
        let low = some_below_found _ _ e in
        let high = some_below_found _ _ low.2 in
        let both = both_true (ltb b high.0) _ high.2 in
        let higher = ltb-true _ _ both.0 in
        (low.0, high.0, low.1, higher, high.1, leb-true _ _ (sym (drops_additive _ _ _ low.1 higher high.1) ∙ both.1))

-- no level's frequency is above the top frequency
pub level_below_top : (idle_power : ℕ) (levels : List Level) → RisingPoints (points idle_power levels)
    → (i : ℕ) → i < length levels → (level_of levels i).frequency ≤ top_frequency levels
level_below_top idle_power levels rising i below =
    let many = points_length idle_power levels in
    let top : length (points idle_power levels) - 1 ≡ suc (length levels - 1) = omega arith in
    rw (points_level idle_power levels i, top, points_level idle_power levels (length levels - 1)) at
    (frequency_below_top (points idle_power levels) rising (suc i) (omega arith))
