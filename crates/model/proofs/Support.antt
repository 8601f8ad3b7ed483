-- T2: every point, dropped or not, lies on or above the line through each band of the working points. Of the points that
-- lie deepest below a band's line the leftmost is not dropped, so it is a working point, and a working point lies on or
-- above the line because the band's ends are not dropped.
-- Assumes nothing.
use mathlib.Core.Path.{◌≡◌, ap}
use mathlib.Core.Bool.{true, false}
use mathlib.Core.Logic.{◌⊎◌, inl, inr}
use mathlib.Core.List.{List}
use Prim.Native.Nat.{ℕ, suc, ◌+◌, ◌-◌, ◌*◌, ◌<◌, ◌≤◌}
use native.Mathlib.Nat.{add-sub_of_le, eq-or-lt_of_le, le_dest, mul-le-mul_right, mul-lt-mul_of_pos_right, sub-add_cancel}
use native.Mathlib.Omega.{arith}
use lib.ListN.{length}
use Rattle.model.specs.Points.{Point, point_at, dropped, working, RisingPoints}
use Rattle.model.specs.Bands.{gap, rise, Above}
use Rattle.model.proofs.Numbers.{true_or_false}
use Rattle.model.proofs.Search.{FirstLowest, first_lowest}
use Rattle.model.proofs.Points.{shoelace, frequencies_rise, frequency_below_top, dropped_above, kept_below}
use Rattle.model.proofs.Working.{Place, place, places_rise, places_close, working_frequencies_rise, working_powers_rise}

-- b lies on or above the line from a to c, and lower than a and as low as c above a line of slope climb / run: absurd
mixture : (run climb : ℕ) (a b c : Point) → a.frequency ≤ b.frequency → b.frequency < c.frequency
    → shoelace a c b ≤ shoelace a b c
    → b.power * run + climb * a.frequency < a.power * run + climb * b.frequency
    → b.power * run + climb * c.frequency ≤ c.power * run + climb * b.frequency → ⊥
mixture run climb a b c before after = go (le_dest before).0 (le_dest after).0 (le_dest before).1 (le_dest after).1
  where
    go : (d e : ℕ) → a.frequency + d ≡ b.frequency → suc b.frequency + e ≡ c.frequency
        → shoelace a c b ≤ shoelace a b c
        → b.power * run + climb * a.frequency < a.power * run + climb * b.frequency
        → b.power * run + climb * c.frequency ≤ c.power * run + climb * b.frequency → ⊥
    go d e here there =
        rw (← there, ← here) λ above lower low.
        let positive : 0 < suc e = omega arith in
        omega (arith, mul-le-mul_right run above, mul-lt-mul_of_pos_right lower positive, mul-le-mul_right d low)

-- A point's height above a line of slope climb / run, times run, but for a constant that keeps it a natural number.
height : List Point → (run climb : ℕ) → ℕ → ℕ
height ps run climb i = (point_at ps i).power * run + climb * ((point_at ps (length ps - 1)).frequency - (point_at ps i).frequency)

module _ (ps : List Point) (rising : RisingPoints ps) (run climb : ℕ) where
  height_law : (i : ℕ) → i < length ps
      → height ps run climb i + climb * (point_at ps i).frequency ≡ (point_at ps i).power * run + climb * (point_at ps (length ps - 1)).frequency
  unfolding height
  height_law i inside =
      omega (arith, ap (λ (x : ℕ). climb * x) (sub-add_cancel (frequency_below_top ps rising i inside)))

  -- the first of the lowest points is not dropped
  first_kept : (i : ℕ) → FirstLowest (length ps - 1) (height ps run climb) i → dropped ps i ≡ false
  first_kept i h = go (true_or_false (dropped ps i))
    where
      go : (dropped ps i ≡ true) ⊎ (dropped ps i ≡ false) → dropped ps i ≡ false
      go (inr kept) = kept
      go (inl drop) =
          let (a, c, before, after, inside, above) = dropped_above ps rising i drop in
          absurd (mixture run climb (point_at ps a) (point_at ps i) (point_at ps c)
          (omega (arith, frequencies_rise ps rising a i before (omega arith)))
          (frequencies_rise ps rising i c after inside) above
          (omega (arith, h.first a before, height_law a (omega arith), height_law i (omega arith)))
          (omega (arith, h.lowest c (omega arith), height_law c inside, height_law i (omega arith))))

  -- some point that is not dropped is lowest
  lowest_kept : (i : ℕ) × (i < length ps) × (dropped ps i ≡ false) × ((j : ℕ) → j < length ps
      → (point_at ps i).power * run + climb * (point_at ps j).frequency ≤ (point_at ps j).power * run + climb * (point_at ps i).frequency)
  lowest_kept =
      let (i, h) = first_lowest (length ps - 1) (height ps run climb) in (
        i,
        omega (arith, rising.some, h.within),
        first_kept i h,
        λ j inside.
            omega (arith, h.lowest j (omega arith), height_law j inside, height_law i (omega (arith, rising.some, h.within))),
      )

-- x lies on or above the line from a to b
abbrev OnOrAbove : (a b x : Point) → Type 0
OnOrAbove a b x = shoelace a b x ≤ shoelace a x b

-- the same by the slope of the line
by_slope : (a b x : Point) → a.power ≤ b.power → a.frequency ≤ b.frequency → OnOrAbove a b x
    → a.power * (b.frequency - a.frequency) + (b.power - a.power) * x.frequency
    ≤ x.power * (b.frequency - a.frequency) + (b.power - a.power) * a.frequency
by_slope a b x up along above =
    omega (
      arith,
      ap (λ (y : ℕ). a.power * y) (add-sub_of_le along),
      ap (λ (y : ℕ). x.power * y) (add-sub_of_le along),
      ap (λ (y : ℕ). y * a.frequency) (add-sub_of_le up),
      ap (λ (y : ℕ). y * x.frequency) (add-sub_of_le up),
    )

module _ (ps : List Point) (rising : RisingPoints ps) where
  -- a point that is not dropped lies on or above each band's line, since the band's ends are not dropped
  kept_over : {k i j : ℕ} → Place ps k i → Place ps (suc k) j → (h : ℕ) → h < length ps → dropped ps h ≡ false
      → OnOrAbove (point_at ps i) (point_at ps j) (point_at ps h)
  kept_over {k} {i} {j} p q h inside kept = go (places_close ps p q h inside kept)
    where
      left : (h ≡ i) ⊎ (h < i) → OnOrAbove (point_at ps i) (point_at ps j) (point_at ps h)
      left (inl e) = rw e (omega arith)
      left (inr below) = omega (arith, kept_below ps rising h i j below (places_rise ps p q (omega arith)) q.inside p.kept)

      right : (j ≡ h) ⊎ (j < h) → OnOrAbove (point_at ps i) (point_at ps j) (point_at ps h)
      right (inl e) = rw (← e) (omega arith)
      right (inr above) = omega (arith, kept_below ps rising i j h (places_rise ps p q (omega arith)) above inside q.kept)

      go : (h ≤ i) ⊎ (j ≤ h) → OnOrAbove (point_at ps i) (point_at ps j) (point_at ps h)
      go (inl low) = left (eq-or-lt_of_le low)
      go (inr high) = right (eq-or-lt_of_le high)

  kept_above : (h : ℕ) → h < length ps → dropped ps h ≡ false → Above (working ps) (point_at ps h)
  unfolding gap rise
  kept_above h inside kept k band =
      let (i, p) = place ps k (omega arith) in
      let (j, q) = place ps (suc k) (omega arith) in
      by_slope (point_at (working ps) k) (point_at (working ps) (suc k)) (point_at ps h)
      (omega (arith, working_powers_rise ps rising k (suc k) (omega arith) (omega arith)))
      (omega (arith, working_frequencies_rise ps rising k (suc k) (omega arith) (omega arith)))
      (rw (p.same, q.same) at (kept_over p q h inside kept))

  -- T2
  pub points_above : (i : ℕ) → i < length ps → Above (working ps) (point_at ps i)
  points_above i inside k band =
      let (h, within, kept, lowest) = lowest_kept ps rising (gap (working ps) k) (rise (working ps) k) in
      omega (arith, lowest i inside, kept_above h within kept k band)
