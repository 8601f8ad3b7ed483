-- Laws of the working points. Each working point has its place among all points, one that is not dropped, and each
-- point that is not dropped is a working point; places rise with the working point. The first working point is idling,
-- the last is the last point. T1: the working points are a curve.
-- Assumes nothing.
use mathlib.Core.Path.{◌≡◌, refl, sym, ◌∙◌, ap}
use mathlib.Core.Bool.{Bool, true, false, not, cond}
use mathlib.Core.Logic.{◌⊎◌, inl, inr}
use mathlib.Core.List.{List, [], ◌∷◌}
use Prim.Native.Nat.{ℕ, zero, suc, ◌-◌, ◌*◌, ◌<◌, ◌≤◌}
use native.Mathlib.Nat.{le_of_suc-le-suc}
use native.Mathlib.Omega.{arith}
use lib.ListN.{length, get_or}
use borrow.Author.Tests.{not-true}
use Rattle.model.specs.declared.Level.{Level}
use Rattle.model.specs.Points.{Point, idling_point, points, point_at, select_from, dropped, working, top_frequency, RisingPoints}
use Rattle.model.specs.Bands.{band_count, frequency_of, gap, rise, Curve}
use Rattle.model.proofs.Numbers.{lt_or_le, true_or_false}
use Rattle.model.proofs.Points.{shoelace, cross, points_length, points_level, idling_works, top_works, frequencies_rise, powers_rise, kept_below}

-- how many numbers below i pass the test
rank : (ℕ → Bool) → ℕ → ℕ
rank test zero = 0
rank test (suc i) = cond (test 0) (suc (rank (λ j. test (suc j)) i)) (rank (λ j. test (suc j)) i)

rank_rises : (test : ℕ → Bool) (i j : ℕ) → i < j → test i ≡ true → rank test i < rank test j
unfolding rank
rank_rises test i zero before passes = absurd (omega arith)
rank_rises test zero (suc j) before passes = rw passes (omega arith)
rank_rises test (suc i) (suc j) before passes = go (test 0) (rank_rises (λ j. test (suc j)) i j (omega arith) passes)
  where
    go : (t : Bool) {a b : ℕ} → a < b → cond t (suc a) a < cond t (suc b) b
    go true less = omega arith
    go false less = less

select_later : (first : ℕ) (test : ℕ → Bool) (xs : List Point) → select_from (suc first) test xs ≡ select_from first (λ j. test (suc j)) xs
unfolding select_from
select_later first test [] = refl
select_later first test (x ∷ xs) = rw (select_later (suc first) test xs)

-- what passes is selected
select_at : (test : ℕ → Bool) (xs : List Point) (i : ℕ) (d : Point) → i < length xs → test i ≡ true
    → (rank test i < length (select_from 0 test xs)) × (get_or (select_from 0 test xs) (rank test i) d ≡ get_or xs i d)
unfolding select_from rank
select_at test [] i d inside passes = absurd (omega arith)
select_at test (x ∷ xs) zero d inside passes = rw passes (omega arith, refl)
select_at test (x ∷ xs) (suc i) d inside passes =
    rw (select_later 0 test xs) (go (test 0) _ _ (select_at (λ j. test (suc j)) xs i d (le_of_suc-le-suc inside) passes))
  where
    go : (t : Bool) (r : ℕ) (l : List Point) → (r < length l) × (get_or l r d ≡ get_or xs i d)
        → (cond t (suc r) r < length (cond t (x ∷ l) l)) × (get_or (cond t (x ∷ l) l) (cond t (suc r) r) d ≡ get_or xs i d)
    go true r l found = (omega arith, found.1)
    go false r l found = found

-- what is selected passes
select-from : (test : ℕ → Bool) (xs : List Point) (k : ℕ) → k < length (select_from 0 test xs)
    → (i : ℕ) × (i < length xs) × (test i ≡ true) × (rank test i ≡ k)
unfolding select_from rank
select-from test [] k inside = absurd (omega arith)
select-from test (x ∷ xs) k inside =
    go (true_or_false (test 0)) k (rw (select_later 0 test xs) at inside) (select-from (λ j. test (suc j)) xs)
  where
    rest : List Point
    rest = select_from 0 (λ j. test (suc j)) xs

    go : (test 0 ≡ true) ⊎ (test 0 ≡ false) → (k : ℕ) → k < length (cond (test 0) (x ∷ rest) rest)
        → ((k : ℕ) → k < length rest → (i : ℕ) × (i < length xs) × (test (suc i) ≡ true) × (rank (λ j. test (suc j)) i ≡ k))
        → (i : ℕ) × (i < length (x ∷ xs)) × (test i ≡ true) × (rank test i ≡ k)
    go (inl passes) zero inside later = (0, omega arith, passes, refl)
    go (inl passes) (suc k) inside later =
        let found = later k (le_of_suc-le-suc (rw passes at inside)) in
        (suc found.0, omega (arith, found.1), found.2, rw passes (ap suc found.3))
    go (inr fails) k inside later =
        let found = later k (rw fails at inside) in
        (suc found.0, omega (arith, found.1), found.2, rw fails found.3)

-- how many points below number i are not dropped: if point i is not, its number among the working points
pub working_number : List Point → ℕ → ℕ
working_number ps i = rank (λ j. not (dropped ps j)) i

-- working point k is point i
pub record Place (ps : List Point) (k i : ℕ) : Type 0 where
  pub works : k < length (working ps)
  pub inside : i < length ps
  pub kept : dropped ps i ≡ false
  pub same : point_at ps i ≡ point_at (working ps) k
  pub order : working_number ps i ≡ k

module _ (ps : List Point) where
  -- each point that is not dropped is a working point
  pub place-of : (i : ℕ) → i < length ps → dropped ps i ≡ false → Place ps (working_number ps i) i
  unfolding working working_number
  place-of i inside kept =
      let found = select_at (λ j. not (dropped ps j)) ps i (idling_point 0) inside (rw kept) in
      record { works = found.0; inside = inside; kept = kept; same = sym found.1; order = refl }

  -- each working point is a point that is not dropped
  pub place : (k : ℕ) → k < length (working ps) → (i : ℕ) × Place ps k i
  unfolding working working_number
  place k works =
      let found = select-from (λ j. not (dropped ps j)) ps k works in
      (found.0, rw found.3 at (place-of found.0 found.1 (not-true _ found.2)))

  -- working points and their places come in the same order
  pub places_order : {k l i j : ℕ} → Place ps k i → Place ps l j → i < j → k < l
  unfolding working_number
  places_order {k} {l} {i} {j} p q before =
      omega (arith, rank_rises (λ j. not (dropped ps j)) i j before (rw p.kept), p.order, q.order)

  pub places_rise : {k l i j : ℕ} → Place ps k i → Place ps l j → k < l → i < j
  places_rise {k} {l} {i} {j} p q before = go (lt_or_le i j) (lt_or_le j i)
    where
      go : (i < j) ⊎ (j ≤ i) → (j < i) ⊎ (i ≤ j) → i < j
      go (inl less) other = less
      go (inr more) (inl less) = absurd (omega (arith, places_order q p less))
      go (inr more) (inr even) = let e : i ≡ j = omega arith in let again : working_number ps i ≡ l = rw e q.order in absurd (omega (arith, p.order))

  -- the points between two neighbouring working points are dropped
  pub places_close : {k i j : ℕ} → Place ps k i → Place ps (suc k) j → (h : ℕ) → h < length ps → dropped ps h ≡ false → (h ≤ i) ⊎ (j ≤ h)
  places_close {k} {i} {j} p q h inside kept = go (lt_or_le i h) (lt_or_le h j)
    where
      here : Place ps (working_number ps h) h
      here = place-of h inside kept

      go : (i < h) ⊎ (h ≤ i) → (h < j) ⊎ (j ≤ h) → (h ≤ i) ⊎ (j ≤ h)
      go (inr low) other = inl low
      go (inl above) (inr high) = inr high
      go (inl above) (inl below) = absurd (omega (arith, places_order p here above, places_order here q below))

  -- idling is the first working point
  pub first-place : 0 < length ps → Place ps 0 0
  unfolding working_number rank
  first-place inside = place-of 0 inside (idling_works ps)

  pub working_first : 0 < length ps → point_at (working ps) 0 ≡ point_at ps 0
  working_first inside = sym (first-place inside).same

  -- the last point is the last working point
  pub last_place : 0 < length ps → Place ps (band_count (working ps)) (length ps - 1)
  last_place inside = rw last at found
    where
      found : Place ps (working_number ps (length ps - 1)) (length ps - 1)
      found = place-of (length ps - 1) (omega arith) (top_works ps)

      last : working_number ps (length ps - 1) ≡ band_count (working ps)
      last = go (lt_or_le (working_number ps (length ps - 1)) (band_count (working ps)))
        where
          go : (working_number ps (length ps - 1) < band_count (working ps)) ⊎ (band_count (working ps) ≤ working_number ps (length ps - 1))
              → working_number ps (length ps - 1) ≡ band_count (working ps)
          go (inl less) =
              let later = place (band_count (working ps)) (omega arith) in
              absurd (omega (arith, places_rise found later.1 less, later.1.inside))
          go (inr more) = omega (arith, found.works)

  pub working_last : 0 < length ps → point_at (working ps) (band_count (working ps)) ≡ point_at ps (length ps - 1)
  working_last inside = sym (last_place inside).same

  pub working_some : 2 ≤ length ps → 2 ≤ length (working ps)
  working_some inside = omega (arith, places_order (first-place (omega arith)) (last_place (omega arith)) (omega arith))

  module _ (rising : RisingPoints ps) where
    pub working_frequencies_rise : (k l : ℕ) → k < l → l < length (working ps) → (point_at (working ps) k).frequency < (point_at (working ps) l).frequency
    working_frequencies_rise k l less below =
        let p = place k (omega arith) in
        let q = place l below in
        rw (← p.1.same, ← q.1.same) (frequencies_rise ps rising p.0 q.0 (places_rise p.1 q.1 less) q.1.inside)

    pub working_powers_rise : (k l : ℕ) → k < l → l < length (working ps) → (point_at (working ps) k).power < (point_at (working ps) l).power
    working_powers_rise k l less below =
        let p = place k (omega arith) in
        let q = place l below in
        rw (← p.1.same, ← q.1.same) (powers_rise ps rising p.0 q.0 (places_rise p.1 q.1 less) q.1.inside)

    -- each lies below the line from any lower to any higher one
    pub working_below : (k l h : ℕ) → k < l → l < h → h < length (working ps)
        → shoelace (point_at (working ps) k) (point_at (working ps) l) (point_at (working ps) h)
        < shoelace (point_at (working ps) k) (point_at (working ps) h) (point_at (working ps) l)
    working_below k l h lower higher below =
        let p = place k (omega arith) in
        let q = place l (omega arith) in
        let r = place h below in
        rw (p.1.same, q.1.same, r.1.same) at
        (kept_below ps rising p.0 q.0 r.0 (places_rise p.1 q.1 lower) (places_rise q.1 r.1 higher) r.1.inside q.1.kept)

-- three points in a row, the middle one below the line: the second step is steeper
steeper : (a b c : Point) → a.power ≤ b.power → b.power ≤ c.power → a.frequency ≤ b.frequency → b.frequency ≤ c.frequency
    → shoelace a b c < shoelace a c b
    → (b.power - a.power) * (c.frequency - b.frequency) < (c.power - b.power) * (b.frequency - a.frequency)
steeper a b c up-b up-c along-b along-c below =
    omega (
      arith,
      cross a.power b.power b.frequency c.frequency up-b along-c,
      cross b.power c.power a.frequency b.frequency up-c along-b,
    )

-- T1
pub working_curve : (ps : List Point) → RisingPoints ps → Curve (working ps)
unfolding rise gap
working_curve ps rising =
    record {
      some = working_some ps rising.some;
      start = ap (λ (x : Point). x.frequency) (working_first ps (omega (arith, rising.some))) ∙ rising.start;
      frequency_rises = λ k inside. working_frequencies_rise ps rising k (suc k) (omega arith) (omega arith);
      power_rises = λ k inside. working_powers_rise ps rising k (suc k) (omega arith) (omega arith);
      price_rises = λ k inside.
          steeper (point_at (working ps) k) (point_at (working ps) (suc k)) (point_at (working ps) (suc (suc k)))
          (omega (arith, working_powers_rise ps rising k (suc k) (omega arith) (omega arith)))
          (omega (arith, working_powers_rise ps rising (suc k) (suc (suc k)) (omega arith) (omega arith)))
          (omega (arith, working_frequencies_rise ps rising k (suc k) (omega arith) (omega arith)))
          (omega (arith, working_frequencies_rise ps rising (suc k) (suc (suc k)) (omega arith) (omega arith)))
          (working_below ps rising k (suc k) (suc (suc k)) (omega arith) (omega arith) (omega arith));
    }

-- the last working point has the top frequency
pub working_top : (idle_power : ℕ) (levels : List Level) → RisingPoints (points idle_power levels)
    → frequency_of (working (points idle_power levels)) (band_count (working (points idle_power levels))) ≡ top_frequency levels
working_top idle_power levels rising =
    let many = points_length idle_power levels in
    let top : length (points idle_power levels) - 1 ≡ suc (length levels - 1) = omega (arith, rising.some) in
    let last = working_last (points idle_power levels) (omega (arith, rising.some)) in
    ap (λ (x : Point). x.frequency) ((rw top at last) ∙ points_level idle_power levels (length levels - 1))
