-- The slot of a working point: its number among idling and the given levels has its frequency and its power, so the slot does too.
-- Assumes nothing.
use mathlib.Core.Path.{◌≡◌, refl, sym, ap, ◌∙◌}
use mathlib.Core.Bool.{false}
use mathlib.Core.List.{List}
use Prim.Native.Nat.{ℕ, zero, suc, ◌<◌}
use native.Mathlib.Omega.{arith}
use lib.Dec.{eqb}
use lib.ListN.{length}
use borrow.Author.Tests.{eq-eqb, ne_eqb}
use Rattle.model.specs.declared.Level.{Level}
use Rattle.model.specs.declared.Job.{Job}
use Rattle.model.specs.Sum.{only_if}
use Rattle.model.specs.Points.{Point, points, point_at, working, RisingPoints}
use Rattle.model.specs.Bands.{frequency_of, power_at}
use Rattle.model.specs.Schedules.{IsGiven, frequency_for, slot_power}
use Rattle.model.specs.CarriedOut.{point_number, slot_of_point}
use Rattle.model.proofs.Search.{first_below_is}
use Rattle.model.proofs.SumMore.{only_if_zero}
use Rattle.model.proofs.Points.{points_length, points_level, frequencies_rise}
use Rattle.model.proofs.Working.{Place, place, first-place}

-- the number of a working point is its place among all points
number_is : (ps : List Point) → RisingPoints ps → {k i : ℕ} → Place ps k i → point_number ps k ≡ i
unfolding point_number
number_is ps rising {k} {i} found =
    first_below_is (length ps) (λ i. eqb (point_at ps i).frequency (frequency_of (working ps) k)) i found.inside other (eq-eqb _ _ same)
  where
    same : (point_at ps i).frequency ≡ frequency_of (working ps) k
    same = ap (λ (point : Point). point.frequency) found.same

    other : (l : ℕ) → l < i → eqb (point_at ps l).frequency (frequency_of (working ps) k) ≡ false
    other l before =
        ne_eqb (point_at ps l).frequency (frequency_of (working ps) k)
        (λ e. omega (arith, same, frequencies_rise ps rising l i before found.inside))

-- idling is the first of all points and the first working point
pub idling_number : (ps : List Point) → RisingPoints ps → point_number ps 0 ≡ 0
idling_number ps rising = number_is ps rising (first-place ps (omega (arith, rising.some)))

module _ (idle_power : ℕ) (levels : List Level) where
  -- the slot of point number i
  frequency_of_point : (i job j : ℕ)
      → frequency_for levels j (slot_of_point i job) ≡ only_if (eqb job j) (point_at (points idle_power levels) i).frequency
  unfolding points
  frequency_of_point zero job j = sym (only_if_zero (eqb job j))
  frequency_of_point (suc level) job j = rw (points_level idle_power levels level)

  power_of_point : (i job : ℕ) → slot_power idle_power levels (slot_of_point i job) ≡ (point_at (points idle_power levels) i).power
  unfolding points
  power_of_point zero job = refl
  power_of_point (suc level) job = rw (points_level idle_power levels level)

  module _ (rising : RisingPoints (points idle_power levels)) (jobs : List Job) where
    given_point : (i job : ℕ) → i < length (points idle_power levels) → (0 < (point_at (points idle_power levels) i).frequency → job < length jobs)
        → IsGiven levels jobs (slot_of_point i job)
    given_point zero job below runs = tt
    given_point (suc level) job below runs = (
      omega (arith, points_length idle_power levels),
      runs (omega (arith, frequencies_rise (points idle_power levels) rising 0 (suc level) (omega arith) below)),
    )

    -- the slot of working point k
    module _ (k job : ℕ) (below : k < length (working (points idle_power levels))) where
      pub slot-frequency : (j : ℕ)
          → frequency_for levels j (slot_of_point (point_number (points idle_power levels) k) job)
          ≡ only_if (eqb job j) (frequency_of (working (points idle_power levels)) k)
      slot-frequency j =
          let (i, found) = place (points idle_power levels) k below in
          rw (number_is (points idle_power levels) rising found)
          (frequency_of_point i job j ∙ ap (λ (point : Point). only_if (eqb job j) point.frequency) found.same)

      pub slot-power : slot_power idle_power levels (slot_of_point (point_number (points idle_power levels) k) job)
          ≡ power_at (working (points idle_power levels)) k
      slot-power =
          let (i, found) = place (points idle_power levels) k below in
          rw (number_is (points idle_power levels) rising found)
          (power_of_point i job ∙ ap (λ (point : Point). point.power) found.same)

      -- a slot that runs has a level and a job that are given
      pub slot_given : (0 < frequency_of (working (points idle_power levels)) k → job < length jobs)
          → IsGiven levels jobs (slot_of_point (point_number (points idle_power levels) k) job)
      slot_given runs =
          let (i, found) = place (points idle_power levels) k below in
          rw (number_is (points idle_power levels) rising found)
          (given_point i job found.inside (λ positive. runs (omega (arith, ap (λ (point : Point). point.frequency) found.same))))
