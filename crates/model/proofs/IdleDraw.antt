-- What a draw of idling does: idling is its point, a draw drops no level that works with a lower one, both energies gain
-- it over the whole time, a schedule pays it for each slot that idles, and it does not bear on whether a plan comes out.
-- Assumes nothing.
use mathlib.Core.Path.{◌≡◌, refl, ◌∙◌, ap}
use mathlib.Core.Bool.{true}
use mathlib.Core.Logic.{◌⊎◌, inl, inr}
use mathlib.Core.List.{List}
use mathlib.Core.Option.{Option, none, some}
use Prim.Native.Nat.{ℕ, zero, suc, ◌+◌, ◌*◌, ◌<◌, ◌≤◌}
use native.Mathlib.Nat.{le_of_lt}
use native.Mathlib.Omega.{arith}
use Rattle.model.specs.declared.Level.{Level}
use Rattle.model.specs.declared.Job.{Job}
use Rattle.model.specs.Sum.{sum}
use Rattle.model.specs.Points.{Point, idling_point, points, point_at, dropped, working, RisingPoints}
use Rattle.model.specs.Bands.{power_at}
use Rattle.model.specs.Processors.{top_of}
use Rattle.model.specs.Intervals.{interval_count, bound_at, length_of, Bounds}
use Rattle.model.specs.Windows.{Window, earliest_overfull}
use Rattle.model.specs.Energy.{interval_energy, exact_energy, energy_figure}
use Rattle.model.specs.Schedules.{Slot, idles, runs, slot_power, horizon, slot_count, slot_powers}
use Rattle.model.specs.Planning.{PlanOutcome, unless_overfull, step_limit, plan_for}
use Rattle.model.specs.IdleDraw.{
  IdlingIsAPoint,
  Works,
  DrawKeepsLevels,
  energy_of_bands,
  figure_of_bands,
  EnergiesGainTheDraw,
  idle_slot,
  idle_slots,
  SchedulesPayTheDraw,
  with_idle_power,
  DrawMovesNoWindow,
}
use Rattle.model.proofs.Numbers.{true_or_false}
use Rattle.model.proofs.Sum.{sum_cong, sum_add, sum_mul_left, sum_mul_right, sum_telescopes}
use Rattle.model.proofs.Intervals.{length_reaches}
use Rattle.model.proofs.Points.{cross, frequencies_rise, kept_below, dropped_above}
use Rattle.model.proofs.Working.{working_first}

-- idling is the first of the working points
working_idling : (idle_power : ℕ) (levels : List Level) → point_at (working (points idle_power levels)) 0 ≡ idling_point idle_power
unfolding points
working_idling idle_power levels = working_first (points idle_power levels) (omega arith)

pub idle-power : (idle_power : ℕ) (levels : List Level) → power_at (working (points idle_power levels)) 0 ≡ idle_power
idle-power idle_power levels = ap (λ (point : Point). point.power) (working_idling idle_power levels)

pub idling_is_a_point : IdlingIsAPoint
unfolding points
idling_is_a_point idle_power levels = (refl, working_idling idle_power levels)

-- a lower draw moves no level, and idling only down
module _ {lower higher : ℕ} (above : lower ≤ higher) (levels : List Level) (rising : RisingPoints (points higher levels)) where
  same_level : (i : ℕ) → 0 < i → point_at (points lower levels) i ≡ point_at (points higher levels) i
  unfolding points
  same_level zero positive = absurd (omega arith)
  same_level (suc i) positive = refl

  same_frequency : (i : ℕ) → (point_at (points lower levels) i).frequency ≡ (point_at (points higher levels) i).frequency
  unfolding points
  same_frequency zero = refl
  same_frequency (suc i) = refl

  lower_power : (i : ℕ) → (point_at (points lower levels) i).power ≤ (point_at (points higher levels) i).power
  unfolding points
  lower_power zero = above
  lower_power (suc i) = omega arith

  lower_rises : RisingPoints (points lower levels)
  unfolding points
  lower_rises =
      record {
        some = rising.some;
        start = refl;
        frequency_rises = λ i inside. rw (same_frequency i) (rising.frequency_rises i inside);
        power_rises = λ i inside. omega (arith, lower_power i, rising.power_rises i inside);
      }

  -- so a level on or above the line from a lower point to a higher one is so with the lower draw too
  level_kept : (i : ℕ) → Works lower levels i → Works higher levels i
  unfolding points
  level_kept i works = go (true_or_false (dropped (points higher levels) (suc i)))
    where
      go : (dropped (points higher levels) (suc i) ≡ true) ⊎ Works higher levels i → Works higher levels i
      go (inl drop) =
          let (a, c, before, after, inside, line) = dropped_above (points higher levels) rising (suc i) drop in
          let kept = kept_below (points lower levels) lower_rises a (suc i) c before after inside works in
          absurd (omega (
            arith,
            rw (same_frequency a, same_level c (omega arith)) at kept,
            cross _ _ _ _ (lower_power a) (le_of_lt (frequencies_rise (points higher levels) rising (suc i) c after inside)),
          ))
      go (inr kept) = kept

pub draw_keeps_levels : DrawKeepsLevels
draw_keeps_levels lower higher above levels rising = level_kept above levels rising

module _ {jobs : List Job} {bounds : List ℕ} (B : Bounds jobs bounds) where
  -- the lengths of the intervals add up to the whole time
  whole_time : sum (interval_count bounds) (length_of bounds) ≡ horizon jobs
  unfolding horizon
  whole_time = omega (arith, sum_telescopes (interval_count bounds) (bound_at bounds) (length_of bounds) (length_reaches B))

  -- a power drawn over the whole time
  drawn : (power : ℕ) → sum (interval_count bounds) (λ i. length_of bounds i * power) ≡ horizon jobs * power
  drawn power = rw (sum_mul_right (interval_count bounds) power (length_of bounds), whole_time)

pub energies_gain_the_draw : EnergiesGainTheDraw
unfolding exact_energy interval_energy energy_figure energy_of_bands figure_of_bands
energies_gain_the_draw idle_power levels jobs bounds B shares =
    (simp (sum_add, drawn B, idle-power) (omega arith), simp (drawn B, idle-power) (omega arith))

slot_pays : (idle_power : ℕ) (levels : List Level) (slot : Slot)
    → slot_power idle_power levels slot ≡ slot_power 0 levels slot + idle_power * idle_slot slot
slot_pays idle_power levels idles = omega arith
slot_pays idle_power levels (runs level job) = omega arith

pub schedules_pay_the_draw : SchedulesPayTheDraw
unfolding slot_powers idle_slots
schedules_pay_the_draw idle_power levels jobs schedule =
    sum_cong (slot_count schedule) (λ s below. slot_pays idle_power levels (schedule.slot s)) ∙ simp (sum_add, sum_mul_left)

pub draw_moves_no_window : DrawMovesNoWindow
unfolding step_limit plan_for
draw_moves_no_window idle_power site plan_room price_room share_room = go (earliest_overfull (top_of site.processor) site.jobs) _
  where
    go : (window : Option Window) (next : PlanOutcome) → unless_overfull (with_idle_power idle_power site) window next ≡ unless_overfull site window next
    go none next = refl
    go (some window) next = refl
