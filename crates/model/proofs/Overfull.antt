-- T4: where a schedule meets all deadlines, each window has room for its own jobs. A slot that runs one of them between that
-- job's release and deadline lies inside the window and supplies at most the top frequency.
-- Assumes nothing.
use mathlib.Core.Path.{◌≡◌, sym, ◌∙◌}
use mathlib.Core.List.{List}
use Prim.Native.Nat.{ℕ, ◌+◌, ◌-◌, ◌*◌, ◌/◌, ◌<◌, ◌≤◌, min}
use native.Mathlib.Nat.{le_trans, div-lt_iff_lt-mul, le-div_iff_mul-le, mul-le-mul_right, le_of_mul-le-mul_left}
use native.Mathlib.Omega.{arith}
use lib.ListN.{length}
use borrow.Author.Tests.{ltb-true, leb-true}
use Rattle.model.specs.declared.Level.{Level}
use Rattle.model.specs.declared.Job.{Job}
use Rattle.model.specs.Sum.{sum, only_if}
use Rattle.model.specs.Jobs.{job_of}
use Rattle.model.specs.Points.{points, top_frequency, RisingPoints}
use Rattle.model.specs.Intervals.{earliest_release}
use Rattle.model.specs.Windows.{is_inside, cycles_inside}
use Rattle.model.specs.Schedules.{Slot, idles, runs, IsGiven, frequency_for, Schedule, slot_count, served, Serves}
use Rattle.model.proofs.Sum.{sum_cong, sum_mono, sum_swap, sum_mul_left, sum_pos}
use Rattle.model.proofs.Numbers.{both_true}
use Rattle.model.proofs.SumMore.{only_if_le, only_if_pos, only_if_scaled, sum_only_if, sum_within}
use Rattle.model.proofs.Windows.{inside_iff}
use Rattle.model.proofs.Points.{level_below_top}
use Rattle.model.proofs.Supply.{is_in_time, slot_frequency, frequency_by_job}

-- slots whose ticks lie in a window have numbers in a stretch that is not longer than the window
window_slots : (q first start end s : ℕ) → 0 < q → start ≤ first + s / q → first + s / q < end
    → ((start - first) * q ≤ s) × (s < (end - first) * q)
window_slots q first start end s some-slot after before =
    let low : start - first ≤ s / q = omega arith in
    let high : s / q < end - first = omega arith in
    ((le-div_iff_mul-le some-slot).0 low, (div-lt_iff_lt-mul some-slot).0 high)

-- also where the window sticks out before the first slot
stretch_length : (q first start end : ℕ) → (end - first) * q - (start - first) * q ≤ (end - start) * q
stretch_length q first start end =
    let h : end - first ≤ (end - start) + (start - first) = omega arith in
    omega (arith, mul-le-mul_right q h)

slot_below_top : (idle_power : ℕ) (levels : List Level) (jobs : List Job) → RisingPoints (points idle_power levels)
    → (slot : Slot) → IsGiven levels jobs slot → slot_frequency levels slot ≤ top_frequency levels
slot_below_top idle_power levels jobs R idles given = omega arith
slot_below_top idle_power levels jobs R (runs level job) given = level_below_top idle_power levels R level given.0

module _ (idle_power : ℕ) (levels : List Level) (jobs : List Job) (R : RisingPoints (points idle_power levels)) (start end : ℕ)
    (schedule : Schedule levels jobs) where
  -- What a slot supplies to a job of the window between the job's release and deadline.
  part : (slot job : ℕ) → ℕ
  part s j =
      only_if (is_inside start end (job_of jobs j)) (only_if (is_in_time schedule j s) (frequency_for levels j (schedule.slot s)))

  -- a slot supplies at most the top frequency
  part_high : (s : ℕ) → s < slot_count schedule → sum (length jobs) (part s) ≤ top_frequency levels
  unfolding part
  part_high s below =
      let slot : Slot = schedule.slot s in
      let given = schedule.given s below in
      let whole : sum (length jobs) (part s) ≤ sum (length jobs) (λ j. frequency_for levels j slot) =
      sum_mono (length jobs) (λ j job. le_trans (only_if_le (is_inside start end (job_of jobs j)) _) (only_if_le (is_in_time schedule j s) _)) in
      omega (arith, frequency_by_job levels jobs slot given, slot_below_top idle_power levels jobs R slot given)

  -- a slot that supplies something lies inside the window
  part_inside : (s : ℕ) → s < slot_count schedule → 0 < sum (length jobs) (part s)
      → ((start - earliest_release jobs) * schedule.q ≤ s) × (s < (end - earliest_release jobs) * schedule.q)
  unfolding part
  part_inside s below more =
      let found = sum_pos (length jobs) (part s) more in
      let own = only_if_pos _ _ found.2 in
      let inside = (inside_iff start end (job_of jobs found.0)).0 own.0 in
      let window = both_true _ _ (only_if_pos _ _ own.1).0 in
      window_slots schedule.q (earliest_release jobs) start end s schedule.q_low
      (le_trans inside.0 (leb-true _ _ window.0))
      (le_trans (ltb-true _ _ window.1) inside.1)

  -- what the window's own jobs are served, by slot
  parts : sum (length jobs) (λ j. only_if (is_inside start end (job_of jobs j)) (served schedule j))
      ≡ sum (slot_count schedule) (λ s. sum (length jobs) (part s))
  unfolding part served
  parts =
      sum_cong (length jobs) (λ j job. sym (sum_only_if (slot_count schedule) (is_inside start end (job_of jobs j)) _))
      ∙ sum_swap (length jobs) (slot_count schedule) (λ j s. part s j)

  -- so the window has room for its own jobs
  pub own_cycles_fit : Serves schedule → cycles_inside jobs start end ≤ (end - start) * top_frequency levels
  unfolding cycles_inside
  own_cycles_fit serves =
      let q : ℕ = schedule.q in
      let first : ℕ = earliest_release jobs in
      let top : ℕ = top_frequency levels in
      let needed : q * cycles_inside jobs start end ≤ sum (length jobs) (λ j. only_if (is_inside start end (job_of jobs j)) (served schedule j)) =
      rw (← sum_mul_left (length jobs) q (λ j. only_if (is_inside start end (job_of jobs j)) (job_of jobs j).cycles))
      (sum_mono (length jobs) (λ j job. only_if_scaled (is_inside start end (job_of jobs j)) q _ _ (serves j job))) in
      let supply : sum (slot_count schedule) (λ s. sum (length jobs) (part s)) ≤ (min (slot_count schedule) ((end - first) * q) - (start - first) * q) * top =
      sum_within (slot_count schedule) ((start - first) * q) ((end - first) * q) top (λ s. sum (length jobs) (part s)) part_high part_inside in
      let room : min (slot_count schedule) ((end - first) * q) - (start - first) * q ≤ (end - start) * q = omega (arith, stretch_length q first start end) in
      le_of_mul-le-mul_left {k = q} (omega (arith, parts, mul-le-mul_right top room)) schedule.q_low
