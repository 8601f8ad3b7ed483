-- A set of jobs fits exactly when some schedule meets all deadlines. With as many slots to a tick as the top frequency, a slot at the top level
-- serves one cycle, and earliest deadline first serves all jobs.
-- Assumes nothing.
use mathlib.Core.Path.{◌≡◌, refl}
use mathlib.Core.Bool.{Bool, true, false, cond, ◌&&◌}
use mathlib.Core.Logic.{◌⊎◌, inl, inr}
use mathlib.Core.List.{List}
use mathlib.Core.Option.{Option, none, some}
use Prim.Native.Nat.{ℕ, suc, ◌+◌, ◌-◌, ◌*◌, ◌/◌, ◌<◌, ◌≤◌}
use native.Mathlib.Nat.{le_trans, div-mul-le_self, le-div_iff_mul-le, div-lt_iff_lt-mul, mul-add-div_right, mul-le-mul_right, mul-le-mul_left, mul-sub}
use native.Mathlib.Omega.{arith}
use lib.ListN.{length}
use lib.Dec.{ltb, leb, eqb}
use borrow.Author.Tests.{ltb-true, lt-ltb, leb-true, le-leb, eqb-true, eq-eqb}
use Rattle.model.specs.declared.Level.{Level}
use Rattle.model.specs.declared.Job.{Job}
use Rattle.model.specs.Sum.{sum, only_if}
use Rattle.model.specs.Jobs.{job_of}
use Rattle.model.specs.Points.{top_frequency}
use Rattle.model.specs.Processors.{top_of}
use Rattle.model.specs.Intervals.{bounds_of, earliest_release, latest_deadline}
use Rattle.model.specs.Windows.{Window, cycles_inside, earliest_overfull}
use Rattle.model.specs.Demands.{CanBeServed}
use Rattle.model.specs.Schedules.{Slot, idles, runs, IsGiven, frequency_for, horizon, Schedule, served, Serves}
use Rattle.model.proofs.Numbers.{true_or_false, both_true}
use Rattle.model.proofs.Sum.{sum_mono, sum_zero, sum_mul_left, sum_split, sum_longer}
use Rattle.model.proofs.SumMore.{only_if_mono}
use Rattle.model.proofs.Intervals.{bounds_mono}
use Rattle.model.proofs.BoundsOf.{bounds-of}
use Rattle.model.proofs.Windows.{inside_iff, overfull_iff, earliest_overfull_found}
use Rattle.model.proofs.Demands.{window_never_served}
use Rattle.windows.proofs.FittingSets.{fitting_window}
use Rattle.feasibility.specs.Feasible.{FittingIsServed, FitsExactlyWhenServed}
use Rattle.feasibility.proofs.EarliestDeadline.{chosen, taken, in_time, all-taken}

-- the whole ticks between two slots have no more slots than lie between them
whole_ticks : (f start end : ℕ) → 0 < f → (end / f - (start + (f - 1)) / f) * f ≤ end - start
whole_ticks f start end positive =
    let a : ℕ = (start + (f - 1)) / f in
    let b : ℕ = end / f in
    let from : start + (f - 1) < suc a * f = (div-lt_iff_lt-mul positive).0 (omega arith) in
    omega (arith, div-mul-le_self end f, mul-sub f b a)

module _ (f : ℕ) (positive : 0 < f) (jobs : List Job) (ordered : (j : ℕ) → j < length jobs → (job_of jobs j).release < (job_of jobs j).deadline)
    (fits : earliest_overfull f jobs ≡ none) where
  -- the slot at a job's release, of f slots to a tick, and the one at its deadline
  abbrev first : (job : ℕ) → ℕ
  first j = (job_of jobs j).release * f

  abbrev due : (job : ℕ) → ℕ
  due j = (job_of jobs j).deadline * f

  abbrev cycles : (job : ℕ) → ℕ
  cycles j = (job_of jobs j).cycles

  -- the jobs between two slots lie in the whole ticks between them
  slots_fit : (start end : ℕ) → sum (length jobs) (λ j. only_if (leb start (first j) && leb (due j) end) (cycles j)) ≤ end - start
  unfolding cycles_inside
  slots_fit start end =
      let a : ℕ = (start + (f - 1)) / f in
      let b : ℕ = end / f in
      let inside : sum (length jobs) (λ j. only_if (leb start (first j) && leb (due j) end) (cycles j)) ≤ cycles_inside jobs a b =
      sum_mono (length jobs) (λ j below. only_if_mono _ _ _ (λ e.
      let tests = both_true (leb start (first j)) (leb (due j) end) e in
      let from = leb-true start (first j) tests.0 in
      let least : a < suc (job_of jobs j).release = (div-lt_iff_lt-mul positive).1 (omega arith) in
      (inside_iff a b (job_of jobs j)).1 (omega arith, (le-div_iff_mul-le positive).1 (leb-true (due j) end tests.1)))) in
      omega (arith, fitting_window f jobs ordered fits a b, whole_ticks f start end positive)

  -- the job that a slot runs, counted from tick 0
  abbrev job_in : (slot : ℕ) → ℕ
  job_in = chosen (length jobs) first due cycles

  -- no job is released before the earliest release, or due after the latest deadline
  released-from : (j : ℕ) → j < length jobs → earliest_release jobs ≤ (job_of jobs j).release
  released-from j below =
      let B = bounds-of jobs ordered in
      let (i, inside, is) = B.release_found j below in
      omega (arith, B.first, bounds_mono B 0 i (omega arith) inside)

  due_until : (j : ℕ) → j < length jobs → (job_of jobs j).deadline ≤ latest_deadline jobs
  due_until j below =
      let B = bounds-of jobs ordered in
      let (i, inside, is) = B.deadline_found j below in
      omega (arith, B.last, bounds_mono B i (length (bounds_of jobs) - 1) (omega arith) (omega arith))

  -- all cycles of a job are taken in the slots from the earliest release to the latest deadline
  taken_there : (j : ℕ) → j < length jobs
      → cycles j ≤ sum (f * horizon jobs) (λ s. taken (length jobs) first due cycles j (earliest_release jobs * f + s))
  unfolding horizon
  taken_there j below =
      let start : ℕ = earliest_release jobs * f in
      let size : ℕ = f * (latest_deadline jobs - earliest_release jobs) in
      let count : ℕ → ℕ = taken (length jobs) first due cycles j in
      let none_before : sum start count ≡ 0 = sum_zero start (λ s h. idle_before s h (true_or_false (eqb (job_in s) j))) in
      let ticks : latest_deadline jobs ≤ latest_deadline jobs - earliest_release jobs + earliest_release jobs = omega arith in
      let reaches : due j ≤ start + size = omega (arith, mul-le-mul_right f ticks, mul-le-mul_right f (due_until j below)) in
      omega (arith, all-taken (length jobs) first due cycles slots_fit j below, sum_longer count reaches, sum_split start size count)
    where
      idle_before : (s : ℕ) → s < earliest_release jobs * f → (eqb (job_in s) j ≡ true) ⊎ (eqb (job_in s) j ≡ false) → only_if (eqb (job_in s) j) 1 ≡ 0
      idle_before s before (inl here) =
          let (released, _) = in_time (length jobs) first due cycles slots_fit s j below (eqb-true (job_in s) j here) in
          absurd (omega (arith, mul-le-mul_right f (released-from j below)))
      idle_before s before (inr other) = rw other

  -- the tick of a slot that runs a job lies in the job's window
  tick_in_time : (j s : ℕ) → j < length jobs → job_in (earliest_release jobs * f + s) ≡ j
      → (leb (job_of jobs j).release (earliest_release jobs + s / f) && ltb (earliest_release jobs + s / f) (job_of jobs j).deadline) ≡ true
  tick_in_time j s below here =
      let (released, before) = in_time (length jobs) first due cycles slots_fit (earliest_release jobs * f + s) j below here in
      rw (← mul-add-div_right positive (earliest_release jobs) s)
      (rw (le-leb _ _ ((le-div_iff_mul-le positive).1 released)) (lt-ltb _ _ ((div-lt_iff_lt-mul positive).1 before)))

module _ (levels : List Level) (some_level : 1 ≤ length levels) (positive : 1 ≤ top_frequency levels) (jobs : List Job)
    (ordered : (j : ℕ) → j < length jobs → (job_of jobs j).release < (job_of jobs j).deadline)
    (fits : earliest_overfull (top_frequency levels) jobs ≡ none) where
  abbrev top : ℕ
  top = top_frequency levels

  -- the job of a slot, counted from the earliest release
  abbrev job_of_slot : (s : ℕ) → ℕ
  job_of_slot s = job_in top positive jobs ordered fits (earliest_release jobs * top + s)

  -- it runs at the top level; without a job the slot idles
  abbrev at_top : (job : ℕ) → Slot
  at_top j = cond (ltb j (length jobs)) (runs (length levels - 1) j) idles

  top_given : (j : ℕ) → IsGiven levels jobs (at_top j)
  top_given j = go (ltb j (length jobs)) (ltb-true j (length jobs))
    where
      go : (t : Bool) → (t ≡ true → j < length jobs) → IsGiven levels jobs (cond t (runs (length levels - 1) j) idles)
      go true below = (omega arith, below refl)
      go false below = tt

  earliest_deadline_first : Schedule levels jobs
  earliest_deadline_first =
      record {
        q = top;
        q_low = positive;
        slot = λ s. at_top (job_of_slot s);
        given = λ s below. top_given (job_of_slot s);
      }

  meets_deadlines : Serves earliest_deadline_first
  unfolding served earliest_deadline_first
  meets_deadlines j below =
      le_trans (mul-le-mul_left top (taken_there top positive jobs ordered fits j below))
      (rw (← sum_mul_left (top * horizon jobs) top (λ s. only_if (eqb (job_of_slot s) j) 1))
      (sum_mono (top * horizon jobs) (λ s inside. serves s (true_or_false (eqb (job_of_slot s) j)))))
    where
      serves : (s : ℕ) → (eqb (job_of_slot s) j ≡ true) ⊎ (eqb (job_of_slot s) j ≡ false)
          → top * only_if (eqb (job_of_slot s) j) 1
          ≤ only_if
          (leb (job_of jobs j).release (earliest_release jobs + s / top) && ltb (earliest_release jobs + s / top) (job_of jobs j).deadline)
          (frequency_for levels j (at_top (job_of_slot s)))
      serves s (inr other) = rw other (omega arith)
      serves s (inl here) =
          let same : job_of_slot s ≡ j = eqb-true (job_of_slot s) j here in
          rw (tick_in_time top positive jobs ordered fits j s below same, same, lt-ltb j (length jobs) below, eq-eqb j j refl) (omega arith)

pub fitting_is_served : FittingIsServed
fitting_is_served levels some_level positive jobs ordered fits =
    (earliest_deadline_first levels some_level positive jobs ordered fits, meets_deadlines levels some_level positive jobs ordered fits)

pub fits_exactly_when_served : FitsExactlyWhenServed
fits_exactly_when_served site valid = (
  λ fits.
      let some_level = valid.processor.levels.some in
      fitting_is_served site.processor.levels some_level
      (valid.processor.levels.frequency_low (length site.processor.levels - 1) (omega arith))
      site.jobs valid.jobs.release_before_deadline fits,
  λ served. go served (earliest_overfull (top_of site.processor) site.jobs) refl,
)
  where
    go : CanBeServed site → (found : Option Window) → earliest_overfull (top_of site.processor) site.jobs ≡ found → found ≡ none
    go served none e = refl
    go served (some w) e =
        let law = earliest_overfull_found (top_of site.processor) site.jobs w e in
        let more = (overfull_iff (top_of site.processor) site.jobs w.start w.end).0 law.overfull in
        absurd (window_never_served site valid w.start w.end more served)
