-- Jobs that were read, in arrays, with their bounds: the verdict on a plan's steps over the arrays is the definition's, and what is
-- listed from the arrays of a plan that passes is what touches the span.
-- Assumes nothing.
use mathlib.Core.Path.{◌≡◌, refl, sym, ◌∙◌, ap}
use mathlib.Core.Bool.{Bool}
use mathlib.Core.List.{List}
use Prim.Native.Nat.{ℕ, zero, suc, ◌-◌, ◌<◌, ◌≤◌}
use native.Mathlib.Omega.{arith}
use lib.ListN.{length, get_or}
use Rattle.std.specs.Prelude.{Result, Ok, Err}
use Rattle.model.specs.declared.Job.{Job}
use Rattle.model.specs.declared.refusal.Refusal.{Refusal}
use Rattle.model.specs.Limits.{max_jobs, max_bounds, max_intervals, max_deadline}
use Rattle.model.specs.Search.{passing_below, least_below}
use Rattle.model.specs.Jobs.{job_of, ValidJobs}
use Rattle.model.specs.Intervals.{Bounds}
use Rattle.model.specs.Windows.{is_inside}
use Rattle.model.specs.Checking.{stepping}
use Rattle.model.specs.Marks.{ValidMarks, bounds_with}
use Rattle.model.proofs.Refusals.{RefusedBy}
use Rattle.model.proofs.MarkedBounds.{bounds-with, length_bounds_with}
use Rattle.model.proofs.Passing.{passing_cong}
use Rattle.reading.specs.Column.{column_of}
use Rattle.job_tables.specs.Tables.{jobs_in}
use Rattle.job_tables.proofs.Read.{length_jobs_in, job-in, sound_in}
use Rattle.intervals.specs.Times.{HoldsTimes, RisingTimes, number_of}
use Rattle.intervals.specs.OpenSets.{open_sets, HoldsOpen}
use Rattle.intervals.proofs.OpenRanges as ranges
use Rattle.fitting.specs.Verdicts.{verdict_of, passed}
use Rattle.fitting.specs.SeenCells.{CellsSeen}
use Rattle.job_records.specs.TestedJobs.{HoldsCycles}
use Rattle.fitting.specs.FirstHalf.{stepping_in}
use Rattle.fitting.proofs.StepFaults.{stepping_same}
use Rattle.fitting.proofs.Verdicts.{both_alone, both_stepping, both_refused, both_passed}
use Rattle.spans.specs.Spans.{opens_within, jobs_open, jobs_inside, nearest_deadline, touched}
use Rattle.spans.specs.TouchedIn.{opens_at, inside_at, nearest_in, touched_in, HoldsBounds}
use Rattle.spans.proofs.StepLists.{cells_touched}
use Rattle.touching.specs.Touching.{Lists, where_room, touching_for}

-- values and tests that agree have the same least value
least_cong : (count : ℕ) (v w : ℕ → ℕ) (f g : ℕ → Bool) → ((i : ℕ) → i < count → v i ≡ w i) → ((i : ℕ) → i < count → f i ≡ g i)
    → least_below count v f ≡ least_below count w g
unfolding least_below
least_cong zero v w f g values tests = refl
least_cong (suc count) v w f g values tests =
    rw (
      values count (omega arith),
      tests count (omega arith),
      least_cong count v w f g (λ i below. values i (omega arith)) (λ i below. tests i (omega arith)),
    )

module _ (count : ℕ) (releases deadlines cycles : List ℕ) where
  abbrev jobs : List Job
  jobs = jobs_in count releases deadlines cycles

  counted : length jobs ≡ count
  counted = length_jobs_in count releases deadlines cycles

  own_job : (j : ℕ) → j < count → job_of jobs j ≡ record { release = get_or releases j 0; deadline = get_or deadlines j 0; cycles = get_or cycles j 0 }
  own_job = job-in count releases deadlines cycles

  -- the jobs and the nearest deadline
  module _ (start end : ℕ) where
    open_same : passing_below count (opens_at releases deadlines start end) ≡ jobs_open jobs start end
    open_same =
        rw counted
        (passing_cong count (opens_at releases deadlines start end) (λ j. opens_within start end (job_of jobs j)) (λ j below. rw (own_job j below)))

    inside_same : passing_below count (inside_at releases deadlines start end) ≡ jobs_inside jobs start end
    inside_same =
        rw counted
        (passing_cong count (inside_at releases deadlines start end) (λ j. is_inside start end (job_of jobs j)) (λ j below. rw (own_job j below)))

    nearest_same : nearest_in deadlines count start ≡ nearest_deadline jobs start
    nearest_same = rw counted (least_cong count _ _ _ _ (λ j below. rw (own_job j below)) (λ j below. rw (own_job j below)))

  module _ (valid : ValidJobs jobs) where
    -- each release stands before its deadline
    pub jobs_ordered : (j : ℕ) → j < count → get_or releases j 0 < get_or deadlines j 0
    jobs_ordered j below = (sound_in count releases deadlines cycles valid j below).release_before_deadline

    -- bounds with marks that were read
    pub marked_bounds_held : {times : List ℕ} {n : ℕ} (marks : List ℕ) → ValidMarks marks → HoldsTimes times n (bounds_with marks jobs)
        → HoldsBounds jobs times n (bounds_with marks jobs)
    marked_bounds_held marks rising holds =
        record {
          cuts = bounds-with marks jobs valid.release_before_deadline;
          few = omega (arith, length_bounds_with marks jobs, valid.few, rising.few);
          holds = holds;
        }

    pub deadlines_high : (j : ℕ) → j < count → get_or deadlines j 0 ≤ max_deadline
    deadlines_high j below = (sound_in count releases deadlines cycles valid j below).deadline_high

    -- the times hold the bounds
    module _ {times : List ℕ} {n : ℕ} {bounds : List ℕ} (held : HoldsBounds jobs times n bounds) where
      cuts : Bounds jobs bounds
      cuts = held.cuts

      few_bounds : length bounds ≤ max_bounds
      few_bounds = held.few

      holds : HoldsTimes times n bounds
      holds = held.holds

      pub times_rise : RisingTimes n times
      times_rise = (ranges.bounds_small cuts valid few_bounds holds).rising

      -- what touches the span, where the cells of the plan's steps were seen
      touched_same : (plan cells : List ℕ) → CellsSeen plan cells → (intervals : ℕ) → intervals ≡ n - 1 → (start end : ℕ)
          → touched_in releases deadlines count times cells intervals start end ≡ touched jobs bounds plan start end
      unfolding touched_in touched
      touched_same plan cells seen intervals are start end =
          rw (
            are,
            holds.counted,
            open_same start end,
            inside_same start end,
            nearest_same start end,
            cells_touched bounds plan times cells start end few_bounds (ranges.time_at cuts valid few_bounds holds) seen.has,
          )

      -- the numbers of the jobs' bounds were found, and the open sets made of them
      module _ {first last : List ℕ}
          (first-are : first ≡ column_of max_jobs count (λ j. number_of n times (get_or releases j 0)))
          (last-are : last ≡ column_of max_jobs count (λ j. number_of n times (get_or deadlines j 0))) where
        pub numbers_few : (j : ℕ) → j < count → (get_or first j 0 ≤ max_intervals) × (get_or last j 0 ≤ max_intervals)
        numbers_few = ranges.numbers_few cuts valid few_bounds holds count releases deadlines cycles refl first-are last-are

        module _ {sets : List ℕ} (open_are : sets ≡ open_sets count first last) where
          opened : HoldsOpen jobs bounds sets
          opened = rw open_are (ranges.open_in_arrays cuts valid few_bounds holds count releases deadlines cycles refl first-are last-are)

          cycles_held : HoldsCycles jobs cycles
          cycles_held = record { at = λ j below. rw (own_job j (omega (arith, counted))) }

          -- the verdict on the steps
          module _ (plan : List ℕ) (verdict : Result (Unit {0}) Refusal) (went : verdict ≡ verdict_of (stepping_in sets cycles count n plan passed))
              (start end : ℕ) (before : Lists) where
            judged : verdict_of (stepping jobs bounds plan passed) ≡ verdict
            judged =
                ap verdict_of (stepping_same jobs bounds sets cycles opened.members cycles_held plan passed)
                ∙ rw (counted, ← holds.counted) (sym went)

            pub steps_refused : (own : Refusal) → verdict ≡ Err own → RefusedBy (touching_for jobs bounds plan start end before) own
            unfolding touching_for
            steps_refused own e =
                both_refused (stepping jobs bounds plan passed) _ (both_stepping jobs bounds plan (both_alone tt)) own (judged ∙ e)

            pub steps_passed : (cells : List ℕ) → verdict ≡ Ok tt → CellsSeen plan cells
                → (intervals : ℕ) → intervals ≡ n - 1
                → touching_for jobs bounds plan start end before
                ≡ where_room before (touched_in releases deadlines count times cells intervals start end)
            unfolding touching_for
            steps_passed cells e seen intervals are =
                both_passed (stepping jobs bounds plan passed) _ (both_stepping jobs bounds plan (both_alone tt)) (judged ∙ e)
                ∙ ap (where_room before) (sym (touched_same plan cells seen intervals are start end))
