-- Laws of marks put in among times in an array, one after another, and of the first and the last bound there.
-- Assumes nothing.
use mathlib.Core.Path.{◌≡◌, sym, ◌∙◌, ap, ap₂}
use mathlib.Core.Logic.{◌⊎◌, inl, inr}
use mathlib.Core.List.{List, ◌∷◌}
use Prim.Native.Nat.{ℕ, suc, ◌-◌, ◌<◌, ◌≤◌}
use native.Mathlib.Omega.{arith}
use lib.ListN.{length, get_or, take, drop, drop_of_length-le, get_or-eq_default}
use lib.Seq.{drop-cons, get_or-take, length-take-le}
use borrow.Author.Tests.{lt-ltb, le-ltb}
use Rattle.model.specs.declared.Job.{Job}
use Rattle.model.specs.Limits.{max_bounds}
use Rattle.model.specs.Intervals.{insert_time, bounds_of, interval_count, bound_at, earliest_release, latest_deadline}
use Rattle.model.specs.Marks.{insert_mark, insert_marks, bounds_with}
use Rattle.model.proofs.Numbers.{lt_or_le}
use Rattle.model.proofs.BoundsOf.{ReleasesFirst, rises_at, rises_index, bounds-of}
use Rattle.model.proofs.MarkedBounds.{marked_rises}
use Rattle.reading.proofs.Column.{column_at, column_past}
use Rattle.job_tables.specs.Tables.{jobs_in}
use Rattle.job_tables.proofs.Read.{length_jobs_in, job-in}
use Rattle.mark_tables.specs.Tables.{marks_in}
use Rattle.mark_tables.proofs.MarksIn.{length_marks_in, mark_in}
use Rattle.intervals.specs.Times.{padded, HoldsTimes, RisingTimes}
use Rattle.intervals.proofs.Padded.{holds_first}

-- a mark that is not between has no effect, and one that is is put in
module _ (first last mark : ℕ) (times : List ℕ) where
  pub mark_early : mark ≤ first → times ≡ insert_mark first last mark times
  mark_early early = rw (le-ltb first mark early)

  pub mark_late : first < mark → last ≤ mark → times ≡ insert_mark first last mark times
  mark_late past late = rw (lt-ltb first mark past, le-ltb mark last late)

  pub mark_cuts : first < mark → mark < last → insert_time mark times ≡ insert_mark first last mark times
  mark_cuts past before = rw (lt-ltb first mark past, lt-ltb mark last before)

-- the marks from a number on, put in
module _ (first last count : ℕ) (marks times : List ℕ) where
  abbrev from : (i : ℕ) → List ℕ
  from i = insert_marks first last (drop i (marks_in count marks)) times

  pub marks_none : times ≡ from count
  unfolding insert_marks
  marks_none =
      let past : length (marks_in count marks) ≤ count = omega (arith, length_marks_in count marks) in
      rw (drop_of_length-le (marks_in count marks) past)

  pub marks_more : (i : ℕ) → 0 < i → i ≤ count → from (i - 1) ≡ insert_mark first last (get_or marks (i - 1) 0) (from i)
  unfolding insert_marks
  marks_more i some within =
      let below : i - 1 < count = omega arith in
      let inside : i - 1 < length (marks_in count marks) = rw length_marks_in below in
      let next : suc (i - 1) ≡ i = omega arith in
      let one : drop (i - 1) (marks_in count marks) ≡ get_or marks (i - 1) 0 ∷ drop i (marks_in count marks) =
      drop-cons (marks_in count marks) (i - 1) 0 inside
      ∙ ap₂ (λ (mark n : ℕ). mark ∷ drop n (marks_in count marks)) (mark_in count marks (i - 1) below) next in
      ap (λ (l : List ℕ). insert_marks first last l times) one

  pub marks_whole : (i : ℕ) → i ≤ 0 → from i ≡ insert_marks first last (marks_in count marks) times
  marks_whole i none = let e : i ≡ 0 = omega arith in rw e

-- times that rise in an array still rise with marks among them
pub marked_times_rise : (first last : ℕ) (marks times : List ℕ) (count : ℕ) → length times ≡ max_bounds → RisingTimes count times
    → (i : ℕ) → suc i < length (insert_marks first last marks (take count times))
    → get_or (insert_marks first last marks (take count times)) i 0 < get_or (insert_marks first last marks (take count times)) (suc i) 0
marked_times_rise first last marks times count size rising i below =
    rises_at (insert_marks first last marks (take count times)) 0 i
    (marked_rises first last marks (take count times)
    (rises_index (take count times) 0 (λ some. omega arith) (λ k h. rw (at k (omega arith), at (suc k) (omega arith)) (rising.rises k (omega (arith, taken))))))
    below
  where
    taken : length (take count times) ≡ count
    taken = length-take-le count times (omega (arith, rising.few))

    at : (k : ℕ) → k < length (take count times) → get_or (take count times) k 0 ≡ get_or times k 0
    at k h = get_or-take count times k 0 (omega (arith, taken))

-- times in an array, also past the last
held_time : {times : List ℕ} {count : ℕ} {l : List ℕ} → HoldsTimes times count l → (i : ℕ) → i < max_bounds → get_or times i 0 ≡ get_or l i 0
held_time {times} {count} {l} holds i inside = ap (λ (array : List ℕ). get_or array i 0) holds.array ∙ go (lt_or_le i (length l))
  where
    go : (i < length l) ⊎ (length l ≤ i) → get_or (padded l) i 0 ≡ get_or l i 0
    go (inl below) = column_at max_bounds (λ k. get_or l k 0) (length l) i inside below
    go (inr past) = column_past max_bounds (λ k. get_or l k 0) (length l) i inside past ∙ sym (get_or-eq_default l 0 past)

-- the first and the last bound of jobs in arrays are their earliest release and their latest deadline
module _ (count : ℕ) (releases deadlines cycles : List ℕ) (ordered : (j : ℕ) → j < count → get_or releases j 0 < get_or deadlines j 0)
    {times : List ℕ} {bounds : ℕ} (holds : HoldsTimes times bounds (bounds_of (jobs_in count releases deadlines cycles))) (few : bounds ≤ max_bounds) where
  abbrev jobs : List Job
  jobs = jobs_in count releases deadlines cycles

  wide : ReleasesFirst jobs
  wide j below =
      let inside : j < count = rw length_jobs_in at below in
      rw (job-in count releases deadlines cycles j inside) (ordered j inside)

  first_time : get_or times 0 0 ≡ earliest_release jobs
  first_time = held_time holds 0 (omega arith) ∙ (bounds-of jobs wide).first

  last_time : get_or times (bounds - 1) 0 ≡ latest_deadline jobs
  last_time =
      let place : bounds - 1 ≡ interval_count (bounds_of jobs) = omega (arith, holds.counted) in
      held_time holds (bounds - 1) (omega arith) ∙ ap (λ (i : ℕ). bound_at (bounds_of jobs) i) place ∙ (bounds-of jobs wide).last

  -- with the marks strictly between them put in
  pub marked_held : {next : List ℕ} {n : ℕ} {first last : ℕ} (marks : List ℕ) → first ≡ get_or times 0 0 → last ≡ get_or times (bounds - 1) 0
      → HoldsTimes next n (insert_marks first last marks (take bounds times)) → HoldsTimes next n (bounds_with marks jobs)
  unfolding bounds_with
  marked_held marks is_first is_last held = rw (is_first ∙ first_time, is_last ∙ last_time, holds_first holds few) at held
