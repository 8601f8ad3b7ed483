-- Laws of bounds with marks: those that lie strictly between the first and the last bound are put in, and no others; what was there
-- stays; and what comes of it are bounds as the theory asks.
-- Assumes nothing.
use mathlib.Core.Path.{◌≡◌, refl, ◌∙◌}
use mathlib.Core.Logic.{◌⊎◌, inl, inr}
use mathlib.Core.List.{List, [], ◌∷◌}
use Prim.Native.Nat.{ℕ, zero, suc, ◌+◌, ◌*◌, ◌<◌, ◌≤◌}
use native.Mathlib.Omega.{arith}
use lib.ListN.{length, get_or}
use borrow.Author.Tests.{lt-ltb, le-ltb}
use Rattle.model.specs.declared.Job.{Job}
use Rattle.model.specs.Intervals.{insert_time, bounds_of, earliest_release, latest_deadline, Bounds}
use Rattle.model.specs.Marks.{mark_of, insert_marks, bounds_with}
use Rattle.model.proofs.Numbers.{lt_or_le}
use Rattle.model.proofs.BoundsOf.{
  RisesFrom,
  StandsIn,
  ReleasesFirst,
  rises_at,
  greatest,
  rises_last,
  inserted,
  insert_time_rises,
  inserted_there,
  inserted_keeps,
  inserted_only,
  inserted_length,
  inserted_first,
  inserted_greatest,
  bounds_of_rising,
  release_in_bounds,
  deadline_in_bounds,
  length_bounds_of,
  bounds_of_first,
  bounds_of_last,
}

-- the time stands among the marks, strictly between two times
abbrev pub MarkBetween : (first last : ℕ) → (marks : List ℕ) → (time : ℕ) → Type 0
MarkBetween first last marks time = (i : ℕ) × (i < length marks) × (mark_of marks i ≡ time) × (first < time) × (time < last)

module _ (first last : ℕ) where
  abbrev with : (marks times : List ℕ) → List ℕ
  with marks times = insert_marks first last marks times

  -- one mark more is put in, or has no effect
  abbrev Put : (mark : ℕ) → (marks times : List ℕ) → Type 0
  Put mark marks times =
      ((first < mark) × (mark < last) × (with (mark ∷ marks) times ≡ insert_time mark (with marks times)))
      ⊎ (((mark ≤ first) ⊎ (last ≤ mark)) × (with (mark ∷ marks) times ≡ with marks times))

  mark_put : (mark : ℕ) (marks times : List ℕ) → Put mark marks times
  unfolding insert_marks
  mark_put mark marks times = go (lt_or_le first mark) (lt_or_le mark last)
    where
      go : (first < mark) ⊎ (mark ≤ first) → (mark < last) ⊎ (last ≤ mark) → Put mark marks times
      go (inl past) (inl before) = inl (past, before, rw (lt-ltb first mark past, lt-ltb mark last before))
      go (inl past) (inr late) = inr (inr late, rw (lt-ltb first mark past, le-ltb mark last late))
      go (inr early) rest = inr (inl early, rw (le-ltb first mark early))

  -- whatever holds of the times, and still holds with one mark more, holds of all of them
  marks_ind : (P : List ℕ → Type 0) (times : List ℕ) → P times
      → ((mark : ℕ) (sofar : List ℕ) → first < mark → mark < last → P sofar → P (insert_time mark sofar))
      → (marks : List ℕ) → P (with marks times)
  unfolding insert_marks
  marks_ind P times base step [] = base
  marks_ind P times base step (mark ∷ marks) = go (mark_put mark marks times) (marks_ind P times base step marks)
    where
      go : Put mark marks times → P (with marks times) → P (with (mark ∷ marks) times)
      go (inl (past, before, is)) rest = rw is (step mark (with marks times) past before rest)
      go (inr (outside, is)) rest = rw is rest

  pub marked_rises : (marks times : List ℕ) → RisesFrom 0 times → RisesFrom 0 (with marks times)
  marked_rises marks times rises =
      marks_ind (λ l. RisesFrom 0 l) times rises (λ mark sofar past before h. insert_time_rises mark sofar 0 (omega arith) h) marks

  pub marked_keeps : (marks times : List ℕ) (time : ℕ) → StandsIn times time → StandsIn (with marks times) time
  marked_keeps marks times time found =
      marks_ind (λ l. StandsIn l time) times found (λ mark sofar past before h. inserted_keeps (inserted mark sofar) time h) marks

  -- the first and the last time stay
  pub marked_ends : (marks times : List ℕ) → (get_or times 0 0 ≡ first) × (greatest times ≡ last)
      → (get_or (with marks times) 0 0 ≡ first) × (greatest (with marks times) ≡ last)
  unfolding greatest
  marked_ends marks times ends = marks_ind (λ l. (get_or l 0 0 ≡ first) × (greatest l ≡ last)) times ends step marks
    where
      some : (mark : ℕ) (l : List ℕ) → mark < last → greatest l ≡ last → 0 < length l
      some mark [] before e = absurd (omega arith)
      some mark (x ∷ l) before e = omega arith

      step : (mark : ℕ) (sofar : List ℕ) → first < mark → mark < last → (get_or sofar 0 0 ≡ first) × (greatest sofar ≡ last)
          → (get_or (insert_time mark sofar) 0 0 ≡ first) × (greatest (insert_time mark sofar) ≡ last)
      step mark sofar past before (low, high) = (
        omega (arith, inserted_first (inserted mark sofar) (some mark sofar before high)),
        omega (arith, inserted_greatest (inserted mark sofar)),
      )

  pub marked_length : (marks times : List ℕ) → length (with marks times) ≤ length times + length marks
  unfolding insert_marks
  marked_length [] times = omega arith
  marked_length (mark ∷ marks) times = go (mark_put mark marks times) (marked_length marks times)
    where
      go : Put mark marks times → length (with marks times) ≤ length times + length marks
          → length (with (mark ∷ marks) times) ≤ length times + suc (length marks)
      go (inl (past, before, is)) rest = rw is (omega (arith, inserted_length (inserted mark (with marks times))))
      go (inr (outside, is)) rest = rw is (omega arith)

  -- every mark between is there
  pub marked_there : (marks times : List ℕ) (time : ℕ) → MarkBetween first last marks time → StandsIn (with marks times) time
  unfolding insert_marks
  marked_there [] times time (i, below, is, past, before) = absurd (omega arith)
  marked_there (mark ∷ marks) times time (zero, below, is, past, before) = go (mark_put mark marks times)
    where
      go : Put mark marks times → StandsIn (with (mark ∷ marks) times) time
      go (inl (low, high, put)) = rw (put, ← is) (inserted_there (inserted mark (with marks times)))
      go (inr (inl early, put)) = absurd (omega arith)
      go (inr (inr late, put)) = absurd (omega arith)
  marked_there (mark ∷ marks) times time (suc i, below, is, past, before) =
      go (mark_put mark marks times) (marked_there marks times time (i, omega arith, is, past, before))
    where
      go : Put mark marks times → StandsIn (with marks times) time → StandsIn (with (mark ∷ marks) times) time
      go (inl (low, high, put)) rest = rw put (inserted_keeps (inserted mark (with marks times)) time rest)
      go (inr (outside, put)) rest = rw put rest

  -- and nothing but them and what was there
  pub marked_only : (marks times : List ℕ) (time : ℕ) → StandsIn (with marks times) time → StandsIn times time ⊎ MarkBetween first last marks time
  unfolding insert_marks
  marked_only [] times time found = inl found
  marked_only (mark ∷ marks) times time found = go (mark_put mark marks times) (marked_only marks times time)
    where
      later : StandsIn times time ⊎ MarkBetween first last marks time → StandsIn times time ⊎ MarkBetween first last (mark ∷ marks) time
      later (inl there) = inl there
      later (inr (i, below, is, past, before)) = inr (suc i, omega arith, is, past, before)

      put_in : first < mark → mark < last → (mark ≡ time) ⊎ StandsIn (with marks times) time
          → (StandsIn (with marks times) time → StandsIn times time ⊎ MarkBetween first last marks time)
          → StandsIn times time ⊎ MarkBetween first last (mark ∷ marks) time
      put_in past before (inl same) rest = inr (0, omega arith, same, omega arith, omega arith)
      put_in past before (inr there) rest = later (rest there)

      go : Put mark marks times → (StandsIn (with marks times) time → StandsIn times time ⊎ MarkBetween first last marks time)
          → StandsIn times time ⊎ MarkBetween first last (mark ∷ marks) time
      go (inl (past, before, put)) rest = put_in past before (inserted_only (inserted mark (with marks times)) time (rw put at found)) rest
      go (inr (outside, put)) rest = later (rest (rw put at found))

  -- marks of which none lies between have no effect
  pub marked_none : (marks times : List ℕ) → ((time : ℕ) → MarkBetween first last marks time → ⊥) → with marks times ≡ times
  unfolding insert_marks
  marked_none [] times none = refl
  marked_none (mark ∷ marks) times none =
      go (mark_put mark marks times)
      (marked_none marks times (λ time (i, below, is, past, before). none time (suc i, omega arith, is, past, before)))
    where
      go : Put mark marks times → with marks times ≡ times → with (mark ∷ marks) times ≡ times
      go (inl (past, before, put)) rest = absurd (none mark (0, omega arith, refl, past, before))
      go (inr (outside, put)) rest = put ∙ rest

bounds_with_rising : (marks : List ℕ) (jobs : List Job) → RisesFrom 0 (bounds_with marks jobs)
unfolding bounds_with
bounds_with_rising marks jobs = marked_rises _ _ marks (bounds_of jobs) (bounds_of_rising jobs)

pub length_bounds_with : (marks : List ℕ) (jobs : List Job) → length (bounds_with marks jobs) ≤ 2 * length jobs + length marks
unfolding bounds_with
length_bounds_with marks jobs =
    omega (arith, marked_length (earliest_release jobs) (latest_deadline jobs) marks (bounds_of jobs), length_bounds_of jobs)

-- The releases and deadlines of jobs, each release before its deadline, with any marks, are bounds as the theory asks.
pub bounds-with : (marks : List ℕ) (jobs : List Job) → ReleasesFirst jobs → Bounds jobs (bounds_with marks jobs)
unfolding bounds_with
bounds-with marks jobs wide =
    let first = earliest_release jobs in
    let last = latest_deadline jobs in
    let ends = marked_ends first last marks (bounds_of jobs) (bounds_of_first jobs wide, bounds_of_last jobs wide) in
    let rising = bounds_with_rising marks jobs in
    record {
      rises = λ i below. rises_at (bounds_with marks jobs) 0 i rising below;
      release_found = λ j below. marked_keeps first last marks (bounds_of jobs) _ (release_in_bounds jobs j below);
      deadline_found = λ j below. marked_keeps first last marks (bounds_of jobs) _ (deadline_in_bounds jobs j below);
      first = ends.0;
      last = rises_last (bounds_with marks jobs) 0 rising ∙ ends.1;
    }
