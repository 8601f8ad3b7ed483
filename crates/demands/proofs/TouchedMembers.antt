-- What is to be listed for a span: all numbers that pass a test are the members that the test is for, tick by tick; two such lists
-- are one; and the deadline found is the nearest.
-- Assumes nothing.
use mathlib.Core.Path.{◌≡◌, refl, sym, ◌∙◌}
use mathlib.Core.Bool.{Bool, true, ◌&&◌}
use mathlib.Core.Logic.{◌⊎◌, inl, inr, ◌↔◌}
use mathlib.Core.List.{List}
use mathlib.Core.Option.{Option, none, some}
use Prim.Native.Nat.{ℕ, zero, suc, ◌*◌, ◌/◌, ◌<◌, ◌≤◌}
use native.Mathlib.Nat.{eq-or-lt_of_le}
use native.Mathlib.Omega.{arith}
use lib.ListN.{length, get_or}
use lib.Seq.{ext_get_or}
use lib.Dec.{leb, eqb}
use borrow.Author.Tests.{leb-true, leb-false, eqb-true, eq-eqb, le-leb}
use Rattle.model.specs.declared.Job.{Job}
use Rattle.model.specs.Limits.{max_jobs}
use Rattle.model.specs.Outcome.{answer}
use Rattle.model.specs.Search.{passing_below}
use Rattle.model.specs.Jobs.{ValidJobs, job_of}
use Rattle.model.specs.Intervals.{interval_count, bound_at}
use Rattle.model.specs.Windows.{is_inside}
use Rattle.model.specs.Steps.{step_count, cell_at, step_at}
use Rattle.model.proofs.Numbers.{lt_or_le, both_true}
use Rattle.model.proofs.Search.{some_below_found, some_below_holds, least_below_found, least_below_fails}
use Rattle.model.proofs.Passing.{passing_all, passing_only, passing_rises}
use Rattle.model.proofs.FittingHalf.{stepping_answered}
use Rattle.std.specs.Prelude.{Some, None}
use Rattle.spans.specs.Spans.{opens_within, shares_tick, has_cell, jobs_open, jobs_inside, steps_touched, nearest_deadline}
use Rattle.spans.specs.SpanAnswers.{nearest_answer}
use Rattle.spans.proofs.SpanTicks.{opens_ticks, inside_ticks, shares_ticks}
use Rattle.demands.specs.TouchedSpans.{
  steps_alone,
  OpenSomewhere,
  WhollyInside,
  StepSharesTick,
  InSpan,
  InInterval,
  Listed,
  IsNearest,
}

-- all numbers below a count that pass a test, where the members are just these
listed_of : (count : ℕ) (test : ℕ → Bool) (Member : ℕ → Type 0)
    → ((n : ℕ) → Member n → (n < count) × (test n ≡ true)) → ((n : ℕ) → n < count → test n ≡ true → Member n) → Listed (passing_below count test) Member
listed_of count test Member passes member =
    record {
      rising = passing_rises count test;
      all_listed = λ n is. let (below, e) = passes n is in passing_all count test n below e;
      nothing_else = λ k inside. let (below, e) = passing_only count test k inside in member _ below e;
    }

-- what stands later is no smaller
no_smaller : {Member : ℕ → Type 0} {list : List ℕ} → Listed list Member → (k l : ℕ) → k ≤ l → l < length list → get_or list k 0 ≤ get_or list l 0
no_smaller {Member} {list} listed k l least inside = go (eq-or-lt_of_le least)
  where
    go : (k ≡ l) ⊎ (k < l) → get_or list k 0 ≤ get_or list l 0
    go (inl same) = rw same (omega arith)
    go (inr less) = omega (arith, listed.rising k l less inside)

-- Two lists of the same members are one list.
module _ {Member : ℕ → Type 0} {one two : List ℕ} (first : Listed one Member) (second : Listed two Member) where
  abbrev AgreeAt : ℕ → Type 0
  AgreeAt k = (k < length two) × (get_or one k 0 ≡ get_or two k 0)

  -- where they agree before a place they agree there: what stands there in the one does not stand earlier in the other
  next : (k : ℕ) → ((i : ℕ) → i < k → i < length one → AgreeAt i) → k < length one → AgreeAt k
  next k earlier inside =
      let (m, m-inside, two-m) = second.all_listed (get_or one k 0) (first.nothing_else k inside) in
      let m-late : k ≤ m = not_in_two m m-inside two-m (lt_or_le m k) in
      let also : k < length two = omega arith in
      let (l, l-inside, one-l) = first.all_listed (get_or two k 0) (second.nothing_else k also) in
      let l-late : k ≤ l = not_in_one also l one-l (lt_or_le l k) in
      (also, omega (arith, no_smaller second k m m-late m-inside, no_smaller first k l l-late l-inside))
    where
      not_in_two : (m : ℕ) → m < length two → get_or two m 0 ≡ get_or one k 0 → (m < k) ⊎ (k ≤ m) → k ≤ m
      not_in_two m m-inside two-m (inl early) = absurd (omega (arith, earlier m early (omega arith), first.rising m k early inside))
      not_in_two m m-inside two-m (inr late) = late

      not_in_one : k < length two → (l : ℕ) → get_or one l 0 ≡ get_or two k 0 → (l < k) ⊎ (k ≤ l) → k ≤ l
      not_in_one also l one-l (inl early) = absurd (omega (arith, earlier l early (omega arith), second.rising l k early also))
      not_in_one also l one-l (inr late) = late

  agree : (n k : ℕ) → k < n → k < length one → AgreeAt k
  agree zero k below inside = absurd (omega arith)
  agree (suc n) k below inside = next k (λ i less. agree n i (omega arith)) inside

  shorter : length one ≤ length two
  shorter = go (lt_or_le (length two) (length one))
    where
      go : (length two < length one) ⊎ (length one ≤ length two) → length one ≤ length two
      go (inl longer) = absurd (omega (arith, (agree (suc (length two)) (length two) (omega arith) longer).0))
      go (inr enough) = enough

pub listed_once : {Member : ℕ → Type 0} {one two : List ℕ} → Listed one Member → Listed two Member → one ≡ two
listed_once {Member} {one} {two} first second =
    let fits = shorter first second in
    let back = shorter second first in
    let long : length one ≡ length two = omega arith in
    ext_get_or 0 one two long (λ k inside. (agree first second (length one) k inside inside).1)

-- the jobs open somewhere in the span, and the jobs wholly inside it
module _ (jobs : List Job) (valid : ValidJobs jobs) (start end : ℕ) where
  module _ (some : start < end) where
    pub open_listed : Listed (jobs_open jobs start end) (OpenSomewhere jobs start end)
    open_listed =
        listed_of (length jobs) (λ j. opens_within start end (job_of jobs j)) (OpenSomewhere jobs start end)
        (λ j (below, tick, in_span, in_window).
        (below, (opens_ticks start end some (job_of jobs j) (valid.release_before_deadline j below)).1 (tick, in_span, in_window)))
        (λ j below e.
        let (tick, in_span, in_window) = (opens_ticks start end some (job_of jobs j) (valid.release_before_deadline j below)).0 e in
        (below, tick, in_span, in_window))

  pub inside_listed : Listed (jobs_inside jobs start end) (WhollyInside jobs start end)
  inside_listed =
      listed_of (length jobs) (λ j. is_inside start end (job_of jobs j)) (WhollyInside jobs start end)
      (λ j (below, all). (below, (inside_ticks start end (job_of jobs j) (valid.release_before_deadline j below)).1 all))
      (λ j below e. (below, (inside_ticks start end (job_of jobs j) (valid.release_before_deadline j below)).0 e))

-- a sound plan's steps stand in intervals that there are
step_below : (jobs : List Job) (bounds plan : List ℕ) → steps_alone jobs bounds plan ≡ answer tt → (s : ℕ) → s < step_count plan
    → cell_at plan s / max_jobs < interval_count bounds
unfolding step_at
step_below jobs bounds plan sound s below = (stepping_answered jobs bounds plan (answer tt) sound).0.step_interval s below

-- the plan's steps whose interval shares a tick with the span
module _ (jobs : List Job) (bounds plan : List ℕ) (rises : (i : ℕ) → suc i < length bounds → bound_at bounds i < bound_at bounds (suc i))
    (sound : steps_alone jobs bounds plan ≡ answer tt) (start end : ℕ) (some : start < end) where
  shares : (i : ℕ) → i < interval_count bounds
      → (shares_tick start end bounds i ≡ true) ↔ ((tick : ℕ) × InSpan start end tick × InInterval bounds i tick)
  shares i below = shares_ticks start end some bounds i (rises i (omega arith))

  pub steps_listed : Listed (steps_touched bounds plan start end) (StepSharesTick bounds plan start end)
  unfolding step_at
  steps_listed =
      listed_of (interval_count bounds * max_jobs)
      (λ cell. has_cell plan cell && shares_tick start end bounds (cell / max_jobs)) (StepSharesTick bounds plan start end)
      passes member
    where
      passes : (cell : ℕ) → StepSharesTick bounds plan start end cell
          → (cell < interval_count bounds * max_jobs) × ((has_cell plan cell && shares_tick start end bounds (cell / max_jobs)) ≡ true)
      passes cell (s, below, is, tick, in_span, in-interval) =
          let inside : cell / max_jobs < interval_count bounds = rw is at (step_below jobs bounds plan sound s below) in
          let has : has_cell plan cell ≡ true = some_below_holds (step_count plan) (λ s. eqb (cell_at plan s) cell) s below (eq-eqb _ _ is) in
          let touches : shares_tick start end bounds (cell / max_jobs) ≡ true =
          (shares (cell / max_jobs) inside).1 (tick, in_span, rw is at in-interval) in
          (omega arith, rw (has, touches))

      found : (cell s : ℕ) → s < step_count plan → cell_at plan s ≡ cell
          → (tick : ℕ) × InSpan start end tick × InInterval bounds (cell / max_jobs) tick → StepSharesTick bounds plan start end cell
      found cell s step is (tick, in_span, in-interval) = (s, step, is, tick, in_span, rw is in-interval)

      member : (cell : ℕ) → cell < interval_count bounds * max_jobs
          → (has_cell plan cell && shares_tick start end bounds (cell / max_jobs)) ≡ true → StepSharesTick bounds plan start end cell
      member cell below e =
          let (has, touches) = both_true (has_cell plan cell) _ e in
          let (s, step, same) = some_below_found (step_count plan) (λ s. eqb (cell_at plan s) cell) has in
          found cell s step (eqb-true (cell_at plan s) cell same) ((shares (cell / max_jobs) (omega arith)).0 touches)

-- a deadline is not none
never : {A : Type 0} {time : ℕ} → Some time ≡ None → A
never is = let z : ◌≡◌ {A = ℕ} 0 1 = cc is in absurd (omega (arith, z))

-- the nearest deadline, or none
pub nearest : (jobs : List Job) (start : ℕ) → IsNearest jobs start (nearest_answer (nearest_deadline jobs start))
nearest jobs start = go (nearest_deadline jobs start) refl
  where
    go : (found : Option ℕ) → nearest_deadline jobs start ≡ found → IsNearest jobs start (nearest_answer found)
    go none e =
        record {
          none_exactly_when = (λ is j below. leb-false _ _ (least_below_fails _ _ _ e j below), λ all. refl);
          of_a_job = λ time is. never (sym is);
          at_or_after = λ time is. never (sym is);
          none_nearer = λ time is. never (sym is);
        }
    go (some least) e =
        let law = least_below_found (length jobs) (λ j. (job_of jobs j).deadline) (λ j. leb start (job_of jobs j).deadline) least e in
        let (j, below, late, is_least) = law.found in
        let low : start ≤ (job_of jobs j).deadline = leb-true start (job_of jobs j).deadline late in
        record {
          none_exactly_when = (λ is. never is, λ all. absurd (omega (arith, all j below)));
          of_a_job = λ time is. let same : least ≡ time = cc is in (j, below, is_least ∙ same);
          at_or_after = λ time is. let same : least ≡ time = cc is in omega arith;
          none_nearer = λ time is k inside after.
              let same : least ≡ time = cc is in
              omega (arith, law.lowest k inside (le-leb start (job_of jobs k).deadline after));
        }
