-- Laws of the sum as a window's end moves on: which jobs come in, and that it stays the cycles of the jobs inside.
-- Assumes nothing.
use mathlib.Core.Path.{◌≡◌, refl, sym, ◌∙◌}
use mathlib.Core.Bool.{true, false, ◌&&◌}
use mathlib.Core.Logic.{◌⊎◌, inl, inr}
use mathlib.Core.List.{List}
use Prim.Native.Nat.{ℕ, suc, ◌+◌, ◌<◌, ◌≤◌}
use native.Mathlib.Omega.{arith}
use lib.ListN.{length, get_or}
use lib.Dec.{leb, eqb}
use borrow.Author.Tests.{eqb-true, lt-ltb, le-ltb}
use Rattle.model.specs.declared.Job.{Job}
use Rattle.model.specs.Jobs.{job_of}
use Rattle.model.specs.Intervals.{interval_count, bound_at, OpenRange}
use Rattle.model.specs.Windows.{cycles_inside}
use Rattle.model.proofs.Numbers.{lt_or_le, both_true, true_or_false, true≢false}
use Rattle.model.proofs.Intervals.{open_range, bounds_rise, bounds_mono, number_mono}
use Rattle.job_sets.specs.declared.JobSet.{JobSet}
use Rattle.job_sets.specs.JobSets.{is_member, is_empty, least_member, member_count, in_both}
use Rattle.job_sets.specs.IntervalSets.{set_in, leaving_set}
use Rattle.job_sets.proofs.JobSets.{both_has, less_has, least_has}
use Rattle.windows.specs.RunningSums.{RunningSum, jobs_inside, total_over}
use Rattle.windows.specs.WindowTests.{TestArrays, HasReleasedFrom}
use Rattle.windows.proofs.Ends.{ends_with}
use Rattle.windows.proofs.InsideSums.{total_next}
use Rattle.windows.proofs.SetTotals.{total_tested}

-- The jobs of a set that leave with an interval.
abbrev pub ended_with : (sets : List ℕ) → (intervals : ℕ) → (from : JobSet) → (last : ℕ) → JobSet
ended_with sets intervals from last = in_both (leaving_set intervals sets last) from

module _ {jobs : List Job} {bounds times cycles sets : List ℕ} {intervals : ℕ} (arrays : TestArrays jobs bounds times cycles sets intervals) where
  -- a job that leaves with an interval has its deadline at the interval's end
  leaves : (last j : ℕ) → last < interval_count bounds → j < length jobs
      → is_member (leaving_set (interval_count bounds) sets last) j ≡ eqb (job_of jobs j).deadline (bound_at bounds (suc last))
  leaves last j inside below =
      go (lt_or_le (suc last) (interval_count bounds))
      (open_range arrays.bounds-of j below (arrays.valid.release_before_deadline j below))
    where
      go : (suc last < interval_count bounds) ⊎ (interval_count bounds ≤ suc last) → (lo : ℕ) × (hi : ℕ) × OpenRange jobs bounds j lo hi
          → is_member (leaving_set (interval_count bounds) sets last) j ≡ eqb (job_of jobs j).deadline (bound_at bounds (suc last))
      go (inl next) (lo, hi, range) =
          rw (lt-ltb (suc last) (interval_count bounds) next)
          (less_has (set_in sets last) (set_in sets (suc last)) j
          ∙ rw (arrays.open_are.members last j inside below, arrays.open_are.members (suc last) j next below)
          (rw (lt-ltb (suc last) (interval_count bounds) next) at (ends_with arrays.bounds-of range last inside)))
      go (inr none) (lo, hi, range) =
          rw (le-ltb (suc last) (interval_count bounds) none)
          (arrays.open_are.members last j inside below
          ∙ (rw (le-ltb (suc last) (interval_count bounds) none) at (ends_with arrays.bounds-of range last inside)))

  -- and only jobs do
  leaves_only : (last j : ℕ) → last < interval_count bounds → length jobs ≤ j → is_member (leaving_set (interval_count bounds) sets last) j ≡ false
  leaves_only last j inside past = go (lt_or_le (suc last) (interval_count bounds)) (true_or_false (is_member (set_in sets last) j))
    where
      go : (suc last < interval_count bounds) ⊎ (interval_count bounds ≤ suc last)
          → (is_member (set_in sets last) j ≡ true) ⊎ (is_member (set_in sets last) j ≡ false)
          → is_member (leaving_set (interval_count bounds) sets last) j ≡ false
      go next (inl has) = absurd (omega (arith, arrays.open_are.only last j inside has))
      go (inl next) (inr lacks) =
          rw (lt-ltb (suc last) (interval_count bounds) next) (less_has (set_in sets last) (set_in sets (suc last)) j ∙ rw lacks)
      go (inr none) (inr lacks) = rw (le-ltb (suc last) (interval_count bounds) none) lacks

  -- with the jobs released at or after a start
  module _ (from : JobSet) (start last : ℕ) (released : HasReleasedFrom jobs bounds from start) (inside : last < intervals) where
    abbrev ended : JobSet
    ended = ended_with sets intervals from last

    within : last < interval_count bounds
    within = omega (arith, arrays.counted)

    ended_has : (j : ℕ) → j < length jobs
        → is_member ended j ≡ (eqb (job_of jobs j).deadline (bound_at bounds (suc last)) && leb (bound_at bounds start) (job_of jobs j).release)
    ended_has j below = both_has (leaving_set intervals sets last) from j ∙ rw (arrays.counted, leaves last j within below, released j below)

    ended_only : (j : ℕ) → length jobs ≤ j → is_member ended j ≡ false
    ended_only j past = both_has (leaving_set intervals sets last) from j ∙ rw (arrays.counted, leaves_only last j within past)

    next_below : suc last < length bounds
    next_below = omega (arith, within)

    -- a deadline up to the next end is one up to this end, or the next end
    between : (j : ℕ) → j < length jobs → (job_of jobs j).deadline ≤ bound_at bounds (suc last)
        → ((job_of jobs j).deadline ≤ bound_at bounds last) ⊎ ((job_of jobs j).deadline ≡ bound_at bounds (suc last))
    between j below high = go (arrays.bounds-of.deadline_found j below)
      where
        go : (k : ℕ) × (k < length bounds) × (bound_at bounds k ≡ (job_of jobs j).deadline)
            → ((job_of jobs j).deadline ≤ bound_at bounds last) ⊎ ((job_of jobs j).deadline ≡ bound_at bounds (suc last))
        go (k, number, is) = decide (lt_or_le last k)
          where
            decide : (last < k) ⊎ (k ≤ last)
                → ((job_of jobs j).deadline ≤ bound_at bounds last) ⊎ ((job_of jobs j).deadline ≡ bound_at bounds (suc last))
            decide (inl later) =
                let least = number_mono arrays.bounds-of k (suc last) number (omega (arith, is)) in
                let same : k ≡ suc last = omega arith in
                inr (rw same at (sym is))
            decide (inr early) = inl (omega (arith, is, bounds_mono arrays.bounds-of k last early (omega (arith, next_below))))

    pub rises : bound_at bounds last < bound_at bounds (suc last)
    rises = bounds_rise arrays.bounds-of last (suc last) (omega arith) next_below

    -- the sum with the jobs that end there
    pub sum_next : {total added : ℕ} → RunningSum jobs (bound_at bounds start) (bound_at bounds last) total added
        → RunningSum jobs (bound_at bounds start) (bound_at bounds (suc last))
        (total + total_over (ended_with sets intervals from last) cycles) (added + member_count (ended_with sets intervals from last))
    unfolding cycles_inside jobs_inside total_over
    sum_next running =
        record {
          cycles-inside =
              rw (
                running.cycles-inside,
                total_tested ended (length jobs) _ (λ j. get_or cycles j 0) (λ j. (job_of jobs j).cycles)
                    arrays.valid.few ended_has ended_only arrays.cycles_are,
              )
              (sym (total_next jobs (λ j. (job_of jobs j).cycles) (bound_at bounds start) (bound_at bounds last) (bound_at bounds (suc last)) rises between));
          added_once =
              rw (running.added_once, total_tested ended (length jobs) _ (λ j. 1) (λ j. 1) arrays.valid.few ended_has ended_only (λ j below. refl))
              (sym (total_next jobs (λ j. 1) (bound_at bounds start) (bound_at bounds last) (bound_at bounds (suc last)) rises between));
        }

    -- a job that comes in has its deadline there
    pub comes_in : is_empty (ended_with sets intervals from last) ≡ false → (k : ℕ) × (k < length jobs) × ((job_of jobs k).deadline ≡ bound_at bounds (suc last))
    comes_in some = go (lt_or_le (least_member ended) (length jobs))
      where
        has : is_member ended (least_member ended) ≡ true
        has = (least_has ended some).1

        go : (least_member ended < length jobs) ⊎ (length jobs ≤ least_member ended)
            → (k : ℕ) × (k < length jobs) × ((job_of jobs k).deadline ≡ bound_at bounds (suc last))
        go (inl below) =
            let tests = both_true _ _ (sym (ended_has (least_member ended) below) ∙ has) in
            (least_member ended, below, eqb-true _ _ tests.0)
        go (inr past) = absurd (true≢false (sym has ∙ ended_only (least_member ended) past))
