-- Laws of the starts, taken one after another: which are a release, which jobs are released from the next on, what holds while no
-- window is overfull, and what is found.
-- Assumes nothing.
use mathlib.Core.Path.{◌≡◌, refl, sym, ◌∙◌, ap}
use mathlib.Core.Bool.{Bool, true, false}
use mathlib.Core.Logic.{◌⊎◌, inl, inr}
use mathlib.Core.List.{List}
use mathlib.Core.Option.{none, some}
use Rattle.std.specs.Prelude.{Option, Some, None}
use Prim.Native.Nat.{ℕ, suc, ◌+◌, ◌*◌, ◌<◌, ◌≤◌}
use native.Mathlib.Nat.{mul-le-mul}
use native.Mathlib.Omega.{arith}
use lib.ListN.{length}
use lib.Dec.{ltb, leb, eqb}
use borrow.Author.Tests.{lt-ltb, le-ltb, le-leb, eqb-true, eq-eqb}
use Rattle.model.specs.declared.Job.{Job}
use Rattle.model.specs.Limits.{max_jobs}
use Rattle.model.specs.Sum.{sum, only_if}
use Rattle.model.specs.Search.{some_below}
use Rattle.model.specs.Jobs.{job_of}
use Rattle.model.specs.Intervals.{interval_count, bound_at, OpenRange}
use Rattle.model.specs.Windows.{is_overfull, earliest_overfull}
use Rattle.model.proofs.Numbers.{lt_or_le, both_true, true≢false}
use Rattle.model.proofs.Sum.{sum_cong, sum_longer, sum_shorter, sum_mono, sum_const}
use Rattle.model.proofs.SumMore.{only_if_le, only_if_zero}
use Rattle.model.proofs.Search.{some_below_found, some_below_holds, some_below_fails}
use Rattle.model.proofs.Intervals.{open_range, bounds_rise, bounds_mono, number_rises}
use Rattle.model.proofs.Windows.{OverfullBetween}
use Rattle.job_sets.specs.declared.JobSet.{JobSet}
use Rattle.job_sets.specs.JobSets.{is_member, is_empty, least_member, all_jobs, in_both, in_first_only}
use Rattle.job_sets.specs.IntervalSets.{set_in}
use Rattle.job_sets.proofs.JobSets.{all_has, both_has, less_has, least_has, empty_has}
use Rattle.windows.specs.Additions.{released_from, is_new_release, additions_before, additions}
use Rattle.windows.specs.RunningSums.{jobs_inside}
use Rattle.windows.specs.WindowTests.{TestArrays, HasReleasedFrom, FirstOverfull, NoneOverfull, EndTested}
use Rattle.windows.proofs.Ends.{released_on, starts_with}
use Rattle.windows.proofs.DistinctReleases.{distinct_releases}
use Rattle.windows.proofs.Earliest.{earliest_is, earliest_none}

-- a bound is the release of some job
abbrev pub is_release : (jobs : List Job) → (bounds : List ℕ) → (i : ℕ) → Bool
is_release jobs bounds i = some_below (length jobs) (λ j. eqb (job_of jobs j).release (bound_at bounds i))

-- what was added for the starts before one
abbrev pub added_before : (jobs : List Job) → (bounds : List ℕ) → (start : ℕ) → ℕ
added_before jobs bounds start = sum start (λ i. only_if (is_release jobs bounds i) (released_from jobs (bound_at bounds i)))

-- no window from a start before this one is overfull, and each of their jobs was added once
pub record Passed (top : ℕ) (jobs : List Job) (bounds : List ℕ) (start : ℕ) (from : JobSet) (added : ℕ) : Type 0 where
  pub released : HasReleasedFrom jobs bounds from start
  pub fits : (i k : ℕ) → i < start → is_release jobs bounds i ≡ true → i ≤ k → k ≤ interval_count bounds
      → is_overfull top jobs (bound_at bounds i) (bound_at bounds k) ≡ false
  pub added_are : added ≡ added_before jobs bounds start

module _ {jobs : List Job} {bounds times cycles sets : List ℕ} {intervals : ℕ} (arrays : TestArrays jobs bounds times cycles sets intervals)
    (top : ℕ) where
  range_of : (j : ℕ) → j < length jobs → (lo : ℕ) × (hi : ℕ) × OpenRange jobs bounds j lo hi
  range_of j below = open_range arrays.bounds-of j below (arrays.valid.release_before_deadline j below)

  -- all jobs are released at the first bound or later
  pub all_released : HasReleasedFrom jobs bounds all_jobs 0
  all_released j below =
      let (lo, hi, range) = range_of j below in
      all_has j (omega (arith, arrays.valid.few))
      ∙ sym (le-leb (bound_at bounds 0) (job_of jobs j).release
      (omega (arith, range.starts, bounds_mono arrays.bounds-of 0 lo (omega arith) (omega (arith, range.nonempty, range.within)))))

  pub passed_none : Passed top jobs bounds 0 all_jobs 0
  unfolding sum
  passed_none =
      record {
        released = all_released;
        fits = λ i k before. absurd (omega arith);
        added_are = refl;
      }

  -- bounds differ from each other, and each release is one of them
  differ : (i k : ℕ) → i < interval_count bounds → k < interval_count bounds → bound_at bounds i ≡ bound_at bounds k → i ≡ k
  differ i k below other same = go (lt_or_le i k) (lt_or_le k i)
    where
      go : (i < k) ⊎ (k ≤ i) → (k < i) ⊎ (i ≤ k) → i ≡ k
      go (inl less) _ = absurd (omega (arith, bounds_rise arrays.bounds-of i k less (omega arith)))
      go (inr _) (inl less) = absurd (omega (arith, bounds_rise arrays.bounds-of k i less (omega arith)))
      go (inr most) (inr least) = omega arith

  found : (j : ℕ) → j < length jobs → (i : ℕ) × (i < interval_count bounds) × (bound_at bounds i ≡ (job_of jobs j).release)
  found j below = let (lo, hi, range) = range_of j below in (lo, omega (arith, range.nonempty, range.within), range.starts)

  -- for all starts one addition is made for each distinct release and each job released at or after it
  additions_are : added_before jobs bounds (interval_count bounds) ≡ additions jobs
  unfolding additions is_new_release
  additions_are =
      distinct_releases (λ j. (job_of jobs j).release) (bound_at bounds) (interval_count bounds) (released_from jobs) differ (length jobs) found

  -- and for the starts before a bound, one for each distinct release before it and each job released at or after that
  additions-before : (start : ℕ) → start ≤ interval_count bounds → added_before jobs bounds start ≡ additions_before jobs (bound_at bounds start)
  unfolding additions_before is_new_release
  additions-before start most =
      sum_cong start (λ i below. rw (lt-ltb (bound_at bounds i) (bound_at bounds start) (earlier i below)))
      ∙ sym (sum_shorter start (interval_count bounds) _ most
      (λ i past inside. rw (le-ltb (bound_at bounds i) (bound_at bounds start) (later i past inside)) (only_if_zero (is_release jobs bounds i))))
      ∙ distinct_releases (λ j. (job_of jobs j).release) (bound_at bounds) (interval_count bounds) counted differ (length jobs) found
    where
      counted : ℕ → ℕ
      counted time = only_if (ltb time (bound_at bounds start)) (released_from jobs time)

      earlier : (i : ℕ) → i < start → bound_at bounds i < bound_at bounds start
      earlier i below = bounds_rise arrays.bounds-of i start below (omega (arith, most, below))

      later : (i : ℕ) → start ≤ i → i < interval_count bounds → bound_at bounds start ≤ bound_at bounds i
      later i past inside = bounds_mono arrays.bounds-of start i past (omega arith)

  -- no more than one for each pair of jobs
  pub additions_few : additions jobs ≤ max_jobs * max_jobs
  unfolding additions released_from
  additions_few =
      let each : (j : ℕ) → only_if (is_new_release jobs j) (released_from jobs (job_of jobs j).release) ≤ length jobs = λ j.
      omega (
        arith,
        only_if_le (is_new_release jobs j) (released_from jobs (job_of jobs j).release),
        sum_mono (length jobs) {g = λ k. 1} (λ k below. only_if_le (leb (job_of jobs j).release (job_of jobs k).release) 1),
        sum_const (length jobs) 1,
      ) in
      omega (
        arith,
        sum_mono (length jobs) {g = λ j. length jobs} (λ j below. each j),
        sum_const (length jobs) (length jobs),
        mul-le-mul arrays.valid.few arrays.valid.few,
      )

  -- no window from a release before the start is overfull
  earlier_fit : (start : ℕ) (from : JobSet) (added : ℕ) → Passed top jobs bounds start from added → (j k : ℕ) → OverfullBetween top jobs j k
      → (job_of jobs j).release < bound_at bounds start → ⊥
  earlier_fit start from added passed j k law early =
      let (lo, hi, range) = range_of j law.from in
      let (first, last, other) = range_of k law.to in
      let before = number_rises arrays.bounds-of lo start (omega (arith, range.nonempty, range.within)) (omega (arith, range.starts)) in
      let later =
      number_rises arrays.bounds-of lo last (omega (arith, range.nonempty, range.within)) (omega (arith, range.starts, other.ends, law.later)) in
      let is : is_release jobs bounds lo ≡ true = some_below_holds (length jobs) _ j law.from (eq-eqb _ _ (sym range.starts)) in
      let fits = passed.fits lo last before is (omega arith) other.within in
      true≢false (sym law.overfull ∙ rw (← range.starts, ← other.ends) fits)

  counted_start : (start : ℕ) → start < intervals → start < interval_count bounds
  counted_start start inside = omega (arith, arrays.counted)

  module _ (start : ℕ) (inside : start < intervals) (from : JobSet) (released : HasReleasedFrom jobs bounds from start) where
    within : start < interval_count bounds
    within = counted_start start inside

    -- the jobs released from the next bound on
    pub next_released : HasReleasedFrom jobs bounds (in_first_only from (set_in sets start)) (suc start)
    next_released j below =
        let (lo, hi, range) = range_of j below in
        less_has from (set_in sets start) j
        ∙ rw (released j below, arrays.open_are.members start j within below) (released_on arrays.bounds-of range start within)

    -- a job released at this bound
    pub starts_here : (j : ℕ) → j < length jobs
        → is_member (in_both (set_in sets start) from) j ≡ eqb (job_of jobs j).release (bound_at bounds start)
    starts_here j below =
        let (lo, hi, range) = range_of j below in
        both_has (set_in sets start) from j
        ∙ rw (arrays.open_are.members start j within below, released j below) (starts_with arrays.bounds-of range start within)

    -- only jobs are
    pub starts_only : (j : ℕ) → is_member (in_both (set_in sets start) from) j ≡ true → j < length jobs
    starts_only j has =
        arrays.open_are.only start j within (both_true (is_member (set_in sets start) j) (is_member from j) (sym (both_has (set_in sets start) from j) ∙ has)).0

  module _ (start : ℕ) (inside : start < intervals) (from : JobSet) (added : ℕ) (passed : Passed top jobs bounds start from added) where
    inside_all : start < interval_count bounds
    inside_all = counted_start start inside

    -- there is one exactly where the set of the open ones released from here on is not empty
    pub no-release : is_empty (in_both (set_in sets start) from) ≡ true → is_release jobs bounds start ≡ false
    no-release empty = some_below_fails (length jobs) _ (λ j below. sym (starts_here start inside from passed.released j below) ∙ empty_has (in_both (set_in sets start) from) empty j)

    pub some_release : is_empty (in_both (set_in sets start) from) ≡ false → is_release jobs bounds start ≡ true
    some_release has_some =
        let set = in_both (set_in sets start) from in
        let has = (least_has set has_some).1 in
        let below = starts_only start inside from passed.released (least_member set) has in
        some_below_holds (length jobs) _ (least_member set) below (sym (starts_here start inside from passed.released (least_member set) below) ∙ has)

    -- this start is passed too, where none of its windows is overfull
    passed_next : (added' : ℕ) → added' ≡ added_before jobs bounds (suc start)
        → ((k : ℕ) → is_release jobs bounds start ≡ true → start ≤ k → k ≤ interval_count bounds
        → is_overfull top jobs (bound_at bounds start) (bound_at bounds k) ≡ false)
        → Passed top jobs bounds (suc start) (in_first_only from (set_in sets start)) added'
    passed_next added' are here =
        record {
          released = next_released start inside from passed.released;
          fits = λ i k before is low high. step i k before is low high (lt_or_le i start);
          added_are = are;
        }
      where
        step : (i k : ℕ) → i < suc start → is_release jobs bounds i ≡ true → i ≤ k → k ≤ interval_count bounds → (i < start) ⊎ (start ≤ i)
            → is_overfull top jobs (bound_at bounds i) (bound_at bounds k) ≡ false
        step i k before is low high (inl earlier) = passed.fits i k earlier is low high
        step i k before is low high (inr later) =
            let same : i ≡ start = omega arith in
            rw same (here k (rw same at is) (omega arith) high)

    -- a start that is no release is passed over
    pub passed_over : is_release jobs bounds start ≡ false → Passed top jobs bounds (suc start) (in_first_only from (set_in sets start)) added
    unfolding sum
    passed_over none_here =
        passed_next added (rw none_here (omega (arith, passed.added_are))) (λ k is. absurd (true≢false (sym is ∙ none_here)))

    module _ (is : is_release jobs bounds start ≡ true) where
      -- what was added is part of what can be
      within_all : (added' : ℕ) → added' ≤ released_from jobs (bound_at bounds start) → added + added' ≤ additions jobs
      unfolding sum
      within_all added' few =
          let most = sum_longer {k = suc start} (λ i. only_if (is_release jobs bounds i) (released_from jobs (bound_at bounds i))) inside_all in
          let here : added_before jobs bounds (suc start) ≡ added_before jobs bounds start + released_from jobs (bound_at bounds start) = rw is in
          omega (arith, here, most, additions_are, passed.added_are, few)

      pub added_within : (end : Option ℕ) (added' : ℕ) → EndTested top jobs bounds start end added' → added + added' ≤ additions jobs
      added_within None added' tested = within_all added' (omega (arith, tested.added_all))
      added_within (Some end) added' tested = within_all added' tested.added_most

      -- where one of its windows is overfull: the jobs inside that one
      pub added_until : (end added' : ℕ) → FirstOverfull top jobs bounds start end added'
          → added + added' ≡ additions_before jobs (bound_at bounds start) + jobs_inside jobs (bound_at bounds start) (bound_at bounds end)
      added_until end added' tested = omega (arith, passed.added_are, additions-before start (omega (arith, inside_all)), tested.added_inside)

      -- none of its windows is overfull
      pub passed_on : (added' : ℕ) → NoneOverfull top jobs bounds start added' → Passed top jobs bounds (suc start) (in_first_only from (set_in sets start)) (added + added')
      unfolding sum
      passed_on added' tested =
          passed_next (added + added') (rw is (omega (arith, passed.added_are, tested.added_all))) (λ k _ low high. tested.fits k low high)

      -- one is, and it is the earliest
      pub found_here : (end added' : ℕ) → FirstOverfull top jobs bounds start end added' → earliest_overfull top jobs ≡ some (record { start = bound_at bounds start; end = bound_at bounds end })
      found_here end added' tested =
          let (before, last) = tested.inside in
          let (j, below, starts) = some_below_found (length jobs) _ is in
          earliest_is arrays.valid _
          (record {
            release = (j, below, eqb-true _ _ starts);
            deadline = tested.deadline;
            later = bounds_rise arrays.bounds-of start end before (omega (arith, inside_all));
            overfull = tested.overfull;
            earliest-start = first_start;
            earliest-end = first_end;
          })
        where
          -- an overfull window starts at a release that is not passed yet
          first_start : (j k : ℕ) → OverfullBetween top jobs j k → bound_at bounds start ≤ (job_of jobs j).release
          first_start j k law = go (lt_or_le (job_of jobs j).release (bound_at bounds start))
            where
              go : ((job_of jobs j).release < bound_at bounds start) ⊎ (bound_at bounds start ≤ (job_of jobs j).release)
                  → bound_at bounds start ≤ (job_of jobs j).release
              go (inl early) = absurd (earlier_fit start from added passed j k law early)
              go (inr from-here) = from-here

          first_end : (k : ℕ) → k < length jobs → bound_at bounds start < (job_of jobs k).deadline
              → is_overfull top jobs (bound_at bounds start) (job_of jobs k).deadline ≡ true → bound_at bounds end ≤ (job_of jobs k).deadline
          first_end k below later full = go (lt_or_le (job_of jobs k).deadline (bound_at bounds end)) (range_of k below)
            where
              go : ((job_of jobs k).deadline < bound_at bounds end) ⊎ (bound_at bounds end ≤ (job_of jobs k).deadline)
                  → (lo : ℕ) × (hi : ℕ) × OpenRange jobs bounds k lo hi → bound_at bounds end ≤ (job_of jobs k).deadline
              go (inr from-there) range = from-there
              go (inl early) (lo, hi, range) =
                  let sooner = number_rises arrays.bounds-of hi end (omega (arith, range.within, inside_all)) (omega (arith, range.ends)) in
                  let after = number_rises arrays.bounds-of start hi (omega (arith, inside_all)) (omega (arith, range.ends)) in
                  let fits = tested.fits_before hi (omega arith) sooner in
                  absurd (true≢false (sym full ∙ rw (← range.ends) fits))

  -- all starts are passed
  pub passed_all : (from : JobSet) (added start : ℕ) → start ≡ intervals → Passed top jobs bounds start from added
      → (earliest_overfull top jobs ≡ none) × (added ≡ additions jobs)
  passed_all from added start whole passed = (
    earliest_none (λ j k law.
        let (lo, hi, range) = range_of j law.from in
        earlier_fit start from added passed j k law
        (omega (
          arith,
          range.starts,
          bounds_rise arrays.bounds-of lo start
              (omega (arith, range.nonempty, range.within, arrays.counted)) (omega (arith, range.nonempty, range.within, arrays.counted)),
        ))),
    passed.added_are ∙ ap (added_before jobs bounds) (whole ∙ arrays.counted) ∙ additions_are,
  )
