-- Laws of the intervals that a job is open in: the bounds before a time, and that the intervals between the two bounds are
-- those that the job is open in.
-- Assumes nothing.
use mathlib.Core.Path.{◌≡◌, ◌∙◌}
use mathlib.Core.Bool.{and-false}
use mathlib.Core.Logic.{◌⊎◌, inl, inr}
use mathlib.Core.List.{List}
use Prim.Native.Nat.{ℕ, ◌+◌, ◌-◌, ◌<◌, ◌≤◌}
use native.Mathlib.Omega.{arith}
use lib.ListN.{get_or}
use lib.Dec.{leb}
use borrow.Author.Tests.{lt-ltb, le-ltb, le-leb, lt-leb, leb-true, leb-false}
use Rattle.model.specs.Limits.{max_jobs}
use Rattle.model.specs.Search.{first_below}
use Rattle.model.proofs.Numbers.{lt_or_le, rises_between}
use Rattle.model.proofs.Search.{FirstBelow, first_below_law}
use Rattle.intervals.specs.Times.{SmallBounds}
use Rattle.job_sets.specs.IntervalSets.{in_range, AddedRange}
use Rattle.job_sets.proofs.Ranges.{range_has}
use Rattle.job_records.specs.SetsHave.{SetsHave, with_job_in}
use Rattle.job_records.specs.TestedJobs.{EndsBy, opens_in}

-- The number of bounds before a time: those below the number lie before it, the others do not.
pub record BoundsBefore (bounds : ℕ) (times : List ℕ) (time number : ℕ) : Type 0 where
  pub within : number ≤ bounds
  pub before : (i : ℕ) → i < number → get_or times i 0 < time
  pub after : (i : ℕ) → number ≤ i → i < bounds → time ≤ get_or times i 0

module _ (bounds : ℕ) (times : List ℕ) (time : ℕ) where
  -- the first bound that is not before the time has that number
  pub bounds_before : SmallBounds bounds times → (number : ℕ) → number ≡ first_below bounds (λ i. leb time (get_or times i 0))
      → BoundsBefore bounds times time number
  bounds_before small number found = record {
    within = first.within;
    before = λ i under. leb-false time (get_or times i 0) (first.before i under);
    after = λ i past inside. from i (lt_or_le number i) past inside;
  }
    where
      first : FirstBelow bounds (λ i. leb time (get_or times i 0)) number
      first = rw found (first_below_law bounds (λ i. leb time (get_or times i 0)))

      here : number < bounds → time ≤ get_or times number 0
      here inside = leb-true time (get_or times number 0) (first.here inside)

      from : (i : ℕ) → (number < i) ⊎ (i ≤ number) → number ≤ i → i < bounds → time ≤ get_or times i 0
      from i (inl less) past inside =
          omega (arith, here (omega arith), rises_between (λ k. get_or times k 0) bounds small.rising.rises number i less inside)
      from i (inr least) past inside = let same : i ≡ number = omega arith in rw same (here (omega arith))

  -- the bound at the number is the time, or no bound is
  module _ (number : ℕ) (split : BoundsBefore bounds times time number) (small : SmallBounds bounds times) where
    pub ends_at : number < bounds → get_or times number 0 ≡ time → EndsBy bounds times time number
    ends_at below same = record {
      within = omega arith;
      before = λ i under. up_to i (lt_or_le (i + 1) number) under;
      after = λ i past inside. omega (arith, rises_between (λ k. get_or times k 0) bounds small.rising.rises number (i + 1) (omega arith) (omega arith));
    }
      where
        up_to : (i : ℕ) → (i + 1 < number) ⊎ (number ≤ i + 1) → i < number → get_or times (i + 1) 0 ≤ time
        up_to i (inl less) under = omega (arith, split.before (i + 1) less)
        up_to i (inr last) under = let at : i + 1 ≡ number = omega arith in rw at (omega arith)

    pub ends_before : (number < bounds → get_or times number 0 ≡ time → ⊥) → EndsBy bounds times time (number - 1)
    ends_before other = record {
      within = omega (arith, split.within);
      before = λ i under. omega (arith, split.before (i + 1) (omega arith));
      after = λ i past inside. from i (lt_or_le number (i + 1)) past inside;
    }
      where
        apart : (i : ℕ) → i ≡ number → i < bounds → get_or times i 0 ≡ time → ⊥
        apart i at inside same = other (omega arith) (rw at at same)

        from : (i : ℕ) → (number < i + 1) ⊎ (i + 1 ≤ number) → number - 1 ≤ i → i < bounds - 1 → time < get_or times (i + 1) 0
        from i (inl less) past inside =
            omega (arith, split.after (i + 1) (omega arith) (omega arith), rises_between (λ k. get_or times k 0) bounds small.rising.rises number (i + 1) less (omega arith), split.after number (omega arith) (omega arith))
        from i (inr last) past inside =
            let at : i + 1 ≡ number = omega arith in
            omega (arith, split.after (i + 1) (omega arith) (omega arith), apart (i + 1) at (omega arith))

-- the intervals between the bounds are those that the job is open in
pub range_open : {sets next times : List ℕ} {j first end release deadline bounds : ℕ} → AddedRange sets next first end j → j < max_jobs
    → BoundsBefore bounds times release first → EndsBy bounds times deadline end
    → SetsHave next (with_job_in sets j (opens_in release deadline times bounds))
range_open {times = times} {first = first} {end = end} {release = release} {deadline = deadline} {bounds = bounds} added small starts ends =
    record {
      size = added.size;
      has = λ i k inside below. range_has added small i k ∙ rw (at i (lt_or_le i (bounds - 1)) (lt_or_le i first) (lt_or_le i end));
    }
  where
    at : (i : ℕ) → (i < bounds - 1) ⊎ (bounds - 1 ≤ i) → (i < first) ⊎ (first ≤ i) → (i < end) ⊎ (end ≤ i)
        → in_range first end i ≡ opens_in release deadline times bounds i
    at i (inr past) start final = rw (le-ltb i (bounds - 1) past, le-ltb i end (omega (arith, ends.within)), and-false)
    at i (inl below) (inl before) final =
        rw (lt-ltb i (bounds - 1) below, lt-leb first i before, lt-leb release (get_or times i 0) (starts.before i before))
    at i (inl below) (inr from) (inl under) =
        rw (lt-ltb i (bounds - 1) below, le-leb first i from, lt-ltb i end under, le-leb release (get_or times i 0) (starts.after i from (omega arith)), le-leb (get_or times (i + 1) 0) deadline (ends.before i under))
    at i (inl below) (inr from) (inr over) =
        rw (lt-ltb i (bounds - 1) below, le-leb first i from, le-ltb i end over, le-leb release (get_or times i 0) (starts.after i from (omega arith)), lt-leb (get_or times (i + 1) 0) deadline (ends.after i over below))
