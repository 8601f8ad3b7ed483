-- Laws of the open sets: one job after another, as the code adds them; that they have the jobs that are open, where each job's
-- range is that of the intervals it is open in; and that the members of all of them are the open pairs.
-- Assumes nothing.
use mathlib.Core.Path.{◌≡◌, sym, ◌∙◌, ap}
use mathlib.Core.Bool.{Bool, true, false, ◌&&◌, and-false}
use mathlib.Core.Logic.{◌⊎◌, inl, inr, ◌↔◌}
use mathlib.Core.List.{List}
use Prim.Native.Nat.{ℕ, ◌+◌, ◌<◌, ◌≤◌}
use native.Mathlib.Omega.{arith}
use lib.ListN.{length, get_or, replicate, length-replicate}
use lib.Dec.{ltb}
use borrow.Author.Tests.{lt-ltb, le-ltb, le-leb, lt-leb}
use Rattle.model.specs.declared.Job.{Job}
use Rattle.model.specs.Limits.{max_jobs, max_intervals}
use Rattle.model.specs.Sum.{sum, only_if}
use Rattle.model.specs.Jobs.{job_of}
use Rattle.model.specs.Intervals.{interval_count, is_open, open_count, open_pairs, OpenRange}
use Rattle.model.proofs.Numbers.{lt_or_le, true_or_false, true≢false}
use Rattle.model.proofs.Sum.{sum_cong, sum_shorter}
use Rattle.job_sets.specs.declared.JobSet.{JobSet}
use Rattle.job_sets.specs.JobSets.{is_member, set_below, member_count, with_job}
use Rattle.job_sets.specs.IntervalSets.{set_words, set_in, in_range, AddedRange}
use Rattle.job_sets.proofs.JobSets.{member_past, below_none, below_more, below_same, below_past}
use Rattle.job_sets.proofs.IntervalSets.{zeros_are, sets_size, sets-at, sets_has, sets_are}
use Rattle.intervals.specs.OpenSets.{open_sets, HoldsOpen}

module _ (first last : List ℕ) where
  -- job j is open in interval i
  abbrev within : (i j : ℕ) → Bool
  within i j = in_range (get_or first j 0) (get_or last j 0) i

  pub open_none : replicate set_words 0 ≡ open_sets 0 first last
  open_none = sets_are _ _ (length-replicate {A = ℕ} set_words 0) (λ i inside. zeros_are i ∙ below_none (within i))

  -- one job more
  pub open_more : {sets next : List ℕ} {j : ℕ} → sets ≡ open_sets j first last → AddedRange sets next (get_or first j 0) (get_or last j 0) j
      → next ≡ open_sets (j + 1) first last
  open_more {sets} {next} {j} filled added =
      sets_are _ next added.size (λ i inside. go i inside (lt_or_le i (get_or first j 0)) (lt_or_le i (get_or last j 0)))
    where
      before : (i : ℕ) → i < max_intervals → set_in sets i ≡ set_below j (within i)
      before i inside = rw filled (sets-at (λ i k. ltb k j && within i k) i inside)

      go : (i : ℕ) → i < max_intervals → (i < get_or first j 0) ⊎ (get_or first j 0 ≤ i) → (i < get_or last j 0) ⊎ (get_or last j 0 ≤ i)
          → set_in next i ≡ set_below (j + 1) (within i)
      go i inside (inl early) final =
          added.elsewhere i (λ from below. omega arith)
          ∙ (before i inside ∙ below_same (within i) j (rw (lt-leb (get_or first j 0) i early)))
      go i inside (inr from) (inl below) =
          added.here i from below
          ∙ (ap (λ (set : JobSet). with_job set j) (before i inside)
          ∙ below_more (within i) j (rw (le-leb (get_or first j 0) i from, lt-ltb i (get_or last j 0) below)))
      go i inside (inr from) (inr past) =
          added.elsewhere i (λ from below. omega arith)
          ∙ (before i inside ∙ below_same (within i) j (rw (le-ltb i (get_or last j 0) past, and-false)))

  pub open_whole : {sets : List ℕ} {j jobs : ℕ} → j ≤ jobs → jobs ≤ j → sets ≡ open_sets j first last → sets ≡ open_sets jobs first last
  open_whole {sets} {j} {jobs} low high filled = let all : jobs ≡ j = omega arith in rw all filled

-- a range has an interval where the job is open in it
range_open : {jobs : List Job} {bounds : List ℕ} {j lo hi : ℕ} → OpenRange jobs bounds j lo hi → (i : ℕ) → i < interval_count bounds
    → in_range lo hi i ≡ is_open bounds (job_of jobs j) i
range_open {jobs} {bounds} {j} {lo} {hi} range i inside =
    go (lt_or_le i lo) (lt_or_le i hi) (true_or_false (is_open bounds (job_of jobs j) i))
  where
    exactly : (is_open bounds (job_of jobs j) i ≡ true) ↔ ((lo ≤ i) × (i < hi))
    exactly = range.exactly i inside

    go : (i < lo) ⊎ (lo ≤ i) → (i < hi) ⊎ (hi ≤ i) → (is_open bounds (job_of jobs j) i ≡ true) ⊎ (is_open bounds (job_of jobs j) i ≡ false)
        → in_range lo hi i ≡ is_open bounds (job_of jobs j) i
    go (inl early) final (inl is) = absurd (omega (arith, (exactly.0 is).0))
    go (inl early) final (inr shut) = rw (lt-leb lo i early, shut)
    go (inr from) (inl below) is = rw (le-leb lo i from, lt-ltb i hi below, exactly.1 (from, below))
    go (inr from) (inr past) (inl is) = absurd (omega (arith, (exactly.0 is).1))
    go (inr from) (inr past) (inr shut) = rw (le-ltb i hi past, and-false, shut)

-- the sets have the jobs that are open
pub open_held : {jobs : List Job} {bounds : List ℕ} (first last : List ℕ) → length jobs ≤ max_jobs → interval_count bounds ≤ max_intervals
    → ((j : ℕ) → j < length jobs → OpenRange jobs bounds j (get_or first j 0) (get_or last j 0))
    → HoldsOpen jobs bounds (open_sets (length jobs) first last)
open_held {jobs} {bounds} first last few_jobs few_intervals ranges = record {
  size = sets_size _;
  members = λ i j inside below. sets_has _ i j (omega arith) (omega arith)
      ∙ rw (lt-ltb j (length jobs) below) (range_open (ranges j below) i inside);
  only = λ i j inside has. go i j inside has (lt_or_le j (length jobs));
}
  where
    go : (i j : ℕ) → i < interval_count bounds → is_member (set_in (open_sets (length jobs) first last) i) j ≡ true
        → (j < length jobs) ⊎ (length jobs ≤ j) → j < length jobs
    go i j inside has (inl below) = below
    go i j inside has (inr past) =
        let here = sets-at (λ i j. ltb j (length jobs) && within first last i j) i (omega arith) in
        let none = ap (λ (set : JobSet). is_member set j) here ∙ below_past (within first last i) (length jobs) j past in
        absurd (true≢false (sym has ∙ none))

-- their members are the open pairs
module _ {jobs : List Job} {bounds sets : List ℕ} (held : HoldsOpen jobs bounds sets) where
  no_others : (i j : ℕ) → i < interval_count bounds → length jobs ≤ j → is_member (set_in sets i) j ≡ false
  no_others i j inside past = go (true_or_false (is_member (set_in sets i) j))
    where
      go : (is_member (set_in sets i) j ≡ true) ⊎ (is_member (set_in sets i) j ≡ false) → is_member (set_in sets i) j ≡ false
      go (inl has) = absurd (omega (arith, held.only i j inside has))
      go (inr none) = none

  open_count_is : (i : ℕ) → i < interval_count bounds → member_count (set_in sets i) ≡ open_count bounds jobs i
  unfolding open_count
  open_count_is i inside = go (lt_or_le max_jobs (length jobs))
    where
      go : (max_jobs < length jobs) ⊎ (length jobs ≤ max_jobs)
          → member_count (set_in sets i) ≡ sum (length jobs) (λ j. only_if (is_open bounds (job_of jobs j) i) 1)
      go (inl many) =
          sum_cong max_jobs (λ j below. rw (held.members i j inside (omega arith)))
          ∙ sym (sum_shorter max_jobs (length jobs) _ (omega arith)
          (λ j past below. rw (← held.members i j inside below, member_past (set_in sets i) j past)))
      go (inr few) =
          sum_shorter (length jobs) max_jobs _ few (λ j past below. rw (no_others i j inside past))
          ∙ sum_cong (length jobs) (λ j below. rw (held.members i j inside below))

  pub open_pairs_are : sum (interval_count bounds) (λ i. member_count (set_in sets i)) ≡ open_pairs bounds jobs
  unfolding open_pairs
  open_pairs_are = sum_cong (interval_count bounds) open_count_is
