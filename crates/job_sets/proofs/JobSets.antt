-- Laws of the members of a set: of the set of the jobs that pass a test, of one job more and one less, of two sets together,
-- how many there are, the least, and that two sets with the same members are equal.
-- Assumes nothing.
use mathlib.Core.Path.{◌≡◌, refl, sym, ◌∙◌, ap}
use mathlib.Core.Bool.{Bool, true, false, not, ◌&&◌, ◌||◌, and-false}
use mathlib.Core.Logic.{◌⊎◌, inl, inr}
use Prim.Native.Nat.{ℕ, zero, suc, ◌+◌, ◌^◌, ◌<◌, ◌≤◌}
use native.Mathlib.Nat.{mul-one}
use native.Mathlib.Decide.{ℕ_discrete}
use native.Mathlib.Omega.{arith}
use lib.Dec.{ltb, eqb}
use borrow.Author.Tests.{lt-ltb, le-ltb, eq-eqb, ne_eqb, not-true, not-false}
use Rattle.model.specs.Limits.{max_jobs}
use Rattle.model.specs.Sum.{only_if}
use Rattle.model.specs.Search.{some_below}
use Rattle.model.proofs.Numbers.{lt_or_le, true≢false}
use Rattle.model.proofs.Sum.{sum_mono, sum_const, sum_update}
use Rattle.model.proofs.Search.{some_below_none, some_below_fails, FirstBelow, first_below_law}
use Rattle.model.proofs.OpenSets.{bits_below, bits_at}
use Rattle.job_sets.specs.declared.JobSet.{JobSet}
use Rattle.job_sets.specs.JobSets.{is_member, set_of, set_below, member_count, least_member, is_empty, no_jobs, all_jobs, with_job, without_job, in_both, in_either, in_first_only}
use Rattle.job_sets.proofs.Words.{bit, same_bits}

-- a job below the limit is a member where its bit is set, and no number from the limit on is one
pub member_bit : (set : JobSet) (j : ℕ) → j < max_jobs → is_member set j ≡ eqb (bit j set.word) 1
unfolding is_member
member_bit set j below = rw (lt-ltb j max_jobs below)

pub member_past : (set : JobSet) (j : ℕ) → max_jobs ≤ j → is_member set j ≡ false
unfolding is_member
member_past set j past = rw (le-ltb j max_jobs past)

pub member_small : (set : JobSet) (j : ℕ) → is_member set j ≡ true → j < max_jobs
member_small set j has = go (lt_or_le j max_jobs)
  where
    go : (j < max_jobs) ⊎ (max_jobs ≤ j) → j < max_jobs
    go (inl below) = below
    go (inr past) = absurd (true≢false (sym has ∙ member_past set j past))

-- a bit as a test
bit_test : (t : Bool) → eqb (only_if t 1) 1 ≡ t
bit_test true = refl
bit_test false = refl

bit_tested : (b : ℕ) (t : Bool) → b < 2 → eqb b 1 ≡ t → b ≡ only_if t 1
bit_tested zero t small e = rw (← e)
bit_tested (suc zero) t small e = rw (← e)
bit_tested (suc (suc b)) t small e = absurd (omega arith)

-- the set of the jobs that pass a test has these and no others
pub member_of : (test : ℕ → Bool) (j : ℕ) → j < max_jobs → is_member (set_of test) j ≡ test j
unfolding set_of
member_of test j below = rw (member_bit (set_of test) j below, bits_at test max_jobs j below) (bit_test (test j))

member_any : (test : ℕ → Bool) (j : ℕ) → (max_jobs ≤ j → test j ≡ false) → is_member (set_of test) j ≡ test j
member_any test j none = go (lt_or_le j max_jobs)
  where
    go : (j < max_jobs) ⊎ (max_jobs ≤ j) → is_member (set_of test) j ≡ test j
    go (inl below) = member_of test j below
    go (inr past) = member_past (set_of test) j past ∙ sym (none past)

-- and its word is a machine word
pub set_fits : (test : ℕ → Bool) → (set_of test).word < 2 ^ max_jobs
unfolding set_of
set_fits test = bits_below test max_jobs

-- two sets with the same members are equal
of_word : ℕ → JobSet
of_word word = record { word = word }

pub same_members : (a b : JobSet) → a.word < 2 ^ max_jobs → b.word < 2 ^ max_jobs → ((j : ℕ) → j < max_jobs → is_member a j ≡ is_member b j) → a ≡ b
unfolding of_word
same_members a b fits-a fits-b same =
    ap of_word (same_bits max_jobs a.word b.word fits-a fits-b
    (λ j below. bit_tested (bit j a.word) (is_member a j) (omega arith) (sym (member_bit a j below))
    ∙ rw (same j below) (sym (bit_tested (bit j b.word) (is_member b j) (omega arith) (sym (member_bit b j below))))))

pub set_is : (set : JobSet) (test : ℕ → Bool) → set.word < 2 ^ max_jobs → ((j : ℕ) → j < max_jobs → is_member set j ≡ test j) → set ≡ set_of test
set_is set test fits same = same_members set (set_of test) fits (set_fits test) (λ j below. same j below ∙ sym (member_of test j below))

-- tests that agree give the same set
pub set_cong : (f g : ℕ → Bool) → ((j : ℕ) → j < max_jobs → f j ≡ g j) → set_of f ≡ set_of g
set_cong f g same = set_is (set_of f) g (set_fits f) (λ j below. member_of f j below ∙ same j below)

-- no job, and every job
pub none_has : (j : ℕ) → is_member no_jobs j ≡ false
none_has j = member_any (λ i. false) j (λ past. refl)

pub all_has : (j : ℕ) → j < max_jobs → is_member all_jobs j ≡ true
all_has = member_of (λ i. true)

-- one job more
pub with_has : (set : JobSet) (job j : ℕ) → job < max_jobs → is_member (with_job set job) j ≡ (eqb j job || is_member set j)
with_has set job j below =
    member_any (λ i. eqb i job || is_member set i) j (λ past. rw (ne_eqb j job (λ e. omega arith)) (member_past set j past))

pub with_here : (set : JobSet) (job : ℕ) → job < max_jobs → is_member (with_job set job) job ≡ true
with_here set job below = rw (with_has set job job below, eq-eqb job job refl)

pub with_other : (set : JobSet) (job j : ℕ) → job < max_jobs → (j ≡ job → ⊥) → is_member (with_job set job) j ≡ is_member set j
with_other set job j below other = rw (with_has set job j below, ne_eqb j job other)

-- one job less
pub without_has : (set : JobSet) (job j : ℕ) → is_member (without_job set job) j ≡ (not (eqb j job) && is_member set j)
without_has set job j =
    member_any (λ i. not (eqb i job) && is_member set i) j (λ past. rw (member_past set j past) (and-false (not (eqb j job))))

pub without_here : (set : JobSet) (job : ℕ) → is_member (without_job set job) job ≡ false
without_here set job = rw (without_has set job job, eq-eqb job job refl)

pub without_other : (set : JobSet) (job j : ℕ) → (j ≡ job → ⊥) → is_member (without_job set job) j ≡ is_member set j
without_other set job j other = rw (without_has set job j, ne_eqb j job other)

-- two sets together
pub both_has : (a b : JobSet) (j : ℕ) → is_member (in_both a b) j ≡ (is_member a j && is_member b j)
both_has a b j = member_any (λ i. is_member a i && is_member b i) j (λ past. rw (member_past a j past))

pub either_has : (a b : JobSet) (j : ℕ) → is_member (in_either a b) j ≡ (is_member a j || is_member b j)
either_has a b j = member_any (λ i. is_member a i || is_member b i) j (λ past. rw (member_past a j past, member_past b j past))

pub less_has : (a b : JobSet) (j : ℕ) → is_member (in_first_only a b) j ≡ (is_member a j && not (is_member b j))
less_has a b j = member_any (λ i. is_member a i && not (is_member b i)) j (λ past. rw (member_past a j past))

-- how many members there are
member_few : (t : Bool) → only_if t 1 ≤ 1
member_few true = omega arith
member_few false = omega arith

pub count_most : (set : JobSet) → member_count set ≤ max_jobs
count_most set = rw (sum_const max_jobs 1, mul-one) at (sum_mono max_jobs {g = λ j. 1} (λ j below. member_few (is_member set j)))

pub count_with : (set : JobSet) (job : ℕ) → job < max_jobs → is_member set job ≡ false → member_count (with_job set job) ≡ member_count set + 1
count_with set job below new =
    sum_update max_jobs (λ j. only_if (is_member set j) 1) (λ j. only_if (is_member (with_job set job) j) 1) job 1 below
    (rw (with_here set job below, new)) (λ j inside other. rw (with_other set job j below other))

pub count_without : (set : JobSet) (job : ℕ) → is_member set job ≡ true → member_count set ≡ member_count (without_job set job) + 1
count_without set job has =
    sum_update max_jobs (λ j. only_if (is_member (without_job set job) j) 1) (λ j. only_if (is_member set j) 1) job 1 (member_small set job has)
    (rw (without_here set job, has)) (λ j inside other. rw (without_other set job j other))

-- an empty set has no member, and one that is not empty has its least
pub empty_has : (set : JobSet) → is_empty set ≡ true → (j : ℕ) → is_member set j ≡ false
empty_has set empty j = go (lt_or_le j max_jobs)
  where
    go : (j < max_jobs) ⊎ (max_jobs ≤ j) → is_member set j ≡ false
    go (inl below) = some_below_none max_jobs (is_member set) (not-true (some_below max_jobs (is_member set)) empty) j below
    go (inr past) = member_past set j past

pub least_has : (set : JobSet) → is_empty set ≡ false → (least_member set < max_jobs) × (is_member set (least_member set) ≡ true)
least_has set some = go (first_below_law max_jobs (is_member set)) (lt_or_le (least_member set) max_jobs)
  where
    go : FirstBelow max_jobs (is_member set) (least_member set) → (least_member set < max_jobs) ⊎ (max_jobs ≤ least_member set)
        → (least_member set < max_jobs) × (is_member set (least_member set) ≡ true)
    go law (inl below) = (below, law.here below)
    go law (inr past) =
        let none = some_below_fails max_jobs (is_member set) (λ j below. law.before j (omega arith)) in
        absurd (true≢false (sym (not-false (some_below max_jobs (is_member set)) some) ∙ none))

-- The set of the jobs below a number that pass a test: before the first job, one more or the same, and past the last.
module _ (test : ℕ → Bool) where
  pub below_none : no_jobs ≡ set_below 0 test
  below_none = set_cong (λ j. false) (λ j. ltb j 0 && test j) (λ j below. rw (le-ltb j 0 (omega arith)))

  pub below_more : (i : ℕ) → test i ≡ true → with_job (set_below i test) i ≡ set_below (i + 1) test
  below_more i passes = set_cong _ _ (λ j below. rw (member_of (λ j. ltb j i && test j) j below) (go j (ℕ_discrete j i) (lt_or_le j i)))
    where
      go : (j : ℕ) → Dec (j ≡ i) → (j < i) ⊎ (i ≤ j) → (eqb j i || (ltb j i && test j)) ≡ (ltb j (i + 1) && test j)
      go j (yes here) either = rw (eq-eqb j i here, lt-ltb j (i + 1) (omega arith), here, passes)
      go j (no other) (inl before) = rw (ne_eqb j i other, lt-ltb j i before, lt-ltb j (i + 1) (omega arith))
      go j (no other) (inr after) = rw (ne_eqb j i other, le-ltb j i after, le-ltb j (i + 1) (omega (arith, other)))

  pub below_same : (i : ℕ) → test i ≡ false → set_below i test ≡ set_below (i + 1) test
  below_same i fails = set_cong _ _ (λ j below. go j (ℕ_discrete j i) (lt_or_le j i))
    where
      go : (j : ℕ) → Dec (j ≡ i) → (j < i) ⊎ (i ≤ j) → (ltb j i && test j) ≡ (ltb j (i + 1) && test j)
      go j (yes here) either = rw (here, fails, and-false, and-false)
      go j (no other) (inl before) = rw (lt-ltb j i before, lt-ltb j (i + 1) (omega arith))
      go j (no other) (inr after) = rw (le-ltb j i after, le-ltb j (i + 1) (omega (arith, other)))

  pub below_past : (count j : ℕ) → count ≤ j → is_member (set_below count test) j ≡ false
  below_past count j past = member_any (λ i. ltb i count && test i) j (λ over. rw (le-ltb j count past)) ∙ rw (le-ltb j count past)
