-- Laws of the words that the functions make: that each is the word of the set that its function promises.
-- Assumes nothing.
use mathlib.Core.Path.{◌≡◌, refl, sym, ◌∙◌, ap}
use mathlib.Core.Bool.{Bool, true, false, not, ◌&&◌, ◌||◌, and-true, and-false}
use mathlib.Core.Logic.{◌⊎◌, inl, inr}
use Prim.Native.Nat.{ℕ, zero, suc, ◌+◌, ◌-◌, ◌/◌, ◌^◌, ◌<◌, ◌≤◌, min, max}
use native.Mathlib.Nat.{div-eq_of_lt}
use native.Mathlib.Decide.{ℕ_discrete}
use native.Mathlib.Omega.{arith}
use lib.Dec.{ltb, eqb}
use lib.Pow.{pow_pos, pow_mono, pow-lt}
use lib.Bits.{bit_and, bit_or, and_comm, or_comm, and_lt, or_lt}
use lib.Count.{ones, count_trailing_zeros, trailing_le}
use borrow.Author.Tests.{lt-ltb, le-ltb, eq-eqb, ne_eqb}
use Rattle.model.specs.Limits.{max_jobs}
use Rattle.model.specs.Search.{some_below}
use Rattle.model.proofs.Numbers.{lt_or_le, true_or_false}
use Rattle.model.proofs.Sum.{sum_cong, sum_shorter}
use Rattle.model.proofs.Search.{some_below_none, some_below_fails, first_below_is, first_below_none}
use Rattle.model.proofs.OpenSets.{bits_ones}
use Rattle.job_sets.specs.declared.JobSet.{JobSet}
use Rattle.job_sets.specs.JobSets.{is_member, set_of, member_count, members_below, least_member, is_empty, no_jobs, with_job, without_job, in_both, in_either, in_first_only}
use Rattle.job_sets.proofs.Words.{bit, bit_none, bit_here, bit_other, bit-and, bit-or, bit_not, lowest_unset, lowest_set}
use Rattle.job_sets.proofs.JobSets.{member_bit, set_is}

-- two bits as tests
both_one : (a b : ℕ) → a < 2 → b < 2 → eqb (min a b) 1 ≡ (eqb a 1 && eqb b 1)
both_one zero b small-a small_b = ne_eqb (min 0 b) 1 (λ e. omega arith)
both_one (suc zero) zero small-a small_b = refl
both_one (suc zero) (suc zero) small-a small_b = refl
both_one (suc zero) (suc (suc b)) small-a small_b = absurd (omega arith)
both_one (suc (suc a)) b small-a small_b = absurd (omega arith)

either_one : (a b : ℕ) → a < 2 → b < 2 → eqb (max a b) 1 ≡ (eqb a 1 || eqb b 1)
either_one (suc zero) b small-a small_b = eq-eqb (max 1 b) 1 (omega arith)
either_one zero zero small-a small_b = refl
either_one zero (suc zero) small-a small_b = refl
either_one zero (suc (suc b)) small-a small_b = absurd (omega arith)
either_one (suc (suc a)) b small-a small_b = absurd (omega arith)

other_one : (a b : ℕ) → a + b ≡ 1 → eqb a 1 ≡ not (eqb b 1)
other_one a zero one = eq-eqb a 1 (omega arith)
other_one a (suc zero) one = ne_eqb a 1 (λ e. omega arith)
other_one a (suc (suc b)) one = absurd (omega arith)

-- a word whose bits are set where a test holds
abbrev Tested : (word : ℕ) → (test : ℕ → Bool) → Type 0
Tested word test = (word < 2 ^ max_jobs) × ((j : ℕ) → j < max_jobs → eqb (bit j word) 1 ≡ test j)

tested_set : (word : ℕ) (test : ℕ → Bool) → Tested word test → ◌≡◌ {A = JobSet} (record { word = word }) (set_of test)
tested_set word test (fits, bits) = set_is (record { word = word }) test fits (λ j below. member_bit (record { word = word }) j below ∙ bits j below)

own_test : (set : JobSet) → set.word < 2 ^ max_jobs → Tested set.word (is_member set)
own_test set fits = (fits, λ j below. sym (member_bit set j below))

one_test : (job : ℕ) → job < max_jobs → Tested (2 ^ job) (λ j. eqb j job)
one_test job below = (pow-lt below, λ j inside. go j (ℕ_discrete j job))
  where
    go : (j : ℕ) → Dec (j ≡ job) → eqb (bit j (2 ^ job)) 1 ≡ eqb j job
    go j (yes here) = rw (here, bit_here job, eq-eqb job job refl)
    go j (no other) = rw (bit_other job j other, ne_eqb j job other)

-- a word turned over
turned_test : {word : ℕ} {test : ℕ → Bool} → Tested word test → Tested (2 ^ max_jobs - 1 - word) (λ j. not (test j))
turned_test {word} (fits, bits) =
    (omega arith, λ j below. rw (← bits j below) (other_one _ _ (bit_not max_jobs j word below fits)))

-- a power of 2 less one has the bits below it
below_test : (job : ℕ) → job < max_jobs → Tested (2 ^ job - 1) (λ j. ltb j job)
below_test job small = (omega (arith, pow-lt small), λ j inside. go j (lt_or_le j job))
  where
    go : (j : ℕ) → (j < job) ⊎ (job ≤ j) → eqb (bit j (2 ^ job - 1)) 1 ≡ ltb j job
    go j (inl low) =
        let all : 2 ^ job - 1 - 0 ≡ 2 ^ job - 1 = omega arith in
        rw (lt-ltb j job low) (eq-eqb (bit j (2 ^ job - 1)) 1 (omega (arith, rw all at (bit_not job j 0 low (pow_pos job)), bit_none j)))
    go j (inr past) =
        let none : (2 ^ job - 1) / 2 ^ j ≡ 0 = div-eq_of_lt (omega (arith, pow_pos job, pow_mono past)) in
        rw (le-ltb j job past, none)

pub zero_word : ◌≡◌ {A = JobSet} (record { word = 0 }) no_jobs
zero_word = tested_set 0 (λ j. false) (omega arith, λ j below. rw (bit_none j))

module _ {a b : ℕ} {f g : ℕ → Bool} (of-a : Tested a f) (of-b : Tested b g) where
  and_test : Tested (bit_and a b) (λ j. f j && g j)
  and_test = (
    and_lt max_jobs a b of-a.0 of-b.0,
    λ j below. rw (bit-and j a b, both_one (bit j a) (bit j b) (omega arith) (omega arith), of-a.1 j below, of-b.1 j below),
  )

  or_test : Tested (bit_or a b) (λ j. f j || g j)
  or_test = (
    or_lt max_jobs a b of-a.0 of-b.0,
    λ j below. rw (bit-or j a b, either_one (bit j a) (bit j b) (omega arith) (omega arith), of-a.1 j below, of-b.1 j below),
  )

module _ (set : JobSet) (fits : set.word < 2 ^ max_jobs) where
  pub with_word : (job : ℕ) → job < max_jobs → ◌≡◌ {A = JobSet} (record { word = bit_or set.word (2 ^ job) }) (with_job set job)
  with_word job below = rw (or_comm set.word (2 ^ job)) (tested_set _ _ (or_test (one_test job below) (own_test set fits)))

  pub without_word : (job : ℕ) → job < max_jobs
      → ◌≡◌ {A = JobSet} (record { word = bit_and set.word (2 ^ max_jobs - 1 - 2 ^ job) }) (without_job set job)
  without_word job below =
      rw (and_comm set.word (2 ^ max_jobs - 1 - 2 ^ job)) (tested_set _ _ (and_test (turned_test (one_test job below)) (own_test set fits)))

  pub both_word : (other : JobSet) → other.word < 2 ^ max_jobs → ◌≡◌ {A = JobSet} (record { word = bit_and set.word other.word }) (in_both set other)
  both_word other fits-other = tested_set _ _ (and_test (own_test set fits) (own_test other fits-other))

  pub either_word : (other : JobSet) → other.word < 2 ^ max_jobs → ◌≡◌ {A = JobSet} (record { word = bit_or set.word other.word }) (in_either set other)
  either_word other fits-other = tested_set _ _ (or_test (own_test set fits) (own_test other fits-other))

  pub less_word : (other : JobSet) → other.word < 2 ^ max_jobs
      → ◌≡◌ {A = JobSet} (record { word = bit_and set.word (2 ^ max_jobs - 1 - other.word) }) (in_first_only set other)
  less_word other fits-other = tested_set _ _ (and_test (own_test set fits) (turned_test (own_test other fits-other)))

  -- their number is its count of ones
  pub count_word : ones set.word ≡ member_count set
  unfolding set_of
  count_word = ap (λ (s : JobSet). ones s.word) (set_is set (is_member set) fits (λ j below. refl)) ∙ bits_ones (is_member set) max_jobs

  -- of those below a job number too
  pub count_below_word : (job : ℕ) → job < max_jobs → ones (bit_and set.word (2 ^ job - 1)) ≡ members_below set job
  unfolding set_of
  count_below_word job small =
      ap (λ (s : JobSet). ones s.word) (tested_set _ _ (and_test (own_test set fits) (below_test job small)))
      ∙ (bits_ones (λ j. is_member set j && ltb j job) max_jobs
      ∙ (sum_shorter job max_jobs _ (omega arith) (λ j past below. rw (le-ltb j job past, and-false))
      ∙ sum_cong job (λ j low. rw (lt-ltb j job low, and-true))))

  -- the word of an empty set is 0
  pub empty_word : eqb set.word 0 ≡ is_empty set
  empty_word = go (ℕ_discrete set.word 0) (true_or_false (some_below max_jobs (is_member set)))
    where
      go : Dec (set.word ≡ 0) → (some_below max_jobs (is_member set) ≡ true) ⊎ (some_below max_jobs (is_member set) ≡ false) → eqb set.word 0 ≡ is_empty set
      go (yes empty) found =
          let none = some_below_fails max_jobs (is_member set) (λ j below. rw (member_bit set j below, empty, bit_none j)) in
          rw (eq-eqb set.word 0 empty, none)
      go (no some) (inl found) = rw (ne_eqb set.word 0 some, found)
      go (no some) (inr none) =
          let empty : set ≡ no_jobs = set_is set (λ j. false) fits (some_below_none max_jobs (is_member set) none) in
          absurd (some (ap (λ (s : JobSet). s.word) (empty ∙ sym zero_word)))

-- of a machine word the zeros below the lowest bit that is set
pub least_word : (set : JobSet) → count_trailing_zeros max_jobs set.word ≡ least_member set
least_word set = go (lt_or_le (count_trailing_zeros max_jobs set.word) max_jobs)
  where
    unset : (j : ℕ) → j < max_jobs → j < count_trailing_zeros max_jobs set.word → is_member set j ≡ false
    unset j below before = rw (member_bit set j below, lowest_unset max_jobs set.word j before)

    go : (count_trailing_zeros max_jobs set.word < max_jobs) ⊎ (max_jobs ≤ count_trailing_zeros max_jobs set.word) → count_trailing_zeros max_jobs set.word ≡ least_member set
    go (inl below) =
        sym (first_below_is max_jobs (is_member set) (count_trailing_zeros max_jobs set.word) below (λ j before. unset j (omega arith) before)
        (rw (member_bit set (count_trailing_zeros max_jobs set.word) below, lowest_set max_jobs set.word below)))
    go (inr past) =
        let none = first_below_none max_jobs (is_member set) (λ j below. unset j below (omega arith)) in
        omega (arith, trailing_le max_jobs set.word)
