-- Laws of the sets of all intervals: no jobs, after a change of one, the jobs that leave, and that two arrays with the same
-- sets are equal.
-- Assumes nothing.
use mathlib.Core.Path.{◌≡◌, refl, sym, ◌∙◌, ap}
use mathlib.Core.Bool.{Bool, not, ◌&&◌, ◌||◌}
use mathlib.Core.List.{List}
use Prim.Native.Nat.{ℕ, zero, suc, ◌<◌, ◌≤◌}
use native.Mathlib.Decide.{ℕ_discrete}
use native.Mathlib.Omega.{arith}
use lib.ListN.{length, get_or, set, replicate, length-set}
use lib.Seq.{get_or-set_same, get_or-set_other}
use lib.Dec.{eqb}
use borrow.Author.Tests.{lt-ltb, le-ltb, eq-eqb, ne_eqb}
use Rattle.model.specs.Limits.{max_jobs, max_intervals}
use Rattle.model.specs.Entries.{list_of}
use Rattle.model.proofs.Entries.{length_list_of, get_d_list_of, list_of_get_d, list_of_cong}
use Rattle.job_sets.specs.declared.JobSet.{JobSet}
use Rattle.job_sets.specs.JobSets.{is_member, set_of, no_jobs, with_job, without_job, in_first_only}
use Rattle.job_sets.specs.IntervalSets.{set_words, set_in, sets_of, leaving_set, Added, Removed}
use Rattle.job_sets.proofs.JobSets.{member_of, with_has, without_has}
use Rattle.job_sets.proofs.SetWords.{zero_word}

zeros_at : (size i : ℕ) → ◌≡◌ {A = ℕ} (get_or (replicate size 0) i 0) 0
zeros_at zero i = refl
zeros_at (suc size) zero = refl
zeros_at (suc size) (suc i) = zeros_at size i

-- an array of zeros: no set has a job
pub zeros_are : (i : ℕ) → set_in (replicate set_words 0) i ≡ no_jobs
unfolding set_in
zeros_are i = rw (zeros_at set_words i) zero_word

-- a set that is stored
module _ (sets : List ℕ) (interval job : ℕ) (size : length sets ≡ set_words) (inside : interval < max_intervals) (new : JobSet) where
  stored : set_in (set sets interval new.word) interval ≡ new
  unfolding set_in
  stored = rw (get_or-set_same sets interval new.word 0 (omega arith))

  kept : (i : ℕ) → (i ≡ interval → ⊥) → set_in (set sets interval new.word) i ≡ set_in sets i
  unfolding set_in
  kept i other = rw (get_or-set_other sets interval i new.word 0 other)

  pub stored_more : new ≡ with_job (set_in sets interval) job → Added sets (set sets interval new.word) interval job
  stored_more more = record { size = length-set sets interval new.word ∙ size; here = stored ∙ more; elsewhere = kept }

  pub stored_less : new ≡ without_job (set_in sets interval) job → Removed sets (set sets interval new.word) interval job
  stored_less less = record { size = length-set sets interval new.word ∙ size; here = stored ∙ less; elsewhere = kept }

-- one job more in the set of an interval
pub added_has : {before after : List ℕ} {interval job : ℕ} → Added before after interval job → job < max_jobs → (i j : ℕ)
    → is_member (set_in after i) j ≡ ((eqb i interval && eqb j job) || is_member (set_in before i) j)
added_has {before} {after} {interval} {job} added below i j = go (ℕ_discrete i interval)
  where
    go : Dec (i ≡ interval) → is_member (set_in after i) j ≡ ((eqb i interval && eqb j job) || is_member (set_in before i) j)
    go (yes here) = rw (here, eq-eqb interval interval refl, added.here) (with_has (set_in before interval) job j below)
    go (no other) = rw (ne_eqb i interval other, added.elsewhere i other)

-- one job less
pub removed_has : {before after : List ℕ} {interval job : ℕ} → Removed before after interval job → (i j : ℕ)
    → is_member (set_in after i) j ≡ (not (eqb i interval && eqb j job) && is_member (set_in before i) j)
removed_has {before} {after} {interval} {job} removed i j = go (ℕ_discrete i interval)
  where
    go : Dec (i ≡ interval) → is_member (set_in after i) j ≡ (not (eqb i interval && eqb j job) && is_member (set_in before i) j)
    go (yes here) = rw (here, eq-eqb interval interval refl, removed.here) (without_has (set_in before interval) job j)
    go (no other) = rw (ne_eqb i interval other, removed.elsewhere i other)

-- the jobs that leave after an interval that has a next one, and after the last
module _ (intervals : ℕ) (sets : List ℕ) (i : ℕ) where
  pub leaving_next : suc i < intervals → leaving_set intervals sets i ≡ in_first_only (set_in sets i) (set_in sets (suc i))
  leaving_next inside = rw (lt-ltb (suc i) intervals inside)

  pub leaving_last : intervals ≤ suc i → leaving_set intervals sets i ≡ set_in sets i
  leaving_last past = rw (le-ltb (suc i) intervals past)

-- two arrays with the same sets are equal
pub same_sets : (a b : List ℕ) → length a ≡ set_words → length b ≡ set_words → ((i : ℕ) → i < max_intervals → set_in a i ≡ set_in b i) → a ≡ b
unfolding set_in
same_sets a b size-a size-b same =
    let of-a : list_of set_words (λ i. get_or a i 0) ≡ a = rw (← size-a) (list_of_get_d a 0) in
    let of-b : list_of set_words (λ i. get_or b i 0) ≡ b = rw (← size-b) (list_of_get_d b 0) in
    sym of-a ∙ list_of_cong set_words (λ i. get_or a i 0) (λ i. get_or b i 0) (λ i inside. ap (λ (s : JobSet). s.word) (same i inside)) ∙ of-b

-- the array of the sets of the jobs that pass a test
module _ (test : ℕ → ℕ → Bool) where
  pub sets_size : length (sets_of test) ≡ set_words
  unfolding sets_of
  sets_size = length_list_of set_words (λ i. (set_of (test i)).word)

  pub sets-at : (i : ℕ) → i < max_intervals → set_in (sets_of test) i ≡ set_of (test i)
  unfolding set_in sets_of
  sets-at i inside = rw (get_d_list_of set_words (λ i. (set_of (test i)).word) i 0 inside)

  pub sets_has : (i j : ℕ) → i < max_intervals → j < max_jobs → is_member (set_in (sets_of test) i) j ≡ test i j
  sets_has i j inside below = rw (sets-at i inside) (member_of (test i) j below)

  pub sets_are : (sets : List ℕ) → length sets ≡ set_words → ((i : ℕ) → i < max_intervals → set_in sets i ≡ set_of (test i)) → sets ≡ sets_of test
  sets_are sets size same = same_sets sets (sets_of test) size sets_size (λ i inside. same i inside ∙ sym (sets-at i inside))
