-- Laws of the members of a set as a list: how many there are, the members of the jobs below a number that pass a test, no members,
-- and the least member before all others.
-- Assumes nothing.
use mathlib.Core.Path.{◌≡◌, sym, ◌∙◌, ap}
use mathlib.Core.Bool.{Bool, true, false, cond, ◌&&◌}
use mathlib.Core.Logic.{◌⊎◌, inl, inr}
use mathlib.Core.List.{List, [], ◌∷◌, ◌++◌}
use Prim.Native.Nat.{ℕ, ◌+◌, ◌-◌, ◌<◌, ◌≤◌}
use native.Mathlib.Nat.{zero-add}
use native.Mathlib.Omega.{arith}
use lib.ListN.{length}
use lib.Dec.{ltb}
use borrow.Author.Tests.{lt-ltb}
use Rattle.model.specs.Limits.{max_jobs}
use Rattle.model.specs.Entries.{joined}
use Rattle.model.specs.Search.{passing_below}
use Rattle.model.proofs.Numbers.{lt_or_le}
use Rattle.model.proofs.Sum.{sum_cong}
use Rattle.model.proofs.Search.{first_below_law}
use Rattle.model.proofs.Joined.{joined_next, joined_cong, joined_split, joined_shorter, length_joined}
use Rattle.model.proofs.Passing.{length_where}
use Rattle.job_sets.specs.declared.JobSet.{JobSet}
use Rattle.job_sets.specs.JobSets.{is_member, set_below, member_count, least_member, is_empty, without_job}
use Rattle.job_sets.proofs.JobSets.{member_of, below_past, empty_has, least_has, without_here, without_other}
use Rattle.spans.specs.TouchedIn.{members_from}

-- there are as many as the set has
pub members_length : (base : ℕ) (set : JobSet) → length (members_from base set) ≡ member_count set
members_length base set = length_joined max_jobs _ ∙ sum_cong max_jobs (λ j below. length_where (is_member set j) (base + j))

-- the jobs below a number that pass a test
pub members_passing : (count : ℕ) (test : ℕ → Bool) → count ≤ max_jobs → members_from 0 (set_below count test) ≡ passing_below count test
members_passing count test few =
    joined_shorter members count max_jobs few (λ j past below. rw (below_past test count j past))
    ∙ joined_cong count members (λ j. cond (test j) (j ∷ []) [])
    (λ j below. rw (zero-add, member_of (λ i. ltb i count && test i) j (omega arith), lt-ltb j count below))
  where
    members : ℕ → List ℕ
    members j = cond (is_member (set_below count test) j) ((0 + j) ∷ []) []

pub passing_counted : (count : ℕ) (test : ℕ → Bool) → count ≤ max_jobs → member_count (set_below count test) ≡ length (passing_below count test)
passing_counted count test few = sym (members_length 0 (set_below count test)) ∙ ap length (members_passing count test few)

module _ (base : ℕ) where
  abbrev member : JobSet → ℕ → List ℕ
  member set j = cond (is_member set j) ((base + j) ∷ []) []

  -- up to a number with no members
  none_below : (set : JobSet) (k : ℕ) → ((j : ℕ) → j < k → is_member set j ≡ false) → joined k (member set) ≡ []
  unfolding joined
  none_below set k none = joined_shorter (member set) 0 k (omega arith) (λ j past below. rw (none j below))

  -- an empty set has none
  pub members_empty : (set : JobSet) → is_empty set ≡ true → members_from base set ≡ []
  members_empty set empty = none_below set max_jobs (λ j below. empty_has set empty j)

  -- the least member, and then the members of the set without it
  pub members_least : (set : JobSet) → is_empty set ≡ false
      → members_from base set ≡ (base + least_member set) ∷ members_from base (without_job set (least_member set))
  members_least set some = cut set ∙ front ∙ sym (ap (λ l. (base + least) ∷ l) (cut after ∙ rest))
    where
      least : ℕ
      least = least_member set

      later : ℕ
      later = max_jobs - (least + 1)

      after : JobSet
      after = without_job set least

      cut : (any : JobSet) → members_from base any ≡ joined (least + 1) (member any) ++ joined later (λ i. member any (least + 1 + i))
      cut any =
          let e : max_jobs ≡ least + 1 + later = omega (arith, (least_has set some).0) in
          ap (λ n. joined n (member any)) e ∙ joined_split (least + 1) later (member any)

      before_least : (j : ℕ) → j < least → is_member set j ≡ false
      before_least = (first_below_law max_jobs (is_member set)).before

      gone : (j : ℕ) → j < least + 1 → is_member after j ≡ false
      gone j below = go (lt_or_le j least)
        where
          go : (j < least) ⊎ (least ≤ j) → is_member after j ≡ false
          go (inl before) = without_other set least j (λ e. omega arith) ∙ before_least j before
          go (inr here) = let e : j ≡ least = omega arith in rw e (without_here set least)

      -- past the least member the sets agree
      same : joined later (λ i. member set (least + 1 + i)) ≡ joined later (λ i. member after (least + 1 + i))
      same = joined_cong later _ _ (λ i below. rw (without_other set least (least + 1 + i) (λ e. omega arith)))

      front : joined (least + 1) (member set) ++ joined later (λ i. member set (least + 1 + i))
          ≡ (base + least) ∷ joined later (λ i. member after (least + 1 + i))
      front = rw (joined_next least (member set), none_below set least before_least, (least_has set some).1, same)

      rest : joined (least + 1) (member after) ++ joined later (λ i. member after (least + 1 + i))
          ≡ joined later (λ i. member after (least + 1 + i))
      rest = rw (none_below after (least + 1) gone)
