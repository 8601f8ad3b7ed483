-- Laws of the members of a set that are written, from the least on: one more, and after the last; and of the jobs that pass a test,
-- written at the start of a list.
-- Assumes nothing.
use mathlib.Core.Path.{◌≡◌, refl, sym, ◌∙◌, ap}
use mathlib.Core.Bool.{Bool, true, false}
use mathlib.Core.List.{List, []}
use Prim.Native.Nat.{ℕ, ◌+◌, ◌<◌, ◌≤◌}
use native.Mathlib.Numerals.{add-one}
use native.Mathlib.Omega.{arith}
use lib.ListN.{length, length-set, set as store}
use lib.Seq.{sets}
use Rattle.model.specs.Limits.{max_jobs}
use Rattle.model.specs.Search.{passing_below}
use Rattle.job_sets.specs.declared.JobSet.{JobSet}
use Rattle.job_sets.specs.JobSets.{set_below, member_count, least_member, is_empty, without_job}
use Rattle.job_sets.proofs.JobSets.{count_without, least_has}
use Rattle.spans.specs.SpanAnswers.{listed}
use Rattle.spans.specs.TouchedIn.{members_from}
use Rattle.spans.proofs.Listed.{listed_front}
use Rattle.spans.proofs.MemberLists.{members_length, members_passing, members_empty, members_least}

-- while members are written: with the rest stored from the next place on, the list is the one with all members
pub record MembersPut (base first : ℕ) (before : List ℕ) (set : JobSet) (list : List ℕ) (next : ℕ) (rest : JobSet) : Type 0 where
  pub counted : next + member_count rest ≡ first + member_count set
  pub long : length list ≡ length before
  pub stored : sets list next (members_from base rest) ≡ sets before first (members_from base set)

module _ (base first : ℕ) (before : List ℕ) (set : JobSet) (list : List ℕ) (next : ℕ) (rest : JobSet) (put : MembersPut base first before set list next rest) where
  module _ (some : is_empty rest ≡ false) (job : ℕ) (is_least : job ≡ least_member rest) where
    -- the least member is a job
    pub least_small : job < max_jobs
    least_small = rw is_least (least_has rest some).0

    -- without it fewer are left
    pub fewer_left : (after : JobSet) → after ≡ without_job rest job → member_count rest ≡ member_count after + 1
    fewer_left after is-rest = rw (is-rest, is_least) (count_without rest (least_member rest) (least_has rest some).1)

    -- it has room
    pub least_room : first + member_count set ≤ length before → next < length list
    least_room room = omega (arith, put.counted, put.long, fewer_left (without_job rest job) refl)

    pub put_next : (after : JobSet) → after ≡ without_job rest job → MembersPut base first before set (store list next (base + job)) (next + 1) after
    put_next after is-rest =
        record {
          counted = omega (arith, put.counted, fewer_left after is-rest);
          long = length-set list next (base + job) ∙ put.long;
          stored = rw (add-one next, is-rest, is_least) (rw (members_least base rest some) at put.stored);
        }

  -- after the last member
  pub put_whole : is_empty rest ≡ true → (next ≡ first + member_count set) × (list ≡ sets before first (members_from base set))
  put_whole empty =
      let none : members_from base rest ≡ [] = members_empty base rest empty in
      let fewest : member_count rest ≡ 0 = sym (members_length base rest) ∙ ap length none in
      (omega (arith, put.counted), rw none at put.stored)

-- the jobs that pass a test, at the start of a list
pub passing_listed : (count : ℕ) (test : ℕ → Bool) (before : List ℕ) → count ≤ max_jobs → length (passing_below count test) ≤ length before
    → sets before 0 (members_from 0 (set_below count test)) ≡ listed (passing_below count test) before
passing_listed count test before few room = rw (members_passing count test few) (listed_front (passing_below count test) before room)
