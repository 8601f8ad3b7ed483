-- Laws of the steps of an interval that are written member after member, from the least on: before the first, one more, and
-- after the last.
-- Assumes nothing.
use mathlib.Core.Path.{◌≡◌, refl, sym, ◌∙◌}
use mathlib.Core.Bool.{true, false}
use mathlib.Core.Logic.{◌⊎◌, inl, inr}
use mathlib.Core.List.{List, []}
use Prim.Native.Nat.{ℕ, ◌+◌, ◌<◌, ◌≤◌, min}
use native.Mathlib.Decide.{ℕ_discrete}
use native.Mathlib.Omega.{arith}
use lib.ListN.{length}
use Rattle.model.specs.Limits.{max_jobs}
use Rattle.model.specs.Entries.{joined}
use Rattle.model.specs.Steps.{Step}
use Rattle.model.proofs.Numbers.{lt_or_le, true≢false}
use Rattle.model.proofs.Search.{first_below_law, first_below_none}
use Rattle.job_sets.specs.declared.JobSet.{JobSet}
use Rattle.job_sets.specs.JobSets.{is_member, member_count, least_member, is_empty, without_job}
use Rattle.job_sets.proofs.JobSets.{count_without, empty_has, least_has, without_here, without_other}
use Rattle.writing.specs.StepList.{step_of}
use Rattle.writing.specs.HeldShares.{SharesHeld}
use Rattle.writing.specs.PlanBytes.{with_steps}
use Rattle.writing.proofs.CellOrder.{step_of_none, step_of_some}
use Rattle.writing.proofs.PlanStores.{StepsPut, put_none, put_past, put_whole, put_room, put_next}
use Rattle.writing.proofs.HeldShares.{member_share, other_share}

-- no member stands before the least
before_least : (set : JobSet) (j : ℕ) → j < least_member set → is_member set j ≡ false
before_least set = (first_below_law max_jobs (is_member set)).before

-- without its least member a set has a greater one, or none
least_rises : (set : JobSet) → is_empty set ≡ false → least_member set < least_member (without_job set (least_member set))
least_rises set some = go (lt_or_le least after)
  where
    least : ℕ
    least = least_member set

    after : ℕ
    after = least_member (without_job set least)

    gone : (j : ℕ) → j ≤ least → Dec (j ≡ least) → is_member (without_job set least) j ≡ false
    gone j low (yes here) = rw here (without_here set least)
    gone j low (no other) = without_other set least j other ∙ before_least set j (omega (arith, other))

    go : (least < after) ⊎ (after ≤ least) → least < after
    go (inl rises) = rises
    go (inr low) =
        let has = (first_below_law max_jobs (is_member (without_job set least))).here (omega (arith, (least_has set some).0)) in
        absurd (true≢false (sym has ∙ gone after low (ℕ_discrete after least)))

-- and it has fewer
pub fewer_left : (rest after : JobSet) (job : ℕ) → is_empty rest ≡ false → job ≡ least_member rest → after ≡ without_job rest job
    → member_count after < member_count rest
fewer_left rest after job some is_least is-rest =
    rw (is-rest, is_least) (omega (arith, count_without rest (least_member rest) (least_has rest some).1))

-- the steps of the jobs before the least of the rest are written, and the rest has the set's other members
pub record MembersPut (count first : ℕ) (lists : ℕ → List Step) (before : List ℕ) (jobs : ℕ) (set rest : JobSet) (next : ℕ) (plan : List ℕ) : Type 0 where
  pub left : (j : ℕ) → least_member rest ≤ j → is_member rest j ≡ is_member set j
  pub put : StepsPut count first lists before (min jobs (least_member rest)) next plan

module _ (count first : ℕ) (before : List ℕ) (jobs interval : ℕ) (shares : ℕ → ℕ) (set : JobSet) (holds : SharesHeld jobs shares set) where
  abbrev lists : ℕ → List Step
  lists j = step_of interval j (shares j)

  -- a job that is no member has no step
  no_step : (j : ℕ) → j < jobs → is_member set j ≡ false → lists j ≡ []
  no_step j below lacks = step_of_none interval j (shares j) (other_share holds j below lacks)

  pub members_none : MembersPut count first lists before jobs set set first before
  members_none =
      record {
        left = λ j past. refl;
        put = put_past count first lists before 0 first before (put_none count first lists before) (min jobs (least_member set)) (omega arith)
            (λ j low below. no_step j (omega arith) (before_least set j (omega arith)));
      }

  module _ (rest : JobSet) (next : ℕ) (plan : List ℕ) (put : MembersPut count first lists before jobs set rest next plan) where
    -- after the last member
    pub members_whole : jobs ≤ max_jobs → is_empty rest ≡ true → StepsPut count first lists before jobs next plan
    members_whole few empty =
        let none : least_member rest ≡ max_jobs = first_below_none max_jobs (is_member rest) (λ j below. empty_has rest empty j) in
        put_whole count first lists before _ next plan put.put jobs (omega arith) (omega arith)

    module _ (some : is_empty rest ≡ false) (job : ℕ) (is_least : job ≡ least_member rest) where
      -- the least member is a job with a share
      pub least_share : (job < jobs) × (0 < shares job)
      least_share =
          member_share holds job (rw is_least (sym (put.left (least_member rest) (omega arith)) ∙ (least_has rest some).1))

      one-step : length (lists job) ≡ 1
      one-step = rw (step_of_some interval job (shares job) least_share.1)

      put_least : StepsPut count first lists before job next plan
      put_least = put_whole count first lists before _ next plan put.put job (omega arith) (omega (arith, least_share))

      module _ (room : first + length (joined jobs lists) ≤ count) where
        -- its step has room
        pub least_room : next < count
        least_room =
            omega (arith, one-step, put_room count first lists before job next plan put_least jobs least_share.0 room)

        pub members_next : (after : JobSet) (plan_after : List ℕ) → after ≡ without_job rest job → plan_after ≡ with_steps count next (lists job) plan
            → MembersPut count first lists before jobs set after (next + 1) plan_after
        members_next after plan_after is-rest written =
            record {
              left = λ j past. rest_left j (omega (arith, rises));
              put = put_past count first lists before (job + 1) (next + 1) plan_after one_more (min jobs (least_member after)) (omega (arith, rises, least_share))
                  (λ j low below. no_step j (omega arith) (sym (rest_left j low) ∙ before_least after j (omega arith)));
            }
          where
            rises : job < least_member after
            rises = rw (is-rest, is_least) (least_rises rest some)

            rest_left : (j : ℕ) → job + 1 ≤ j → is_member after j ≡ is_member set j
            rest_left j past = rw is-rest (without_other rest job j (λ e. omega arith) ∙ put.left j (omega arith))

            one_more : StepsPut count first lists before (job + 1) (next + 1) plan_after
            one_more =
                put_next count first lists before job next plan put_least jobs least_share.0 room (next + 1) plan_after (omega (arith, one-step)) written
