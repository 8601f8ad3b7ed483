-- Laws of the jobs of a set whose rooms are settled one after another, and of what is due of a set's jobs.
-- Assumes nothing.
use mathlib.Core.Path.{◌≡◌, refl, sym, ◌∙◌}
use mathlib.Core.Bool.{true, false}
use mathlib.Core.List.{List}
use Prim.Native.Nat.{ℕ, ◌+◌, ◌-◌, ◌^◌, ◌<◌, ◌≤◌}
use native.Mathlib.Decide.{ℕ_discrete}
use native.Mathlib.Omega.{arith}
use lib.ListN.{length, get_or, set as store, length-set}
use lib.Seq.{get_or-set_same, get_or-set_other}
use lib.Dec.{eqb}
use borrow.Author.Tests.{eq-eqb, ne_eqb}
use Rattle.model.specs.Limits.{max_jobs, max_bounds}
use Rattle.model.specs.Sum.{only_if}
use Rattle.model.proofs.Numbers.{true≢false}
use Rattle.model.proofs.Sum.{sum_update, sum_zero}
use Rattle.job_sets.specs.declared.JobSet.{JobSet}
use Rattle.job_sets.specs.JobSets.{is_member, is_empty, least_member, without_job, member_count}
use Rattle.job_sets.proofs.JobSets.{without_here, without_other, count_without, empty_has, least_has}
use Rattle.job_rooms.specs.Spares.{LeastAmong}
use Rattle.job_rooms.specs.RoomArrays.{due_in, CanSettle, Settled}

-- what is due of a set's jobs, one job less
pub due_without : (count : ℕ) (set : JobSet) (last cycles : List ℕ) (job b : ℕ) → job < count → is_member set job ≡ true
    → due_in count set last cycles b ≡ due_in count (without_job set job) last cycles b + only_if (eqb (get_or last job 0) b) (get_or cycles job 0)
unfolding due_in
due_without count set last cycles job b below has =
    sum_update count
    (λ j. only_if (is_member (without_job set job) j) (only_if (eqb (get_or last j 0) b) (get_or cycles j 0)))
    (λ j. only_if (is_member set j) (only_if (eqb (get_or last j 0) b) (get_or cycles j 0)))
    job (only_if (eqb (get_or last job 0) b) (get_or cycles job 0)) below
    (rw (without_here set job, has) (omega arith)) (λ j inside other. rw (without_other set job j other))

-- The jobs of the set that are not in the rest are settled.
pub record Settling (released : JobSet) (last cycles : List ℕ) (intervals : ℕ) (spares due_before rooms_before due rooms : List ℕ) (rest : JobSet) : Type 0 where
  pub due_size : length due ≡ max_bounds
  pub rooms_size : length rooms ≡ max_jobs
  pub members : (j : ℕ) → is_member rest j ≡ true → is_member released j ≡ true
  pub due_left : (b : ℕ) → get_or due b 0 + due_in max_jobs released last cycles b ≡ get_or due_before b 0 + due_in max_jobs rest last cycles b
  pub settled : (j : ℕ) → is_member released j ≡ true → is_member rest j ≡ false → LeastAmong spares (get_or last j 0) intervals (get_or rooms j 0)
  pub kept : (j : ℕ) → is_member released j ≡ false → get_or rooms j 0 ≡ get_or rooms_before j 0

module _ {released : JobSet} {last cycles : List ℕ} {intervals : ℕ} {due_before : List ℕ} (can : CanSettle released last cycles intervals due_before)
    (spares rooms_before : List ℕ) where
  pub settling_first : length due_before ≡ max_bounds → length rooms_before ≡ max_jobs
      → Settling released last cycles intervals spares due_before rooms_before due_before rooms_before released
  settling_first due_size rooms_size =
      record {
        due_size = due_size;
        rooms_size = rooms_size;
        members = λ j has. has;
        due_left = λ b. refl;
        settled = λ j has lacks. absurd (true≢false (sym has ∙ lacks));
        kept = λ j lacks. refl;
      }

  module _ {due rooms : List ℕ} {rest : JobSet} (so_far : Settling released last cycles intervals spares due_before rooms_before due rooms rest) where
    pub settling_done : is_empty rest ≡ true → Settled released last cycles intervals spares due_before rooms_before due rooms
    unfolding due_in
    settling_done empty =
        record {
          due_size = so_far.due_size;
          rooms_size = so_far.rooms_size;
          due_left = λ b. so_far.due_left b ∙ rw (none_due b) (omega arith);
          settled = λ j has. so_far.settled j has (empty_has rest empty j);
          kept = so_far.kept;
        }
      where
        none_due : (b : ℕ) → due_in max_jobs rest last cycles b ≡ 0
        none_due b = sum_zero max_jobs (λ j below. rw (empty_has rest empty j))

    -- the least job of the rest
    module _ (some : is_empty rest ≡ false) (job : ℕ) (is_least : job ≡ least_member rest) where
      pub least_few : job < max_jobs
      least_few = rw is_least (least_has rest some).0

      least-member : is_member rest job ≡ true
      least-member = rw is_least (least_has rest some).1

      pub end_few : get_or last job 0 ≤ intervals
      end_few = can.ends_few job (so_far.members job least-member)

      pub end_small : get_or last job 0 < max_bounds
      end_small = omega (arith, end_few, can.few)

      pub cycles_small : get_or cycles job 0 < 2 ^ 32
      cycles_small = can.cycles_small job (so_far.members job least-member)

      here_due : (b : ℕ) → due_in max_jobs rest last cycles b
          ≡ due_in max_jobs (without_job rest job) last cycles b + only_if (eqb (get_or last job 0) b) (get_or cycles job 0)
      here_due b = due_without max_jobs rest last cycles job b least_few least-member

      -- its cycles are still due
      pub due_enough : get_or cycles job 0 ≤ get_or due (get_or last job 0) 0
      due_enough =
          let b : ℕ = get_or last job 0 in
          omega (
            arith,
            so_far.due_left (get_or last job 0),
            can.due_holds (get_or last job 0),
            rw (eq-eqb (get_or last job 0) (get_or last job 0) refl) at (here_due (get_or last job 0)),
          )

      -- fewer are left
      pub fewer : (rest' : JobSet) → rest' ≡ without_job rest job → member_count rest' < member_count rest
      fewer rest' is-rest = rw is-rest (omega (arith, count_without rest job least-member))

      module _ (room left : ℕ) (least : LeastAmong spares (get_or last job 0) intervals room)
          (is-left : left ≡ get_or due (get_or last job 0) 0 - get_or cycles job 0) where
        due_next : (b : ℕ) → Dec (b ≡ get_or last job 0)
            → get_or (store due (get_or last job 0) left) b 0 + due_in max_jobs released last cycles b
            ≡ get_or due_before b 0 + due_in max_jobs (without_job rest job) last cycles b
        due_next b (yes same) =
            rw same
            (rw (get_or-set_same due (get_or last job 0) left 0 (omega (arith, so_far.due_size, end_small)))
            (omega (
              arith,
              is-left,
              due_enough,
              so_far.due_left (get_or last job 0),
              rw (eq-eqb (get_or last job 0) (get_or last job 0) refl) at (here_due (get_or last job 0)),
            )))
        due_next b (no other) =
            rw (get_or-set_other due (get_or last job 0) b left 0 other)
            (omega (arith, so_far.due_left b, rw (ne_eqb (get_or last job 0) b (λ e. other (sym e))) at (here_due b)))

        settled_next : (j : ℕ) → is_member released j ≡ true → is_member (without_job rest job) j ≡ false → Dec (j ≡ job)
            → LeastAmong spares (get_or last j 0) intervals (get_or (store rooms job room) j 0)
        settled_next j has lacks (yes same) = rw (same, get_or-set_same rooms job room 0 (omega (arith, so_far.rooms_size, least_few))) least
        settled_next j has lacks (no other) =
            rw (get_or-set_other rooms job j room 0 other) (so_far.settled j has (sym (without_other rest job j other) ∙ lacks))

        kept_next : (j : ℕ) → is_member released j ≡ false → Dec (j ≡ job) → get_or (store rooms job room) j 0 ≡ get_or rooms_before j 0
        kept_next j lacks (yes same) = absurd (true≢false (sym (so_far.members job least-member) ∙ rw same at lacks))
        kept_next j lacks (no other) = get_or-set_other rooms job j room 0 other ∙ so_far.kept j lacks

        members_next : (j : ℕ) → is_member (without_job rest job) j ≡ true → Dec (j ≡ job) → is_member released j ≡ true
        members_next j has (yes same) = absurd (true≢false (sym has ∙ rw same (without_here rest job)))
        members_next j has (no other) = so_far.members j (sym (without_other rest job j other) ∙ has)

        pub settling_next : (rest' : JobSet) → rest' ≡ without_job rest job
            → Settling released last cycles intervals spares due_before rooms_before (store due (get_or last job 0) left) (store rooms job room) rest'
        settling_next rest' is-rest =
            rw is-rest
            (record {
              due_size = length-set due (get_or last job 0) left ∙ so_far.due_size;
              rooms_size = length-set rooms job room ∙ so_far.rooms_size;
              members = λ j has. members_next j has (ℕ_discrete j job);
              due_left = λ b. due_next b (ℕ_discrete b (get_or last job 0));
              settled = λ j has lacks. settled_next j has lacks (ℕ_discrete j job);
              kept = λ j lacks. kept_next j lacks (ℕ_discrete j job);
            })
