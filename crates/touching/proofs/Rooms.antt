-- Laws of the room in the lent lists: the lengths that the three lists want, and one law for each way out, the first list that is
-- too short or all three written.
-- Assumes nothing.
use mathlib.Core.Path.{◌≡◌, sym, ◌∙◌}
use mathlib.Core.Bool.{Bool, true, false}
use mathlib.Core.Logic.{◌⊎◌, inl, inr}
use mathlib.Core.List.{List}
use Prim.Native.Nat.{ℕ, ◌<◌, ◌≤◌}
use native.Mathlib.Omega.{arith}
use lib.ListN.{length}
use lib.Seq.{sets}
use lib.Dec.{ltb}
use borrow.Author.Tests.{ltb-true, ltb-false}
use Rattle.std.specs.Prelude.{Option, Result, Ok, Err, cond}
use Rattle.model.specs.declared.refusal.Refusal.{Refusal}
use Rattle.model.specs.Limits.{max_jobs}
use Rattle.model.specs.Outcome.{refused}
use Rattle.model.specs.Refusals.{refusal}
use Rattle.model.specs.Search.{passing_below}
use Rattle.model.proofs.Numbers.{true_or_false}
use Rattle.model.proofs.Refusals.{err≢ok}
use Rattle.job_sets.specs.declared.JobSet.{JobSet}
use Rattle.job_sets.specs.JobSets.{set_below, member_count}
use Rattle.spans.specs.Spans.{Touched}
use Rattle.spans.specs.SpanAnswers.{nearest_answer, listed}
use Rattle.spans.specs.TouchedIn.{opens_at, inside_at, members_from, cells_within, touched_in}
use Rattle.spans.proofs.MemberLists.{passing_counted}
use Rattle.spans.proofs.MemberStores.{passing_listed}
use Rattle.touching.specs.Touching.{Lists, where_room}
use Rattle.touching.specs.TouchingAnswers.{TouchingAnswer, Touching, Answers}
use Rattle.touching.proofs.TouchingOutcomes.{open_short, inside_short, steps_short, room_enough, refused_answers}

-- What the test of one list's length says.
module _ {wanted room : ℕ} (own : Refusal) (tested : Result (Unit {0}) Refusal) (by : tested ≡ cond (ltb room wanted) (Err own) (Ok tt)) where
  -- refused, the list is too short
  pub short_room : (told : Refusal) → tested ≡ Err told → (room < wanted) × (told ≡ own)
  short_room told e = go (true_or_false (ltb room wanted))
    where
      go : (ltb room wanted ≡ true) ⊎ (ltb room wanted ≡ false) → (room < wanted) × (told ≡ own)
      go (inl short) = (ltb-true room wanted short, cc (sym e ∙ (rw short at by)))
      go (inr enough) = absurd (err≢ok (sym e ∙ (rw enough at by)))

  -- passed, it is long enough
  pub enough_room : (told : Unit {0}) → tested ≡ Ok told → wanted ≤ room
  enough_room told e = go (true_or_false (ltb room wanted))
    where
      go : (ltb room wanted ≡ true) ⊎ (ltb room wanted ≡ false) → wanted ≤ room
      go (inl short) = absurd (err≢ok (sym (rw short at by) ∙ e))
      go (inr enough) = ltb-false room wanted enough

-- The lengths that the three lists want.
pub record LengthsWanted (t : Touched) (open_jobs inside_jobs steps : ℕ) : Type 0 where
  pub open_is : open_jobs ≡ length t.open_jobs
  pub inside_is : inside_jobs ≡ length t.inside_jobs
  pub steps_is : steps ≡ length t.steps

-- A list that is too short, each where those before it are long enough; and no list too short.
module _ (before : Lists) (t : Touched) (open_jobs inside_jobs steps : ℕ) (wanted : LengthsWanted t open_jobs inside_jobs steps) where
  -- a list is refused with the length wanted
  refuses : (place length : ℕ) → place ≡ length → where_room before t ≡ refused 14 length → (answered : TouchingAnswer)
      → answered ≡ Err (refusal 14 place) → Answers (where_room before t) before before answered
  refuses place length same found answered is = rw (is, same) (refused_answers 14 length found)

  pub open_too_short : length before.open_jobs < open_jobs → (answered : TouchingAnswer) → answered ≡ Err (refusal 14 open_jobs)
      → Answers (where_room before t) before before answered
  open_too_short short = refuses open_jobs _ wanted.open_is (open_short before t (omega (arith, wanted.open_is)))

  module _ (open-room : open_jobs ≤ length before.open_jobs) where
    open_fits : length t.open_jobs ≤ length before.open_jobs
    open_fits = omega (arith, wanted.open_is)

    pub inside_too_short : length before.inside_jobs < inside_jobs → (answered : TouchingAnswer) → answered ≡ Err (refusal 14 inside_jobs)
        → Answers (where_room before t) before before answered
    inside_too_short short = refuses inside_jobs _ wanted.inside_is (inside_short before t open_fits (omega (arith, wanted.inside_is)))

    module _ (inside-room : inside_jobs ≤ length before.inside_jobs) where
      inside_fits : length t.inside_jobs ≤ length before.inside_jobs
      inside_fits = omega (arith, wanted.inside_is)

      pub steps_too_short : length before.steps < steps → (answered : TouchingAnswer) → answered ≡ Err (refusal 14 steps)
          → Answers (where_room before t) before before answered
      steps_too_short short =
          refuses steps _ wanted.steps_is (steps_short before t open_fits inside_fits (omega (arith, wanted.steps_is)))

      pub all_listed : steps ≤ length before.steps → (after : Lists) (nearest : Option ℕ) → nearest ≡ nearest_answer t.deadline
          → after.open_jobs ≡ listed t.open_jobs before.open_jobs → after.inside_jobs ≡ listed t.inside_jobs before.inside_jobs
          → after.steps ≡ listed t.steps before.steps
          → Answers (where_room before t) before after (Touching open_jobs inside_jobs steps nearest)
      all_listed steps-room after nearest is_nearest open-written inside-written steps-written =
          let found = room_enough before t open_fits inside_fits (omega (arith, wanted.steps_is)) in
          record {
            answer_is = rw (found, wanted.open_is, wanted.inside_is, wanted.steps_is, is_nearest);
            lists_are = rw (found, ← open-written, ← inside-written, ← steps-written);
          }

-- The jobs below a number that pass a test are as many as the members of their set, and are written from the start of a list on.
module _ (count : ℕ) (test : ℕ → Bool) (few : count ≤ max_jobs) (set : JobSet) (is_set : set ≡ set_below count test) where
  set_count : member_count set ≡ length (passing_below count test)
  set_count = rw is_set (passing_counted count test few)

  pub set_listed : (before after : List ℕ) → member_count set ≤ length before → after ≡ sets before 0 (members_from 0 set)
      → after ≡ listed (passing_below count test) before
  set_listed before after room written = written ∙ rw is_set (passing_listed count test before few (omega (arith, set_count)))

-- The lengths that what touches the span wants, from the sets of the jobs and the cells.
module _ (releases deadlines : List ℕ) (count : ℕ) (times cells : List ℕ) (intervals start end : ℕ) (few : count ≤ max_jobs) where
  pub lengths_wanted : (opened inside : JobSet) → opened ≡ set_below count (opens_at releases deadlines start end)
      → inside ≡ set_below count (inside_at releases deadlines start end) → (open_jobs inside_jobs steps : ℕ) → open_jobs ≡ member_count opened
      → inside_jobs ≡ member_count inside → steps ≡ length (cells_within times cells intervals start end)
      → LengthsWanted (touched_in releases deadlines count times cells intervals start end) open_jobs inside_jobs steps
  unfolding touched_in
  lengths_wanted opened inside opened-is inside_is open_jobs inside_jobs steps open-counted inside-counted steps-counted = record {
    open_is = open-counted ∙ set_count count (opens_at releases deadlines start end) few opened opened-is;
    inside_is = inside-counted ∙ set_count count (inside_at releases deadlines start end) few inside inside_is;
    steps_is = steps-counted;
  }
