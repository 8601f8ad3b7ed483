-- What a call comes to in each case, in the order in which the cases are told apart: the span, the job table, the marks, the
-- parameters, the room in the lent lists. And what answers such an outcome.
-- Assumes nothing.
use mathlib.Core.Path.{◌≡◌, refl, ◌∙◌}
use mathlib.Core.Bool.{true, false, or-true}
use mathlib.Core.Logic.{◌⊎◌, inl, inr}
use mathlib.Core.List.{List}
use Prim.Native.Nat.{ℕ, ◌<◌, ◌≤◌}
use lib.ListN.{length}
use lib.Dec.{ltb, leb}
use borrow.Author.Tests.{leb-false, ltb-false, le-leb, lt-leb, lt-ltb, le-ltb}
use Rattle.std.specs.Prelude.{Err}
use Rattle.model.specs.declared.Job.{Job}
use Rattle.model.specs.declared.refusal.Refusal.{Refusal}
use Rattle.model.specs.Limits.{max_deadline}
use Rattle.model.specs.Outcome.{Outcome, refused, answer, and_then}
use Rattle.model.specs.Refusals.{refusal}
use Rattle.model.specs.Jobs.{read_jobs}
use Rattle.model.specs.SiteParameters.{alter_jobs}
use Rattle.model.specs.Marks.{read_marks, bounds_with}
use Rattle.model.specs.Windows.{wrong_span}
use Rattle.model.proofs.Outcome.{answer_injective, answered_past, answered_within, and_then_answered}
use Rattle.model.proofs.Refusals.{RefusedBy}
use Rattle.model.proofs.FittingHalf.{stepping_answered}
use Rattle.model.proofs.Tests.{neither}
use Rattle.spans.specs.Spans.{Touched, touched}
use Rattle.touching.specs.Touching.{Lists, where_room, touching_for, touching}
use Rattle.touching.specs.TouchingAnswers.{TouchingAnswer, Answers}

-- the test of a span is whether one of the two is wrong
span_wrong : (start end : ℕ) → (end ≤ start) ⊎ (max_deadline < end) → wrong_span start end ≡ true
span_wrong start end (inl empty) = rw (le-leb end start empty)
span_wrong start end (inr late) = rw (lt-ltb max_deadline end late, or-true)

pub span_right : (start end : ℕ) → start < end → end ≤ max_deadline → wrong_span start end ≡ false
span_right start end some early = rw (lt-leb end start some, le-ltb max_deadline end early)

module _ (job_bytes mark_bytes : List ℕ) (free margin : ℕ) (plan : List ℕ) (start end : ℕ) (before : Lists) where
  pub touching_wrong_span : (end ≤ start) ⊎ (max_deadline < end) → touching job_bytes mark_bytes free margin plan start end before ≡ refused 33 0
  unfolding touching
  touching_wrong_span wrong = rw (span_wrong start end wrong)

  module _ (some : start < end) (early : end ≤ max_deadline) where
    pub touching_jobs_refused : (number place : ℕ) → read_jobs job_bytes ≡ refused number place
        → touching job_bytes mark_bytes free margin plan start end before ≡ refused number place
    unfolding touching
    touching_jobs_refused number place unread = rw (span_right start end some early, unread)

    pub touching_read : (jobs : List Job) → read_jobs job_bytes ≡ answer jobs
        → touching job_bytes mark_bytes free margin plan start end before
        ≡ (and_then (read_marks mark_bytes) λ marks. and_then (alter_jobs free margin jobs) λ altered. touching_for altered (bounds_with marks altered) plan start end before)
    unfolding touching
    touching_read jobs read = rw (span_right start end some early, read)

    pub touching_marks_refused : (jobs : List Job) (number place : ℕ) → read_jobs job_bytes ≡ answer jobs → read_marks mark_bytes ≡ refused number place
        → touching job_bytes mark_bytes free margin plan start end before ≡ refused number place
    touching_marks_refused jobs number place read unread = touching_read jobs read ∙ rw unread

    module _ (jobs : List Job) (marks : List ℕ) (read : read_jobs job_bytes ≡ answer jobs) (marks_read : read_marks mark_bytes ≡ answer marks) where
      pub touching_parameters_refused : (number place : ℕ) → alter_jobs free margin jobs ≡ refused number place
          → touching job_bytes mark_bytes free margin plan start end before ≡ refused number place
      touching_parameters_refused number place unaltered = touching_read jobs read ∙ rw (marks_read, unaltered)

      pub touching_both_read : (altered : List Job) → alter_jobs free margin jobs ≡ answer altered
          → touching job_bytes mark_bytes free margin plan start end before ≡ touching_for altered (bounds_with marks altered) plan start end before
      touching_both_read altered is-altered = touching_read jobs read ∙ rw (marks_read, is-altered)

  -- an answer has no other way
  pub touching_answered : (t : Touched) → touching job_bytes mark_bytes free margin plan start end before ≡ answer t
      → ((start < end) × (end ≤ max_deadline))
      × ((jobs altered : List Job) × (marks : List ℕ) × (read_jobs job_bytes ≡ answer jobs) × (read_marks mark_bytes ≡ answer marks)
      × (alter_jobs free margin jobs ≡ answer altered) × (touching_for altered (bounds_with marks altered) plan start end before ≡ answer t))
  unfolding touching
  touching_answered t e =
      let (right, rest) = answered_past (wrong_span start end) 33 _ e in
      let (some, early) = neither (leb end start) (ltb max_deadline end) right in
      let (jobs, read, rest) = and_then_answered (read_jobs job_bytes) _ rest in
      let (marks, marks_read, rest) = and_then_answered (read_marks mark_bytes) _ rest in
      let (altered, is-altered, rest) = and_then_answered (alter_jobs free margin jobs) _ rest in
      ((leb-false end start some, ltb-false max_deadline end early), (jobs, altered, marks, read, marks_read, is-altered, rest))

-- the first list too short, and enough room
module _ (before : Lists) (t : Touched) where
  pub open_short : length before.open_jobs < length t.open_jobs → where_room before t ≡ refused 14 (length t.open_jobs)
  open_short short = rw (lt-ltb _ _ short)

  module _ (open_fits : length t.open_jobs ≤ length before.open_jobs) where
    pub inside_short : length before.inside_jobs < length t.inside_jobs → where_room before t ≡ refused 14 (length t.inside_jobs)
    inside_short short = rw (le-ltb _ _ open_fits, lt-ltb _ _ short)

    module _ (inside_fits : length t.inside_jobs ≤ length before.inside_jobs) where
      pub steps_short : length before.steps < length t.steps → where_room before t ≡ refused 14 (length t.steps)
      steps_short short = rw (le-ltb _ _ open_fits, le-ltb _ _ inside_fits, lt-ltb _ _ short)

      pub room_enough : length t.steps ≤ length before.steps → where_room before t ≡ answer t
      room_enough steps_fit = rw (le-ltb _ _ open_fits, le-ltb _ _ inside_fits, le-ltb _ _ steps_fit)

-- what is answered is what touches the span
pub answered_touched : (jobs : List Job) (bounds plan : List ℕ) (start end : ℕ) (before : Lists) (t : Touched)
    → touching_for jobs bounds plan start end before ≡ answer t → touched jobs bounds plan start end ≡ t
unfolding touching_for
answered_touched jobs bounds plan start end before t e =
    let found = touched jobs bounds plan start end in
    let (is-plan, e) = stepping_answered jobs bounds plan _ e in
    let (open_fits, e) = answered_within (length found.open_jobs) 14 (length before.open_jobs) _ e in
    let (inside_fits, e) = answered_within (length found.inside_jobs) 14 (length before.inside_jobs) _ e in
    let (steps_fit, e) = answered_within (length found.steps) 14 (length before.steps) _ e in
    answer_injective e

-- a refused call changes nothing
pub refused_answers : {outcome : Outcome Touched} {before : Lists} (number place : ℕ) → outcome ≡ refused number place
    → Answers outcome before before (Err (refusal number place))
refused_answers number place e = rw e (record { answer_is = refl; lists_are = refl })

-- a call that is refused as something before it was
pub refused_as : {A : Type 0} {first : Outcome A} {outcome : Outcome Touched} {before : Lists} {own : Refusal} (by : RefusedBy first own)
    → outcome ≡ refused by.number by.place → Answers outcome before before (Err own)
refused_as by e = rw by.own_is (refused_answers by.number by.place e)

-- an outcome that is another is answered as that one
pub same-answers : {outcome other : Outcome Touched} {before after : Lists} {answered : TouchingAnswer} → outcome ≡ other
    → Answers other before after answered → Answers outcome before after answered
same-answers e answers = rw e answers
