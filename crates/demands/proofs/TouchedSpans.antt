-- What touches a span: what a call answers and leaves in the lists, case by case.
-- Assumes nothing.
use mathlib.Core.Path.{◌≡◌, refl, sym, ◌∙◌, ap}
use mathlib.Core.Logic.{◌⊎◌, inl, inr, ◌↔◌}
use mathlib.Core.List.{List}
use Prim.Native.Nat.{ℕ, ◌<◌, ◌≤◌}
use native.Mathlib.Omega.{arith}
use lib.ListN.{length, drop}
use lib.Seq.{take-append_seam, drop-append_seam}
use Rattle.std.specs.Prelude.{Option, Err}
use Rattle.model.specs.declared.Level.{Level}
use Rattle.model.specs.declared.Job.{Job}
use Rattle.model.specs.declared.refusal.Refusal.{Refusal}
use Rattle.model.specs.Outcome.{Outcome, refused, answer, and_then, From, RefusesBy}
use Rattle.model.specs.Refusals.{number_of, fault_numbered, refusal as refusal_at}
use Rattle.model.specs.LevelTables.{read_levels}
use Rattle.model.specs.SiteParameters.{alter_levels}
use Rattle.model.specs.Marks.{bounds_with}
use Rattle.model.specs.Sites.{tables_of, site_of}
use Rattle.model.specs.Checking.{stepping, check}
use Rattle.model.proofs.Numbers.{lt_or_le}
use Rattle.model.proofs.Outcome.{answered_within, and_then_answered}
use Rattle.model.proofs.Refusals.{returned_refused, number_numbered}
use Rattle.model.proofs.Jobs.{jobs_valid}
use Rattle.model.proofs.SiteParameters.{altered_are_valid}
use Rattle.model.proofs.MarkedBounds.{bounds-with}
use Rattle.model.proofs.Accepted.{check_read}
use Rattle.model.proofs.Hypotheses.{every_valid_table}
use Rattle.model.proofs.RefusalNumbers.{check_past_steps}
use Rattle.fitting.proofs.Verdicts.{both_alone, both_stepping}
use Rattle.spans.specs.Spans.{Touched, nearest_deadline, touched}
use Rattle.spans.specs.SpanAnswers.{nearest_answer, listed}
use Rattle.touching.specs.Touching.{Lists, where_room, touching_for, touching}
use Rattle.touching.specs.TouchingAnswers.{TouchingAnswer, Touching, touching_answer, Answers}
use Rattle.touching.proofs.TouchingRefusals.{ReadNumbers, room_by, touching_right_by, touching_refuses}
use Rattle.touching.proofs.TouchingOutcomes.{
  touching_wrong_span,
  touching_jobs_refused,
  touching_marks_refused,
  touching_both_read,
  touching_answered,
  refused_answers,
  same-answers,
  touching_parameters_refused,
}
use Rattle.touching.proofs.Rooms.{LengthsWanted, open_too_short as open_short, inside_too_short as inside_short, steps_too_short as steps_short, all_listed}
use Rattle.demands.specs.TouchedSpans.{
  TouchingCall,
  RefusedCall,
  WrongSpan,
  RightSpan,
  steps_alone,
  SoundCall,
  Wanted,
  Written,
  AnsweredCall,
  Fits,
  AllFit,
  TouchedSpans,
  ReadAs,
  with_highest,
}
use Rattle.demands.proofs.TouchedMembers.{listed_once, open_listed, inside_listed, steps_listed, nearest}

-- the outcome of a call, from its answer: of the numbers of the table no two are one fault's
refused_of : (outcome : Outcome Touched) → RefusesBy (From 1 36) outcome → (number place : ℕ) → From 1 36 number
    → Err (refusal_at number place) ≡ touching_answer outcome → outcome ≡ refused number place
refused_of outcome in_table number place known e =
    let by = returned_refused _ outcome (refusal_at number place) (sym e) in
    let fault : fault_numbered number ≡ fault_numbered by.number = ap (λ (own : Refusal). own.fault) by.own_is in
    let same_number : by.number ≡ number =
    sym (number_numbered by.number (in_table by.number by.place by.outcome_is)) ∙ sym (ap number_of fault) ∙ number_numbered number known in
    let same_place : place ≡ by.place = ap (λ (own : Refusal). own.place) by.own_is in
    rw (same_number, ← same_place) at by.outcome_is

answered_of : (outcome : Outcome Touched) (open_jobs inside_jobs steps : ℕ) (deadline : Option ℕ)
    → Touching open_jobs inside_jobs steps deadline ≡ touching_answer outcome → (t : Touched) × (outcome ≡ answer t)
answered_of (refused number place) open_jobs inside_jobs steps deadline e = let z : ◌≡◌ {A = ℕ} 0 1 = cc e in absurd (omega (arith, z))
answered_of (answer t) open_jobs inside_jobs steps deadline e = (t, refl)

-- The steps refuse for the one as for the other, where neither refuses by a number of theirs.
same_steps : {A B : Type 0} (steps : Outcome (Unit {0})) (one : Outcome A) (two : Outcome B) → RefusesBy (From 14 14) one → RefusesBy (From 19 24) two
    → (number place : ℕ) → From 15 18 number
    → (and_then steps (λ _. one) ≡ refused number place) ↔ (and_then steps (λ _. two) ≡ refused number place)
same_steps (refused n p) one two lower higher number place from = (same, same)
  where
    same : {C D : Type 0} → ◌≡◌ {A = Outcome C} (refused n p) (refused number place) → ◌≡◌ {A = Outcome D} (refused n p) (refused number place)
    same e =
        let same_number : n ≡ number = cc e in
        let same_place : p ≡ place = cc e in
        rw (same_number, same_place)
same_steps (answer done) one two lower higher number place from =
    (λ e. absurd (omega (arith, lower number place e)), λ e. absurd (omega (arith, higher number place e)))

-- the steps, and then whatever is next
steps_then : {B : Type 0} (jobs : List Job) (bounds plan : List ℕ) (next : Outcome B)
    → stepping jobs bounds plan next ≡ and_then (steps_alone jobs bounds plan) (λ _. next)
steps_then jobs bounds plan next = (both_stepping jobs bounds plan (both_alone tt)).is

-- members at the start of a list, and after them what was there
written : (members before after : List ℕ) → after ≡ listed members before → Written members before after
written members before after is =
    record {
      at_start = rw is (take-append_seam members (drop (length members) before));
      rest_stays = rw is (drop-append_seam members (drop (length members) before));
    }

-- three lists that are the same are the same lists
same_lists : (one two : Lists) → one.open_jobs ≡ two.open_jobs → one.inside_jobs ≡ two.inside_jobs → one.steps ≡ two.steps → one ≡ two
same_lists one two first second third = make first second third
  where
    make : {a b c d e f : List ℕ} → a ≡ b → c ≡ d → e ≡ f
        → ◌≡◌ {A = Lists} (record { open_jobs = a; inside_jobs = c; steps = e }) (record { open_jobs = b; inside_jobs = d; steps = f })
    make p q r = rw (p, q, r)

module _ (call : TouchingCall) where
  abbrev outcome : Outcome Touched
  outcome = touching call.job_bytes call.mark_bytes call.free call.margin call.plan call.start call.end call.before

  -- what touches the span, where these are the jobs and the marks
  abbrev found : List Job → (marks : List ℕ) → Touched
  found jobs marks = touched jobs (bounds_with marks jobs) call.plan call.start call.end

  abbrev made : List Job → (marks : List ℕ) → Lists
  made jobs marks =
      record { open_jobs = (found jobs marks).open_jobs; inside_jobs = (found jobs marks).inside_jobs; steps = (found jobs marks).steps }

  -- there is one answer, and one way to leave the lists
  one_answer : {after : Lists} {answered : TouchingAnswer} → Answers outcome call.before after answered → (call.answered ≡ answered) × (call.after ≡ after)
  one_answer answers = (call.contract.answer_is ∙ sym answers.answer_is, call.contract.lists_are ∙ sym answers.lists_are)

  refuses : (number place : ℕ) → Answers outcome call.before call.before (Err (refusal_at number place)) → RefusedCall call number place
  refuses number place answers = let (told, untouched) = one_answer answers in record { refusal = told; untouched = untouched }

  refused_call : (number place : ℕ) → outcome ≡ refused number place → RefusedCall call number place
  refused_call number place e = refuses number place (refused_answers number place e)

  was_refused : (number place : ℕ) → From 1 36 number → call.answered ≡ Err (refusal_at number place) → outcome ≡ refused number place
  was_refused number place known is = refused_of outcome in_table number place known (rw is at call.contract.answer_is)
    where
      in_table : RefusesBy (From 1 36) outcome
      in_table n p e = omega (arith, touching_refuses call.job_bytes call.mark_bytes call.free call.margin call.plan call.start call.end call.before n p e)

  wrong-span : WrongSpan call → outcome ≡ refused 33 0
  wrong-span wrong = touching_wrong_span _ _ _ _ _ _ _ _ wrong

  only_wrong : (place : ℕ) → call.answered ≡ Err (refusal_at 33 place) → WrongSpan call
  only_wrong place is = go (lt_or_le call.start call.end) (lt_or_le 1_000_000 call.end)
    where
      never : ReadNumbers 33 → WrongSpan call
      never (inl (inl jobs)) = absurd (omega arith)
      never (inl (inr marks)) = absurd (omega arith)
      never (inr (inl steps)) = absurd (omega arith)
      never (inr (inr room)) = absurd (omega arith)

      go : (call.start < call.end) ⊎ (call.end ≤ call.start) → (1_000_000 < call.end) ⊎ (call.end ≤ 1_000_000) → WrongSpan call
      go (inr empty) high = inl empty
      go (inl some) (inl late) = inr late
      go (inl some) (inr within) = never (touching_right_by _ _ _ _ _ _ _ _ some within 33 place (was_refused 33 place (omega arith) is))

  module _ (right : RightSpan call) where
    module _ (jobs : List Job) (marks : List ℕ) (read : ReadAs call jobs marks) where
      -- the steps decide, and then the room
      by_steps : outcome ≡ and_then (steps_alone jobs (bounds_with marks jobs) call.plan) (λ _. where_room call.before (found jobs marks))
      unfolding touching_for
      by_steps =
          touching_both_read _ _ _ _ _ _ _ _ right.0 right.1 read.given marks read.jobs_read read.marks_read jobs read.altered
          ∙ steps_then jobs (bounds_with marks jobs) call.plan _

      steps_refused : (number place : ℕ) → steps_alone jobs (bounds_with marks jobs) call.plan ≡ refused number place → outcome ≡ refused number place
      steps_refused number place e = by_steps ∙ rw e

      as_the_check : (level_bytes prices : List ℕ) (highest : ℕ) (entries levels : List Level)
          → read_levels level_bytes ≡ answer entries → alter_levels highest entries ≡ answer levels
          → (number place : ℕ) → From 15 18 number
          → (call.answered ≡ Err (refusal_at number place))
          ↔ (check level_bytes call.job_bytes call.mark_bytes (with_highest call highest) call.plan prices ≡ refused number place)
      as_the_check level_bytes prices highest entries levels levels_read levels_altered number place from =
          let bounds = bounds_with marks jobs in
          let site = site_of (tables_of (record { levels = levels; jobs = jobs })) marks in
          let (rest, is, past) = check_past_steps site call.plan prices in
          let checked =
          check_read level_bytes call.job_bytes call.mark_bytes (with_highest call highest) call.plan prices site
          (every_valid_table level_bytes call.job_bytes call.mark_bytes (with_highest call highest) entries levels read.given jobs marks levels_read
          read.jobs_read read.marks_read levels_altered read.altered) in
          let same =
          same_steps (steps_alone jobs bounds call.plan) (where_room call.before (found jobs marks)) rest (room_by call.before (found jobs marks)) past
          number place from in (
            λ told. checked ∙ (is ∙ (steps_then jobs bounds call.plan rest ∙ same.0 (sym by_steps ∙ was_refused number place (omega arith) told))),
            λ e. (refused_call number place (by_steps ∙ same.1 (sym (steps_then jobs bounds call.plan rest) ∙ (sym is ∙ (sym checked ∙ e))))).refusal,
          )

  -- nothing is wrong with what is read
  module _ (jobs : List Job) (marks : List ℕ) (sound : SoundCall call jobs marks) where
    comes_to : outcome ≡ where_room call.before (found jobs marks)
    comes_to = by_steps sound.right_span jobs marks sound.read ∙ rw sound.steps_sound

    wanted_made : Wanted call jobs marks (made jobs marks)
    unfolding touched
    wanted_made =
        let read = sound.read in
        let valid = altered_are_valid.1 _ _ read.given jobs (jobs_valid call.job_bytes read.given read.jobs_read) read.altered in
        let some = sound.right_span.0 in
        record {
          open-jobs = open_listed jobs valid call.start call.end some;
          inside-jobs = inside_listed jobs valid call.start call.end;
          steps = steps_listed jobs (bounds_with marks jobs) call.plan (bounds-with marks jobs valid.release_before_deadline).rises sound.steps_sound call.start call.end some;
        }

    lengths : LengthsWanted (found jobs marks) (length (made jobs marks).open_jobs) (length (made jobs marks).inside_jobs) (length (made jobs marks).steps)
    lengths = record { open_is = refl; inside_is = refl; steps_is = refl }

    open_too_short : length call.before.open_jobs < length (made jobs marks).open_jobs → RefusedCall call 14 (length (made jobs marks).open_jobs)
    open_too_short short = refuses 14 _ (same-answers comes_to (open_short call.before (found jobs marks) _ _ _ lengths short _ refl))

    module _ (open_fits : Fits (made jobs marks).open_jobs call.before.open_jobs) where
      inside_too_short : length call.before.inside_jobs < length (made jobs marks).inside_jobs → RefusedCall call 14 (length (made jobs marks).inside_jobs)
      inside_too_short short = refuses 14 _ (same-answers comes_to (inside_short call.before (found jobs marks) _ _ _ lengths open_fits short _ refl))

      module _ (inside_fits : Fits (made jobs marks).inside_jobs call.before.inside_jobs) where
        steps_too_short : length call.before.steps < length (made jobs marks).steps → RefusedCall call 14 (length (made jobs marks).steps)
        steps_too_short short =
            refuses 14 _ (same-answers comes_to (steps_short call.before (found jobs marks) _ _ _ lengths open_fits inside_fits short _ refl))

    answered_call : AllFit (made jobs marks) call.before → AnsweredCall call jobs (made jobs marks)
    unfolding touched
    answered_call fit =
        let (lengths-answered, left) =
        one_answer (same-answers comes_to
        (all_listed call.before (found jobs marks) _ _ _ lengths fit.open-jobs fit.inside-jobs fit.steps _ _ refl refl refl refl)) in
        record {
          deadline = nearest_answer (nearest_deadline jobs call.start);
          lengths = lengths-answered;
          is_nearest = nearest jobs call.start;
          open-jobs = written _ _ _ (ap (λ (l : Lists). l.open_jobs) left);
          inside-jobs = written _ _ _ (ap (λ (l : Lists). l.inside_jobs) left);
          steps = written _ _ _ (ap (λ (l : Lists). l.steps) left);
        }

  only_then : (open_jobs inside_jobs steps : ℕ) (deadline : Option ℕ) → call.answered ≡ Touching open_jobs inside_jobs steps deadline
      → (jobs : List Job) × (marks : List ℕ) × (wanted : Lists) × SoundCall call jobs marks × Wanted call jobs marks wanted × AllFit wanted call.before
  only_then open_jobs inside_jobs steps deadline is =
      let (t, e) = answered_of outcome open_jobs inside_jobs steps deadline (rw is at call.contract.answer_is) in
      let (right, at) = touching_answered _ _ _ _ _ _ _ _ t e in
      let (given, jobs, marks, jobs_read, marks_read, altered, rest) = at in
      let read : ReadAs call jobs marks = record { given = given; jobs_read = jobs_read; marks_read = marks_read; altered = altered } in
      let (done, steps_sound, room) = and_then_answered (steps_alone jobs (bounds_with marks jobs) call.plan) _ (sym (by_steps right jobs marks read) ∙ e) in
      let sound : SoundCall call jobs marks = record { right_span = right; read = read; steps_sound = steps_sound } in
      let (open_fits, room) = answered_within (length (made jobs marks).open_jobs) 14 _ _ room in
      let (inside_fits, room) = answered_within (length (made jobs marks).inside_jobs) 14 _ _ room in
      let (steps_fit, room) = answered_within (length (made jobs marks).steps) 14 _ _ room in
      (jobs, marks, made jobs marks, sound, wanted_made jobs marks sound, record { open-jobs = open_fits; inside-jobs = inside_fits; steps = steps_fit })

wanted_is_one : (call : TouchingCall) (jobs : List Job) (marks : List ℕ) (wanted other : Lists) → Wanted call jobs marks wanted → Wanted call jobs marks other → wanted ≡ other
wanted_is_one call jobs marks wanted other one two =
    same_lists wanted other (listed_once one.open-jobs two.open-jobs) (listed_once one.inside-jobs two.inside-jobs)
    (listed_once one.steps two.steps)

-- what is wanted is what was made
is_made : (call : TouchingCall) (jobs : List Job) (marks : List ℕ) (sound : SoundCall call jobs marks) (wanted : Lists) → Wanted call jobs marks wanted → wanted ≡ made call jobs marks
is_made call jobs marks sound wanted is = wanted_is_one call jobs marks wanted (made call jobs marks) is (wanted_made call jobs marks sound)

pub touched_spans : TouchedSpans
touched_spans =
    record {
      wrong-span = λ call wrong. refused_call call 33 0 (wrong-span call wrong);
      only_wrong_span = only_wrong;
      job-table = λ call number place right unread.
          refused_call call number place (touching_jobs_refused _ _ _ _ _ _ _ _ right.0 right.1 number place unread);
      mark-table = λ call jobs number place right read unread.
          refused_call call number place (touching_marks_refused _ _ _ _ _ _ _ _ right.0 right.1 jobs number place read unread);
      free_and_margin = λ call given marks number place right read marks_read unaltered.
          refused_call call number place (touching_parameters_refused _ _ _ _ _ _ _ _ right.0 right.1 given marks read marks_read number place unaltered);
      plan_steps = λ call jobs marks number place right read unsound.
          refused_call call number place (steps_refused call right jobs marks read number place unsound);
      as_the_check = λ call jobs marks right read. as_the_check call right jobs marks read;
      wanted_exist = λ call jobs marks sound. (made call jobs marks, wanted_made call jobs marks sound);
      wanted_is_one = wanted_is_one;
      open_too_short = λ call jobs marks sound wanted is. rw (is_made call jobs marks sound wanted is) (open_too_short call jobs marks sound);
      inside_too_short = λ call jobs marks sound wanted is. rw (is_made call jobs marks sound wanted is) (inside_too_short call jobs marks sound);
      steps_too_short = λ call jobs marks sound wanted is. rw (is_made call jobs marks sound wanted is) (steps_too_short call jobs marks sound);
      comes-out = λ call jobs marks sound wanted is. rw (is_made call jobs marks sound wanted is) (answered_call call jobs marks sound);
      only_then = only_then;
      every_call = λ job_bytes mark_bytes free margin plan start end before after answered contract. (
        record {
          job_bytes = job_bytes;
          mark_bytes = mark_bytes;
          free = free;
          margin = margin;
          plan = plan;
          start = start;
          end = end;
          before = before;
          after = after;
          answered = answered;
          contract = contract;
        },
        refl,
        refl,
        refl,
        refl,
        refl,
        refl,
        refl,
        refl,
        refl,
        refl,
      );
    }
