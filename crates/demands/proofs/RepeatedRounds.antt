-- Rounds repeat, over the calls themselves.
-- Assumes nothing.
use mathlib.Core.Path.{◌≡◌, refl, sym, ◌∙◌, ap}
use mathlib.Core.Bool.{true}
use mathlib.Core.List.{List, ◌++◌}
use Prim.Native.Nat.{ℕ, ◌*◌, ◌-◌, ◌<◌}
use native.Mathlib.Omega.{arith}
use lib.ListN.{length as size, drop}
use lib.Seq.{take_at}
use borrow.Author.Tests.{lt-ltb}
use Rattle.model.specs.declared.Job.{Job}
use Rattle.model.specs.declared.Parameters.{Parameters}
use Rattle.model.specs.Outcome.{Outcome, refused, answer}
use Rattle.model.specs.Jobs.{read_jobs, encode_jobs}
use Rattle.model.specs.SiteParameters.{alter_jobs}
use Rattle.model.specs.Processors.{top_of}
use Rattle.model.specs.Sites.{Site}
use Rattle.model.specs.Windows.{cycles_inside, is_overfull}
use Rattle.model.specs.Accepted.{Accepted}
use Rattle.model.specs.Demands.{ValidTables}
use Rattle.model.proofs.Outcome.{answer_injective}
use Rattle.model.proofs.Sites.{sites_are_valid, sound_site}
use Rattle.model.proofs.Accepted.{check_accepts, check_read}
use Rattle.model.proofs.SiteParameters.{levels_altered, jobs_altered}
use Rattle.model.proofs.Hypotheses.{every_valid_table, every_given_table}
use Rattle.tasks.specs.Rounds.{Round, table_length, rounds, buffer_after}
use Rattle.tasks.proofs.Rounds.{answered_round_is}
use Rattle.rounds.specs.declared.operation.LaidOut.{LaidOut as Lengths}
use Rattle.rounds.specs.RoundAnswers.{LaidOut, rounds_answer}
use Rattle.repeats.proofs.OverfullRepeats.{overfull_repeats}
use Rattle.repeats.proofs.RoundsThatRepeat.{rounds_that_repeat}
use Rattle.demands.proofs.SiteParts.{site_parts}
use Rattle.demands.specs.RepeatedRounds.{LayOutCall, jobs_written, Repeated, RepeatedRounds}

-- The round that a call answered.
record Answered (laid : LayOutCall) (length multiple : ℕ) : Type 0 where
  round : Round
  is : rounds laid.task_bytes (size laid.before) ≡ answer round
  same_length : length ≡ table_length round.jobs
  same_multiple : multiple ≡ round.multiple
  left : laid.after ≡ encode_jobs round.jobs ++ drop (table_length round.jobs) laid.before

answered_round : (laid : LayOutCall) (length multiple : ℕ) → laid.answered ≡ LaidOut length multiple → Answered laid length multiple
answered_round laid length multiple told = go (rounds laid.task_bytes (size laid.before)) refl (sym told ∙ laid.contract.answer_is) laid.contract.buffer_is
  where
    go : (outcome : Outcome Round) → rounds laid.task_bytes (size laid.before) ≡ outcome → LaidOut length multiple ≡ rounds_answer outcome
        → laid.after ≡ buffer_after outcome laid.before → Answered laid length multiple
    go (refused number place) is told left = let z : ◌≡◌ {A = ℕ} 0 1 = cc told in absurd (omega (arith, z))
    go (answer round) is told left =
        let lengths : ◌≡◌ {A = Lengths} (record { length = length; multiple = multiple }) (record { length = table_length round.jobs; multiple = round.multiple }) = cc told in
        record {
          round = round;
          is = is;
          same_length = ap (λ (l : Lengths). l.length) lengths;
          same_multiple = ap (λ (l : Lengths). l.multiple) lengths;
          left = left;
        }

module _ (laid : LayOutCall) (length multiple : ℕ) (found : Answered laid length multiple) where
  -- the bytes written are the round's job table
  written : jobs_written laid length ≡ encode_jobs found.round.jobs
  written =
      let law = answered_round_is laid.task_bytes (size laid.before) found.round found.is in
      rw (found.left, found.same_length) (take_at (encode_jobs found.round.jobs) _ _ law.table-length)

  -- and read back as its jobs
  jobs_read : read_jobs (jobs_written laid length) ≡ answer found.round.jobs
  jobs_read = rw written (answered_round_is laid.task_bytes (size laid.before) found.round found.is).reads_back

  -- the site's jobs are these, altered
  altered : (level_bytes mark_bytes : List ℕ) (parameters : Parameters) (site : Site) → ValidTables level_bytes (jobs_written laid length) mark_bytes parameters site
      → alter_jobs parameters.free parameters.margin found.round.jobs ≡ answer site.jobs
  altered level_bytes mark_bytes parameters site tables =
      let (given, marks, read, marks_read, is-altered, same-bounds) = site_parts level_bytes (jobs_written laid length) mark_bytes parameters site tables in
      ap (alter_jobs parameters.free parameters.margin) (answer_injective (sym jobs_read ∙ read)) ∙ is-altered

  repeats : (level_bytes mark_bytes : List ℕ) (parameters : Parameters) (site : Site) → ValidTables level_bytes (jobs_written laid length) mark_bytes parameters site
      → (plan prices : List ℕ) → Accepted site plan prices → (r : ℕ) → Repeated laid multiple parameters site plan prices r
  repeats level_bytes mark_bytes parameters site tables plan prices accepted r =
      rw found.same_multiple
      (rounds_that_repeat laid.task_bytes (size laid.before) found.round found.is parameters.free parameters.margin site
      (sites_are_valid _ _ _ _ site tables) (altered level_bytes mark_bytes parameters site tables) plan prices accepted r)

-- a window whose own jobs need more than the top frequency gives there is overfull
needs_more : (top : ℕ) (jobs : List Job) (start end : ℕ) → (end - start) * top < cycles_inside jobs start end → is_overfull top jobs start end ≡ true
unfolding is_overfull
needs_more top jobs start end more = lt-ltb _ _ more

pub repeated_rounds : RepeatedRounds
repeated_rounds =
    record {
      planned = λ laid length multiple told call same site tables intervals steps energy is r.
          repeats laid length multiple (answered_round laid length multiple told) call.level_bytes call.mark_bytes call.parameters site (rw same at tables) _ _
          (call.contract.best site tables intervals steps energy is).placed_and_priced r;
      checked = λ laid length multiple told level_bytes mark_bytes parameters plan prices figure accepted site tables r.
          repeats laid length multiple (answered_round laid length multiple told) level_bytes mark_bytes parameters site tables plan prices
          ((check_accepts site plan prices figure).0 (sym (check_read level_bytes _ mark_bytes parameters plan prices site tables) ∙ accepted)).0 r;
      overfull = λ laid length multiple told call same site tables start end spare is r some.
          overfull_repeats site (sound_site (sites_are_valid _ _ _ _ site tables)) start end
          (needs_more (top_of site.processor) site.jobs start end (call.contract.window site tables start end spare is).needs_more) multiple r some;
      every_round = λ laid length multiple told level_bytes mark_bytes parameters entries levels jobs altered marks read marks_read jobs_read levels-law jobs-law. (
        _,
        every_valid_table level_bytes (jobs_written laid length) mark_bytes parameters entries levels jobs altered marks read jobs_read marks_read
            ((levels_altered parameters.highest entries levels).1 levels-law) ((jobs_altered parameters.free parameters.margin jobs altered).1 jobs-law),
      );
      every_laid_out = λ laid length multiple told level_bytes mark_bytes entries marks read marks_read. (
        _,
        every_given_table level_bytes (jobs_written laid length) mark_bytes entries _ marks read
            (jobs_read laid length multiple (answered_round laid length multiple told)) marks_read,
      );
      every_call = λ task_bytes before after answered contract. (
        record { task_bytes = task_bytes; before = before; after = after; answered = answered; contract = contract },
        refl,
        refl,
        refl,
        refl,
      );
    }
