-- The operation, one law for each way out.
-- Assumes nothing.
use mathlib.Core.Path.{◌≡◌, ◌∙◌}
use mathlib.Core.List.{List}
use mathlib.Core.Option.{none, some}
use Prim.Native.Nat.{ℕ, suc, ◌*◌, ◌-◌, ◌<◌, ◌≤◌}
use native.Mathlib.Omega.{arith}
use lib.ListN.{length, get_or}
use lib.IntN.{ℤ}
use borrow.Author.Tests.{lt-ltb, le-ltb}
use Rattle.std.specs.Prelude.{Some, Err}
use Rattle.model.specs.declared.Job.{Job}
use Rattle.model.specs.declared.Parameters.{Parameters}
use Rattle.model.specs.declared.refusal.Refusal.{Refusal}
use Rattle.model.specs.Limits.{max_frequency, max_deadline}
use Rattle.model.specs.Outcome.{answer}
use Rattle.model.specs.Jobs.{job_of, ValidJobs}
use Rattle.model.specs.Processors.{top_of}
use Rattle.model.specs.Sites.{Tables, read_tables}
use Rattle.model.specs.Windows.{spare_of, earliest_overfull}
use Rattle.model.proofs.Refusals.{RefusedBy}
use Rattle.model.proofs.Search.{first_below_law}
use Rattle.spans.specs.SpanAnswers.{listed}
use Rattle.windows.specs.declared.overfull.Window.{Window}
use Rattle.windows.specs.Answers.{overfull_answer}
use Rattle.windows.proofs.Answers.{window_is}
use Rattle.windows.proofs.Capacity.{capacity_small}
use Rattle.spare.specs.declared.unmet.NoAnswer.TheVariants.{Refused as RefusedFor}
use Rattle.room_order.specs.RoomOrder.{room_list}
use Rattle.room_order.specs.Ordered.{room_in}
use Rattle.room_order.proofs.Places.{length_room_list, room_list_alike}
use Rattle.job_rooms.specs.AddedCycles.{with_added, is_overfull_set, room_of}
use Rattle.nearest.specs.Nearest.{list_fitting, nearest_for, nearest}
use Rattle.nearest.specs.NearestAnswers.{NearestAnswer, Listed, Overfull, Refused, Answers, NearestContract}

-- a set that fits
module _ (top : ℕ) (jobs : List Job) (before : List ℕ) where
  pub list_short : (place : ℕ) → place ≡ 2 * length jobs → length before < place → Answers (list_fitting top jobs) before before (Refused 14 place)
  unfolding list_fitting
  list_short place is short = record { answer_is = rw (← is, lt-ltb _ _ short); list_is = rw (← is, lt-ltb _ _ short) }

  pub list_written : (rooms after : List ℕ) (count wanted : ℕ) → count ≡ length jobs → wanted ≡ 2 * count → wanted ≤ length before
      → ((j : ℕ) → j < length jobs → get_or rooms j 0 ≡ room_of top jobs j) → after ≡ listed (room_list (room_in rooms) count) before
      → Answers (list_fitting top jobs) before after (Listed wanted)
  unfolding list_fitting
  list_written rooms after count wanted counted is enough rooms_are is_after =
      let fits : 2 * length jobs ≤ length before = omega arith in
      record {
        answer_is = rw (le-ltb _ _ fits, length_room_list (room_of top jobs) (length jobs), is, counted);
        list_is = rw (le-ltb _ _ fits) (is_after ∙ rw (counted, room_list_alike (room_in rooms) (room_of top jobs) (length jobs) rooms_are));
      }

-- a room is small: it is below what the top frequency gives in the job's own window
pub room_small : (top : ℕ) (jobs : List Job) → ValidJobs jobs → top ≤ max_frequency → (j : ℕ) → j < length jobs → room_of top jobs j ≤ max_deadline * max_frequency
unfolding room_of
room_small top jobs valid slow j below =
    omega (
      arith,
      (first_below_law (((job_of jobs j).deadline - (job_of jobs j).release) * top) (λ added. is_overfull_set top (with_added jobs j (suc added)))).within,
      capacity_small (job_of jobs j).release (job_of jobs j).deadline top (valid.deadline_high j below) slow,
    )

-- tables that were read
module _ (tables : Tables) (before : List ℕ) where
  pub window_found : (top : ℕ) (window : Window) (spare : ℤ) → top ≡ top_of tables.processor
      → overfull_answer (earliest_overfull top tables.jobs) ≡ Some window
      → spare ≡ spare_of top tables.jobs window.start window.end → Answers (nearest_for tables) before before (Overfull window.start window.end spare)
  unfolding nearest_for
  window_found top window spare is-top found is =
      let here : earliest_overfull (top_of tables.processor) tables.jobs ≡ some (record { start = window.start; end = window.end }) =
      rw (← is-top) (window_is (earliest_overfull top tables.jobs) window found) in
      record { answer_is = rw (here, ← is-top, is); list_is = rw here }

  pub set_fits : (top : ℕ) → top ≡ top_of tables.processor → earliest_overfull top tables.jobs ≡ none
      → {after : List ℕ} {answered : NearestAnswer} → Answers (list_fitting top tables.jobs) before after answered → Answers (nearest_for tables) before after answered
  unfolding nearest_for
  set_fits top is fits answers =
      let none_here : earliest_overfull (top_of tables.processor) tables.jobs ≡ none = rw (← is) fits in
      record { answer_is = rw none_here (rw is at answers.answer_is); list_is = rw none_here (rw is at answers.list_is) }

-- bytes that are refused or read
module _ (level_bytes job_bytes : List ℕ) (parameters : Parameters) (before : List ℕ) where
  pub tables_refused : (own : Refusal) → RefusedBy (read_tables level_bytes job_bytes parameters) own
      → NearestContract level_bytes job_bytes parameters before before (Err (RefusedFor own))
  unfolding nearest
  tables_refused own by = record { answer_is = rw (by.own_is, by.outcome_is); list_is = rw by.outcome_is }

  pub tables_answered : (tables : Tables) → read_tables level_bytes job_bytes parameters ≡ answer tables → {after : List ℕ} {answered : NearestAnswer}
      → Answers (nearest_for tables) before after answered → NearestContract level_bytes job_bytes parameters before after answered
  unfolding nearest
  tables_answered tables e answers = record { answer_is = rw e answers.answer_is; list_is = rw e answers.list_is }
