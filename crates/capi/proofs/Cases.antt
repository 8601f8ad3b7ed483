-- From the answer of an operation to the struct for C, and that a setting's gap fits its field.
-- Assumes nothing.
use mathlib.Core.Path.{◌≡◌, refl, sym, ap}
use mathlib.Core.Bool.{not, ◌&&◌}
use mathlib.Core.Logic.{◌⊎◌, inl, inr}
use mathlib.Core.List.{List}
use Prim.Native.Nat.{ℕ, zero, suc, ◌*◌, ◌<◌, ◌≤◌}
use native.Mathlib.Omega.{arith}
use lib.Dec.{ltb, leb}
use lib.ListN.{length, get_or-eq_default}
use lib.IntN.{ℤ, pos}
use Rattle.std.specs.Prelude.{Option, Some, None, Ok, Err}
use Rattle.std.specs.Option.{unwrap_or}
use Rattle.model.specs.declared.Parameters.{Parameters}
use Rattle.model.specs.declared.refusal.Refusal.{Refusal}
use Rattle.model.specs.Limits.{max_frequency, max_deadline}
use Rattle.model.specs.Outcome.{Outcome, refused, answer, From, RefusesBy}
use Rattle.model.specs.Refusals.{number_of}
use Rattle.model.specs.Points.{Point, idling_point}
use Rattle.model.specs.Bands.{frequency_of, gap}
use Rattle.model.specs.Processors.{Processor, working_of, top_of, read_processor, ValidProcessor}
use Rattle.model.specs.Setting.{Setting, band_of, setting_of, setting}
use Rattle.model.specs.Windows.{spare}
use Rattle.model.specs.Checking.{fits, check}
use Rattle.model.proofs.Numbers.{lt_or_le}
use Rattle.model.proofs.Outcome.{answered_past, answer_injective, and_then_answered}
use Rattle.model.proofs.Refusals.{RefusedBy, returned_refused, returned_answered, number_numbered}
use Rattle.model.proofs.RefusalNumbers.{fits_by, check_by, setting_by, spare_by}
use Rattle.model.proofs.Sites.{processors_are_valid}
use Rattle.settings.specs.declared.interval.IntervalSetting.{IntervalSetting}
use Rattle.settings.specs.Settings.{setting_answer}
use Rattle.levels.proofs.SmallPoints.{working_small, working_held}
use Rattle.spare.specs.Answers.{spare_answer}
use Rattle.audit.specs.Answers.{fits_answer, check_answer}
use Rattle.tasks.specs.Rounds.{Round, rounds}
use Rattle.tasks.proofs.Rounds.{rounds_refuse}
use Rattle.rounds.specs.declared.operation.LaidOut.{LaidOut}
use Rattle.rounds.specs.RoundAnswers.{RoundsContract}
use Rattle.ordering.specs.Ordering.{order}
use Rattle.ordering.specs.OrderAnswers.{OrderContract}
use Rattle.ordering.proofs.Ordering.{order_refuses}
use Rattle.spans.specs.Spans.{Touched}
use Rattle.touching.specs.declared.operation.ListLengths.{ListLengths}
use Rattle.touching.specs.Touching.{Lists, touching}
use Rattle.touching.specs.TouchingAnswers.{TouchingContract}
use Rattle.touching.proofs.TouchingRefusals.{touching_refuses}
use Rattle.capi.specs.Results.{fits_result, check_result, setting_result, spare_result, RoundsCall, OrderCall}
use Rattle.capi.specs.Results.{deadline_number, TouchingCall}

-- An operation that refuses by numbers of the table alone: the number and the place of a refusal that is returned are the outcome's.
pub number_told : {A : Type 0} {outcome : Outcome A} {own : Refusal} → RefusesBy (From 1 36) outcome → RefusedBy outcome own
    → outcome ≡ refused (number_of own.fault) own.place
number_told {own = own} refuses by =
    let same_number : number_of own.fault ≡ by.number = rw by.own_is (number_numbered by.number (refuses by.number by.place by.outcome_is)) in
    let same_place : own.place ≡ by.place = rw by.own_is refl in
    rw (same_number, same_place) by.outcome_is

module _ (level_bytes job_bytes mark_bytes : List ℕ) (parameters : Parameters) (plan : List ℕ) where
  abbrev own_fits : Outcome ℕ
  own_fits = fits level_bytes job_bytes mark_bytes parameters plan

  pub plan_fits : (energy : ℕ) → Ok energy ≡ fits_answer own_fits → record { number = 0; place = 0; energy = energy } ≡ fits_result own_fits
  plan_fits energy told = let (found, is, same) = returned_answered _ own_fits energy (sym told) in rw (is, same) refl

  pub plan_refused : (own : Refusal) → Err own ≡ fits_answer own_fits
      → record { number = number_of own.fault; place = own.place; energy = 0 } ≡ fits_result own_fits
  plan_refused own told = rw (number_told in_table (returned_refused _ own_fits own (sym told))) refl
    where
      in_table : RefusesBy (From 1 36) own_fits
      in_table number place e = omega (arith, fits_by level_bytes job_bytes mark_bytes parameters plan number place e)

module _ (level_bytes job_bytes mark_bytes : List ℕ) (parameters : Parameters) (plan prices : List ℕ) where
  abbrev own_check : Outcome ℕ
  own_check = check level_bytes job_bytes mark_bytes parameters plan prices

  pub check_accepted : (energy : ℕ) → Ok energy ≡ check_answer own_check → record { number = 0; place = 0; energy = energy } ≡ check_result own_check
  check_accepted energy told = let (found, is, same) = returned_answered _ own_check energy (sym told) in rw (is, same) refl

  pub check_refused : (own : Refusal) → Err own ≡ check_answer own_check
      → record { number = number_of own.fault; place = own.place; energy = 0 } ≡ check_result own_check
  check_refused own told = rw (number_told in_table (returned_refused _ own_check own (sym told))) refl
    where
      in_table : RefusesBy (From 1 36) own_check
      in_table number place e = omega (arith, check_by level_bytes job_bytes mark_bytes parameters plan prices number place e)

module _ (bytes : List ℕ) (highest length load : ℕ) where
  abbrev own_setting : Outcome Setting
  own_setting = setting bytes highest length load

  pub setting_set : (found : IntervalSetting) → Ok found ≡ setting_answer own_setting
      → record { number = 0; place = 0; band = found.band; gap = found.gap; extra = found.extra } ≡ setting_result own_setting
  setting_set found told =
      let (set, is, same) = returned_answered _ own_setting found (sym told) in
      let back = sym same in
      rw is (λ k. record { number = 0; place = 0; band = (back k).band; gap = (back k).gap; extra = (back k).extra })

  pub setting_refused : (own : Refusal) → Err own ≡ setting_answer own_setting
      → record { number = number_of own.fault; place = own.place; band = 0; gap = 0; extra = 0 } ≡ setting_result own_setting
  setting_refused own told = rw (number_told in_table (returned_refused _ own_setting own (sym told))) refl
    where
      in_table : RefusesBy (From 1 36) own_setting
      in_table number place e = omega (arith, setting_by bytes highest length load number place e)

module _ (level_bytes job_bytes : List ℕ) (parameters : Parameters) (start end : ℕ) where
  abbrev own_spare : Outcome ℤ
  own_spare = spare level_bytes job_bytes parameters start end

  pub spare_found : (z : ℤ) → Ok z ≡ spare_answer own_spare → record { number = 0; place = 0; spare = z } ≡ spare_result own_spare
  spare_found z told = let (found, is, same) = returned_answered _ own_spare z (sym told) in rw (is, same) refl

  pub spare_refused : (own : Refusal) → Err own ≡ spare_answer own_spare
      → record { number = number_of own.fault; place = own.place; spare = pos 0 } ≡ spare_result own_spare
  spare_refused own told = rw (number_told in_table (returned_refused _ own_spare own (sym told))) refl
    where
      in_table : RefusesBy (From 1 36) own_spare
      in_table number place e = omega (arith, spare_by level_bytes job_bytes parameters start end number place e)

module _ (task_bytes before after : List ℕ) where
  abbrev own_rounds : Outcome Round
  own_rounds = rounds task_bytes (length before)

  pub rounds_laid_out : (found : LaidOut) → RoundsContract task_bytes before after (Ok found)
      → RoundsCall task_bytes before after (record { number = 0; place = 0; length = found.length; multiple = found.multiple })
  rounds_laid_out found h =
      let (round, is, same) = returned_answered _ own_rounds found (sym h.answer_is) in
      let back = sym same in
      record {
        result_is = rw is (λ k. record { number = 0; place = 0; length = (back k).length; multiple = (back k).multiple });
        buffer_is = h.buffer_is;
      }

  pub rounds_refused : (own : Refusal) → RoundsContract task_bytes before after (Err own)
      → RoundsCall task_bytes before after (record { number = number_of own.fault; place = own.place; length = 0; multiple = 0 })
  rounds_refused own h =
      record { result_is = rw (number_told in_table (returned_refused _ own_rounds own (sym h.answer_is))) refl; buffer_is = h.buffer_is }
    where
      in_table : RefusesBy (From 1 36) own_rounds
      in_table number place e = omega (arith, rounds_refuse task_bytes (length before) number place e)

module _ (level_bytes job_bytes mark_bytes : List ℕ) (parameters : Parameters) (plan prices before after : List ℕ) where
  abbrev own_order : Outcome (List ℕ)
  own_order = order level_bytes job_bytes mark_bytes parameters plan prices (length before)

  pub order_ordered : (size : ℕ) → OrderContract level_bytes job_bytes mark_bytes parameters plan prices before after (Ok size)
      → OrderCall level_bytes job_bytes mark_bytes parameters plan prices before after (record { number = 0; place = 0; length = size })
  order_ordered size h =
      let (ordered, is, same) = returned_answered _ own_order size (sym h.answer_is) in
      record { result_is = rw (is, same) refl; buffer_is = h.buffer_is }

  pub order_refused : (own : Refusal) → OrderContract level_bytes job_bytes mark_bytes parameters plan prices before after (Err own)
      → OrderCall level_bytes job_bytes mark_bytes parameters plan prices before after (record { number = number_of own.fault; place = own.place; length = 0 })
  order_refused own h =
      record { result_is = rw (number_told in_table (returned_refused _ own_order own (sym h.answer_is))) refl; buffer_is = h.buffer_is }
    where
      in_table : RefusesBy (From 1 36) own_order
      in_table number place e = omega (arith, order_refuses level_bytes job_bytes mark_bytes parameters plan prices (length before) number place e)

-- the nearest deadline as one number
pub unwrapped : (deadline : Option ℕ) → unwrap_or deadline 0 ≡ deadline_number deadline
unwrapped None = refl
unwrapped (Some deadline) = refl

module _ (job_bytes mark_bytes : List ℕ) (free margin : ℕ) (plan : List ℕ) (start end : ℕ) (before after : Lists) where
  abbrev own_touching : Outcome Touched
  own_touching = touching job_bytes mark_bytes free margin plan start end before

  pub touching_touched : (found : ListLengths) (deadline : ℕ) → deadline ≡ deadline_number found.deadline
      → TouchingContract job_bytes mark_bytes free margin plan start end before after (Ok found)
      → TouchingCall job_bytes mark_bytes free margin plan start end before after (record {
        number = 0;
        place = 0;
        open_jobs = found.open_jobs;
        inside_jobs = found.inside_jobs;
        steps = found.steps;
        deadline = deadline;
      })
  touching_touched found deadline deadline_is h =
      let (t, is, same) = returned_answered _ own_touching found (sym h.answer_is) in
      let back = sym same in
      record {
        result_is = rw (is, deadline_is) (λ k. record {
          number = 0;
          place = 0;
          open_jobs = (back k).open_jobs;
          inside_jobs = (back k).inside_jobs;
          steps = (back k).steps;
          deadline = deadline_number (back k).deadline;
        });
        lists_are = h.lists_are;
      }

  pub touching_refused : (own : Refusal) → TouchingContract job_bytes mark_bytes free margin plan start end before after (Err own)
      → TouchingCall job_bytes mark_bytes free margin plan start end before after (record {
        number = number_of own.fault;
        place = own.place;
        open_jobs = 0;
        inside_jobs = 0;
        steps = 0;
        deadline = 0;
      })
  touching_refused own h =
      record { result_is = rw (number_told in_table (returned_refused _ own_touching own (sym h.answer_is))) refl; lists_are = h.lists_are }
    where
      in_table : RefusesBy (From 1 36) own_touching
      in_table number place e = omega (arith, touching_refuses job_bytes mark_bytes free margin plan start end before number place e)

-- no working level is above the highest frequency
module _ (processor : Processor) (valid : ValidProcessor processor) where
  frequency_high : (k : ℕ) → frequency_of (working_of processor) k ≤ max_frequency
  frequency_high k = go (lt_or_le k (length (working_of processor)))
    where
      go : (k < length (working_of processor)) ⊎ (length (working_of processor) ≤ k) → frequency_of (working_of processor) k ≤ max_frequency
      go (inl inside) = rw (working_held processor valid) at ((working_small processor valid).frequency_high k inside)
      go (inr past) =
          let past_all = ap (λ (p : Point). p.frequency) (get_or-eq_default (working_of processor) (idling_point 0) past) in
          omega arith

  setting_of_gap : (length load : ℕ) → (setting_of (working_of processor) length load).gap ≤ max_frequency
  unfolding setting_of gap
  setting_of_gap length zero = omega arith
  setting_of_gap length (suc cycles) = omega (arith, frequency_high (suc (band_of (working_of processor) length (suc cycles))))

answered_gap : (bytes : List ℕ) (highest length load : ℕ) (s : Setting) → setting bytes highest length load ≡ answer s → s.gap ≤ max_frequency
unfolding setting
answered_gap bytes highest length load s answered =
    let (processor, read, e) = and_then_answered (read_processor bytes highest) _ answered in
    let (long, e) = answered_past (not (leb 1 length && leb length max_deadline)) 25 _ e in
    let (fits, e) = answered_past (ltb (length * top_of processor) load) 26 _ e in
    rw (answer_injective e) at (setting_of_gap processor (processors_are_valid bytes highest processor read) length load)

-- the gap that a setting answers
pub gap_small : (bytes : List ℕ) (highest length load : ℕ) (found : IntervalSetting) → Ok found ≡ setting_answer (setting bytes highest length load)
    → found.gap ≤ max_frequency
gap_small bytes highest length load found told =
    let (s, is, same) = returned_answered _ (setting bytes highest length load) found (sym told) in
    rw (← same) (answered_gap bytes highest length load s is)
