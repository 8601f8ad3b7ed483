-- The turns of a walk: a step's number is below the plan's step count, and the reading after it has a higher number. So a walk ends.
-- Assumes nothing.
use mathlib.Core.Path.{◌≡◌, refl, sym, ◌∙◌, ap}
use mathlib.Core.Bool.{Bool, true, false}
use mathlib.Core.Logic.{◌⊎◌, inl, inr}
use mathlib.Core.List.{List}
use Prim.Native.Nat.{ℕ, zero, suc, ◌-◌, ◌<◌, ◌≤◌}
use native.Mathlib.Omega.{arith}
use Rattle.std.specs.Prelude.{Some, None, Ok, Err}
use Rattle.model.specs.Refusals.{refusal}
use Rattle.model.specs.Steps.{step_count, step_at, wrong_plan_length, walk}
use Rattle.model.proofs.Numbers.{lt_or_le, true≢false}
use Rattle.walking.specs.declared.walk.StepReading.{StepReading}
use Rattle.walking.specs.declared.walk.Taken.{Taken}
use Rattle.walking.specs.Walking.{StepAnswer, step_answer, number_after}
use Rattle.walking.specs.Readings.{answer_of, taken}
use Rattle.walking.proofs.Walking.{step_past, walk_refused, walk_answered}
use Rattle.test_check.specs.Printing.{is_step}

-- only below the step count does a step stand
pub step_below : (plan : List ℕ) (number : ℕ) → is_step (step_answer (walk plan) number) ≡ true → number < step_count plan
step_below plan number step = go (wrong_plan_length plan) refl
  where
    at : wrong_plan_length plan ≡ false → (number < step_count plan) ⊎ (step_count plan ≤ number) → number < step_count plan
    at right (inl below) = below
    at right (inr past) =
        let ended : step_answer (walk plan) number ≡ Ok None = rw (walk_answered plan right) (ap Ok (sym (step_past (step_count plan) (step_at plan) number past))) in
        absurd (true≢false (sym step ∙ ap is_step ended))

    go : (wrong : Bool) → wrong_plan_length plan ≡ wrong → number < step_count plan
    go true wrong = let own : step_answer (walk plan) number ≡ Err (refusal 15 0) = rw (walk_refused plan wrong) in absurd (true≢false (sym step ∙ ap is_step own))
    go false right = at right (lt_or_le number (step_count plan))

-- after a step the number is one higher
pub number_suc : (answer : StepAnswer) (number : ℕ) → is_step answer ≡ true → number_after answer number ≡ suc number
number_suc (Ok (Some step)) number e = refl
number_suc (Ok None) number e = absurd (true≢false (sym e))
number_suc (Err own) number e = absurd (true≢false (sym e))

-- how many turns are left at most
abbrev pub left_after : (step : Bool) → (count number : ℕ) → ℕ
left_after true count number = suc (count - number)
left_after false count number = zero

abbrev pub turns_left : (plan : List ℕ) → Taken → ℕ
turns_left plan got = left_after (is_step got.answer) (step_count plan) got.rest.next

-- taking from a reading leaves at most as many turns as there are numbers from the reading's to the step count
fewer : (reading : StepReading) → turns_left reading.plan.now (taken reading) < suc (step_count reading.plan.now - reading.next)
fewer reading = go (is_step (answer_of reading)) refl
  where
    go : (step : Bool) → is_step (answer_of reading) ≡ step
        → left_after step (step_count reading.plan.now) (taken reading).rest.next < suc (step_count reading.plan.now - reading.next)
    go false e = omega arith
    go true e = omega (arith, number_suc (answer_of reading) reading.next e, step_below reading.plan.now reading.next e)

-- after a turn that took a step of the plan, the next has fewer turns left
pub nearer : (plan : List ℕ) (got later : Taken) → got.rest.plan.now ≡ plan → is_step got.answer ≡ true → later ≡ taken got.rest
    → turns_left plan later < turns_left plan got
nearer plan got later same step e = rw (e, step, sym same) (fewer got.rest)
