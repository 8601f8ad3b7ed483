-- `steps::number_after` meets its contract. Each way out rests on the tests that led there, by the laws of proofs/Walking.antt.
-- Assumes nothing.
use mathlib.Core.Path.{sym, ◌∙◌}
use native.Mathlib.Omega.{arith}
use Rattle.model.proofs.Faults.{plan-length}
use Rattle.walking.proofs.Walking.{number_found, number_past, walk_refused, walk_answered}
use Rattle.walking.proofs.steps.number_after.Goals as goal

pub returns-then-wrong_length : goal.returns-then-wrong_length
returns-then-wrong_length c = rw (walk_refused _ (sym c.wrong_length.ensures ∙ c.if-wrong_length.true))

pub step_count-requires : goal.step_count-requires
step_count-requires c = (plan-length _).0 (sym c.wrong_length.ensures ∙ c.if-wrong_length.false)

pub returns-then-step_count-position : goal.returns-then-step_count-position
returns-then-step_count-position c =
    rw (walk_answered _ (sym c.wrong_length.ensures ∙ c.if-wrong_length.false))
    (number_past _ _ _ (omega (arith, c.step_count.ensures.0)))

pub returns : goal.returns
returns c =
    rw (walk_answered _ (sym c.wrong_length.ensures ∙ c.if-wrong_length.false))
    (number_found _ _ _ (omega (arith, c.step_count.ensures.0)))
