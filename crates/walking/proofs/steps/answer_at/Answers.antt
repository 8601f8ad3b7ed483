-- `steps::answer_at` meets its contract. Each way out rests on the tests that led there, by the laws of proofs/Walking.antt.
-- Assumes nothing.
use mathlib.Core.Path.{sym, ◌∙◌, ap}
use native.Mathlib.Omega.{arith}
use Rattle.std.specs.Prelude.{Some, Ok}
use Rattle.model.proofs.Faults.{plan-length}
use Rattle.walking.proofs.Walking.{step_found, step_past, walk_refused, walk_answered}
use Rattle.walking.proofs.steps.answer_at.Goals as goal

pub returns-then-wrong_length : goal.returns-then-wrong_length
returns-then-wrong_length c = rw (c.at.ensures, walk_refused _ (sym c.wrong_length.ensures ∙ c.if-wrong_length.true))

pub step_count-requires : goal.step_count-requires
step_count-requires c = (plan-length _).0 (sym c.wrong_length.ensures ∙ c.if-wrong_length.false)

pub decode_step-requires : goal.decode_step-requires
decode_step-requires c =
    ((plan-length _).0 (sym c.wrong_length.ensures ∙ c.if-wrong_length.false), omega (arith, c.step_count.ensures.0))

pub returns-then-position-step_count : goal.returns-then-position-step_count
returns-then-position-step_count c =
    rw (walk_answered _ (sym c.wrong_length.ensures ∙ c.if-wrong_length.false))
    (ap Ok (ap Some c.decode_step.ensures.0 ∙ step_found _ _ _ (omega (arith, c.step_count.ensures.0))))

pub returns : goal.returns
returns c =
    rw (walk_answered _ (sym c.wrong_length.ensures ∙ c.if-wrong_length.false))
    (ap Ok (step_past _ _ _ (omega (arith, c.step_count.ensures.0))))
