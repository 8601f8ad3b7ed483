-- `sums::add_plan` meets its contract. Each way out rests on the test of the plan's length. Assumes nothing.
use mathlib.Core.Path.{sym, ◌∙◌}
use Rattle.model.proofs.Faults.{plan-length}
use Rattle.fitting.specs.Sums.{plan_sums, plan_loads}
use Rattle.fitting.proofs.sums.add_plan.Goals as goal

pub add_steps-requires : goal.add_steps-requires
add_steps-requires c =
    record { plan_len = (plan-length _).0 (sym c.wrong_length.ensures ∙ c.if-not-wrong_length.true); sums_value = c.requires }

pub returns-then-not-wrong_length : goal.returns-then-not-wrong_length
unfolding plan_sums plan_loads
returns-then-not-wrong_length c =
    rw (sym c.wrong_length.ensures ∙ c.if-not-wrong_length.true) c.add_steps.ensures

pub returns-else-not-wrong_length : goal.returns-else-not-wrong_length
unfolding plan_sums plan_loads
returns-else-not-wrong_length c = rw (sym c.wrong_length.ensures ∙ c.if-not-wrong_length.false) c.requires
