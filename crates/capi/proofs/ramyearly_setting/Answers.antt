-- `ramyearly_setting` meets its contract: the answer becomes its struct, and so does a refusal; and the gap, at most the highest
-- frequency, fits its field. Assumes nothing.
use mathlib.Core.Path.{◌∙◌, sym}
use native.Mathlib.Omega.{arith}
use Rattle.capi.proofs.Cases.{setting_set, setting_refused, gap_small}
use Rattle.capi.proofs.ramyearly_setting.Goals as goal

pub overflow_cast-result : goal.overflow_cast-result
overflow_cast-result c = omega (arith, gap_small _ _ _ _ _ (sym c.in-Ok.is ∙ c.setting.ensures))

pub returns-in-Ok : goal.returns-in-Ok
returns-in-Ok c = setting_set _ _ _ _ _ (sym c.in-Ok.is ∙ c.setting.ensures)

pub returns-in-Err : goal.returns-in-Err
returns-in-Err c = rw c.number.ensures (setting_refused _ _ _ _ _ (sym c.in-Err.is ∙ c.setting.ensures))
