-- `ramyearly_check` meets its contract: the answer becomes its struct, and so does a refusal. Assumes nothing.
use mathlib.Core.Path.{◌∙◌, sym}
use Rattle.capi.proofs.Cases.{check_accepted, check_refused}
use Rattle.capi.proofs.ramyearly_check.Goals as goal

pub returns-in-Ok : goal.returns-in-Ok
returns-in-Ok c = check_accepted _ _ _ _ _ _ _ (sym c.in-Ok.is ∙ c.check.ensures)

pub returns-in-Err : goal.returns-in-Err
returns-in-Err c = rw c.number.ensures (check_refused _ _ _ _ _ _ _ (sym c.in-Err.is ∙ c.check.ensures))
