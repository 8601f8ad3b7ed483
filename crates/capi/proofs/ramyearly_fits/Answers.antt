-- `ramyearly_fits` meets its contract: the answer becomes its struct, and so does a refusal. Assumes nothing.
use mathlib.Core.Path.{◌∙◌, sym}
use Rattle.capi.proofs.Cases.{plan_fits, plan_refused}
use Rattle.capi.proofs.ramyearly_fits.Goals as goal

pub returns-in-Ok : goal.returns-in-Ok
returns-in-Ok c = plan_fits _ _ _ _ _ _ (sym c.in-Ok.is ∙ c.fits.ensures)

pub returns-in-Err : goal.returns-in-Err
returns-in-Err c = rw c.number.ensures (plan_refused _ _ _ _ _ _ (sym c.in-Err.is ∙ c.fits.ensures))
