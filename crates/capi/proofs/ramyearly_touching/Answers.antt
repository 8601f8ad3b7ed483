-- `ramyearly_touching` meets its contract: the answer becomes its struct, and so does a refusal. Assumes nothing.
use mathlib.Core.Path.{◌∙◌}
use Rattle.capi.proofs.Cases.{unwrapped, touching_touched, touching_refused}
use Rattle.capi.proofs.ramyearly_touching.Goals as goal

pub returns-in-Ok : goal.returns-in-Ok
returns-in-Ok c =
    touching_touched _ _ _ _ _ _ _ _ _ _ _ (c.unwrap_or.ensures ∙ unwrapped c.in-Ok.listed.deadline)
    (rw c.in-Ok.is at c.touching-answer.ensures)

pub returns-in-Err : goal.returns-in-Err
returns-in-Err c =
    rw c.number.ensures (touching_refused _ _ _ _ _ _ _ _ _ _ (rw c.in-Err.is at c.touching-answer.ensures))
