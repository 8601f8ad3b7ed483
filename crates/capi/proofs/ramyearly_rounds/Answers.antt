-- `ramyearly_rounds` meets its contract: the answer becomes its struct, and so does a refusal. Assumes nothing.
use Rattle.capi.proofs.Cases.{rounds_laid_out, rounds_refused}
use Rattle.capi.proofs.ramyearly_rounds.Goals as goal

pub returns-in-Ok : goal.returns-in-Ok
returns-in-Ok c = rounds_laid_out _ _ _ _ (rw c.in-Ok.is at c.rounds.ensures)

pub returns-in-Err : goal.returns-in-Err
returns-in-Err c = rw c.number.ensures (rounds_refused _ _ _ _ (rw c.in-Err.is at c.rounds.ensures))
