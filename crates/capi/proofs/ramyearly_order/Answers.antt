-- `ramyearly_order` meets its contract: the answer becomes its struct, and so does a refusal. Assumes nothing.
use Rattle.capi.proofs.Cases.{order_ordered, order_refused}
use Rattle.capi.proofs.ramyearly_order.Goals as goal

pub returns-in-Ok : goal.returns-in-Ok
returns-in-Ok c = order_ordered _ _ _ _ _ _ _ _ _ (rw c.in-Ok.is at c.order.ensures)

pub returns-in-Err : goal.returns-in-Err
returns-in-Err c = rw c.number.ensures (order_refused _ _ _ _ _ _ _ _ _ (rw c.in-Err.is at c.order.ensures))
