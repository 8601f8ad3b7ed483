-- `multiple::common_multiple` meets its contract. Assumes nothing.
use Rattle.task_tables.proofs.FoundMultiples.{common_turned}
use Rattle.task_tables.proofs.multiple.common_multiple.Goals as goal

pub returns-then-one-other : goal.returns-then-one-other
returns-then-one-other c = common_turned _ _ _ c.first_multiple.ensures
