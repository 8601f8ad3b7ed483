-- `checking::check` meets its contract: the array that it lends has no jobs. Assumes nothing.
use Rattle.job_records.proofs.SetsHave.{no-jobs}
use Rattle.audit.proofs.checking.check.Goals as goal

pub check_cells-requires : goal.check_cells-requires
check_cells-requires c = no-jobs

pub returns : goal.returns
returns c = c.check_cells.ensures.value
