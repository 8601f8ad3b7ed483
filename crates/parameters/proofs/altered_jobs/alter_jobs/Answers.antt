-- `altered_jobs::alter_jobs` meets its contract: 35, and then job after job (proofs/AlteredJobs.antt). Assumes nothing.
use native.Mathlib.Omega.{arith}
use Rattle.parameters.proofs.AlteredJobs.{altering_refused, free_refused, margin_refused}
use Rattle.parameters.proofs.altered_jobs.alter_jobs.Goals as goal

pub returns-then-free-gt-MAX_FREE : goal.returns-then-free-gt-MAX_FREE
returns-then-free-gt-MAX_FREE c = rw c.at.ensures (altering_refused (free_refused _ _ _ _ _ _ c.if-free-gt-MAX_FREE.true))

pub returns-then-margin-gt-MAX_MARGIN : goal.returns-then-margin-gt-MAX_MARGIN
returns-then-margin-gt-MAX_MARGIN c = rw c.at-then-margin-gt-MAX_MARGIN.ensures (altering_refused (margin_refused _ _ _ _ _ _ (omega arith) c.if-margin-gt-MAX_MARGIN.true))

pub alter_each-requires : goal.alter_each-requires
alter_each-requires c = record { valid_arrays = c.requires; free_le_max_free = (omega arith, omega arith) }

pub returns : goal.returns
returns c = c.alter_each.ensures
