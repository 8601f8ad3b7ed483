-- `opening::add_open` meets its contract: the intervals between the two bounds are those that the job is open in
-- (proofs/OpenRange.antt). Assumes nothing.
use Rattle.job_records.proofs.OpenRange.{bounds_before, range_open}
use Rattle.job_records.proofs.opening.add_open.Goals as goal

pub bound_number-first-requires : goal.bound_number-first-requires
bound_number-first-requires c = c.requires.1.rising

pub returns : goal.returns
returns c =
    range_open c.add_range.ensures c.requires.0
    (bounds_before _ _ _ c.requires.1 _ c.bound_number-first.ensures) c.ends_by-end.ensures
