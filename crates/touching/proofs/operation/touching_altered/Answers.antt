-- `operation::touching_altered` meets its contract: the bounds that are lent on are those of the jobs and of the marks (proofs/TouchedArrays.antt).
-- Assumes nothing.
use mathlib.Core.Path.{refl}
use native.Mathlib.Omega.{arith}
use Rattle.job_tables.proofs.Read.{jobs_count}
use Rattle.mark_tables.proofs.MarksIn.{length_marks_in}
use Rattle.touching.proofs.TouchedArrays.{jobs_ordered, marked_bounds_held}
use Rattle.touching.proofs.operation.touching_altered.Goals as goal

pub marked_bounds-bounds-requires : goal.marked_bounds-bounds-requires
marked_bounds-bounds-requires c =
    let (valid, rising) = c.requires in
    record { count_le_max_jobs = (jobs_count _ _ _ _ valid, omega (arith, rising.few, length_marks_in c.args.mark_count c.args.ticks.now), refl); by_index = jobs_ordered _ _ _ _ valid }

pub touching_bounds-requires : goal.touching_bounds-requires
touching_bounds-requires c =
    let (valid, rising) = c.requires in
    record { valid_jobs = valid; by_index = (_, marked_bounds_held _ _ _ _ valid _ rising (c.marked_bounds-bounds.ensures _)) }

pub returns : goal.returns
returns c =
    let (valid, rising) = c.requires in
    c.touching_bounds.ensures _ (marked_bounds_held _ _ _ _ valid _ rising (c.marked_bounds-bounds.ensures _))
