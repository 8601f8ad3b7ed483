-- `operation::nearest_of_tables` meets its contract: the tables stand in the arrays that are made (proofs/TablesInArrays.antt), and the rest is
-- what `nearest_or_window` keeps.
-- Assumes nothing.
use mathlib.Core.Path.{refl}
use Rattle.model.specs.Intervals.{bounds_of}
use Rattle.site.proofs.HeldSites.{pair_count}
use Rattle.nearest.proofs.TablesInArrays.{times_rise, numbers_few, in_arrays}
use Rattle.nearest.proofs.operation.nearest_of_tables.Goals as goal

pub bounds_of-bounds-requires : goal.bounds_of-bounds-requires
bounds_of-bounds-requires c = let (tables, valid, holds) = c.requires in (pair_count holds valid.jobs, refl)

pub bound_numbers-requires : goal.bound_numbers-requires
bound_numbers-requires c =
    let (tables, valid, holds) = c.requires in
    (pair_count holds valid.jobs, times_rise valid holds (c.bounds_of-bounds.ensures _), refl)

pub bound_numbers-requires-2 : goal.bound_numbers-requires-2
bound_numbers-requires-2 c =
    let (tables, valid, holds) = c.requires in
    (pair_count holds valid.jobs, times_rise valid holds (c.bounds_of-bounds.ensures _), refl)

pub open_sets-requires : goal.open_sets-requires
open_sets-requires c =
    let (tables, valid, holds) = c.requires in
    record {
      jobs_le_max_jobs = (pair_count holds valid.jobs, refl);
      by_index = numbers_few valid holds (c.bounds_of-bounds.ensures _) c.bound_numbers.ensures c.bound_numbers-2.ensures;
    }

pub nearest_or_window-requires : goal.nearest_or_window-requires
nearest_or_window-requires c =
    let (tables, valid, holds) = c.requires in (
      tables,
      bounds_of tables.jobs,
      in_arrays valid holds (c.bounds_of-bounds.ensures _) c.bound_numbers.ensures c.bound_numbers-2.ensures
          _ _ c.open_sets.ensures c.interval_count.ensures,
    )

pub returns : goal.returns
returns c = λ tables valid holds.
    c.nearest_or_window.ensures tables (bounds_of tables.jobs)
    (in_arrays valid holds (c.bounds_of-bounds.ensures _) c.bound_numbers.ensures c.bound_numbers-2.ensures
    _ _ c.open_sets.ensures c.interval_count.ensures)
