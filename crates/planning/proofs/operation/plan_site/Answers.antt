-- `operation::plan_site` meets its contract: the site stands in the arrays that are made (proofs/SiteArrays.antt), and the rest is
-- what `plan_or_window` keeps.
-- Assumes nothing.
use mathlib.Core.Path.{refl}
use Rattle.site.proofs.HeldSites.{held_count, held_bounds_small}
use Rattle.planning.proofs.SiteArrays.{numbers_few, site_in_arrays}
use Rattle.planning.proofs.operation.plan_site.Goals as goal

pub bound_numbers-requires : goal.bound_numbers-requires
bound_numbers-requires c =
    let (site, valid, holds) = c.requires in
    (held_count valid holds, (held_bounds_small valid holds).rising, refl)

pub bound_numbers-requires-2 : goal.bound_numbers-requires-2
bound_numbers-requires-2 c =
    let (site, valid, holds) = c.requires in
    (held_count valid holds, (held_bounds_small valid holds).rising, refl)

pub open_sets-requires : goal.open_sets-requires
open_sets-requires c =
    let (site, valid, holds) = c.requires in
    let few = numbers_few valid holds c.bound_numbers.ensures c.bound_numbers-2.ensures in
    record { jobs_le_max_jobs = (held_count valid holds, refl); by_index = few }

-- the site in the arrays
pub plan_or_window-requires : goal.plan_or_window-requires
plan_or_window-requires c =
    let (site, valid, holds) = c.requires in
    (site, site_in_arrays valid holds c.bound_numbers.ensures c.bound_numbers-2.ensures c.open_sets.ensures, holds)

pub returns : goal.returns
returns c = λ site valid holds.
    c.plan_or_window.ensures site (site_in_arrays valid holds c.bound_numbers.ensures c.bound_numbers-2.ensures c.open_sets.ensures) holds
