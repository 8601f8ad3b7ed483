-- `making::make_plan` meets its contract: the jobs are placed, the smallest prices found, and what is written is the plan
-- (proofs/MadePlans.antt).
-- Assumes nothing.
use mathlib.Core.Path.{refl}
use mathlib.Core.List.{List}
use Prim.Native.Nat.{ℕ, ◌-◌}
use native.Mathlib.Numerals.{add-one}
use native.Mathlib.Omega.{arith}
use Rattle.workloads.specs.Workloads.{Workload}
use Rattle.workloads.specs.Arrays.{workload_with}
use Rattle.planning.proofs.SiteArrays.{SiteWorkload, points_some, points_small, cycles_length, held_times, site_workload}
use Rattle.planning.proofs.AllCycles.{all_cycles_few}
use Rattle.planning.proofs.ShortPlaced.{open-sets}
use Rattle.planning.proofs.Placeable.{workload_fits, workload_can_price}
use Rattle.planning.proofs.MadePlans.{rooms, steps_few, made_plan}
use Rattle.planning.proofs.making.make_plan.Goals as goal
use Rattle.planning.proofs.making.make_plan.Goals.{Start}

pub overflow_sub-bands : goal.overflow_sub-bands
overflow_sub-bands c =
    let (site, can) = c.requires in
    omega (arith, points_some can.fitting.in_arrays)

pub sizes-requires : goal.sizes-requires
sizes-requires c =
    let (site, can) = c.requires in
    let times = (held_times can.fitting.in_arrays).rising in (
      omega (arith, c.interval_count-intervals.ensures, times.few),
      refl,
      λ i below. rw (add-one i) (omega (arith, times.rises i (omega (arith, c.interval_count-intervals.ensures)))),
    )

-- what is to be placed, by the number of intervals and their lengths
abbrev workload : (c : Start) (intervals : ℕ) (lengths : List ℕ) → Workload
workload c intervals lengths =
    let a = c.args in
    workload_with a.cycles.now a.site.jobs intervals (a.site.working.count - 1) a.first.now a.last.now lengths a.site.working.frequencies

pub place_short-requires : goal.place_short-requires
place_short-requires c =
    let work = workload (goal.at.place_short-requires c).Start c.interval_count-intervals.result c.sizes.new.lengths in
    let (site, can) = c.requires in
    let held = can.fitting.in_arrays in
    let made : SiteWorkload site work = site_workload held _ _ c.interval_count-intervals.ensures c.sizes.ensures in
    record {
      sound_workload = made.sound;
      ranges_fit = workload_fits held.valid made can.fitting.fits;
      jobs_in_bounds = (rooms held.valid made can.long).0;
      cycles_len = (cycles_length held, all_cycles_few held.valid made can.fitting.fits);
      open_sets = open-sets held.valid made held.open_are;
      loads_value = (refl, refl, refl);
    }

-- some prices fit what is placed
pub smallest_prices-requires : goal.smallest_prices-requires
smallest_prices-requires c =
    let work = workload (goal.at.smallest_prices-requires c).Start c.interval_count-intervals.result c.sizes.new.lengths in
    let (site, can) = c.requires in
    let held = can.fitting.in_arrays in
    let made : SiteWorkload site work = site_workload held _ _ c.interval_count-intervals.ensures c.sizes.ensures in
    record {
      arrays_price = (work.cycles, _, workload_can_price held.valid made c.place_short.ensures.0, c.place_short.ensures.2);
      prices_len = c.place_short.ensures.0.prices_length;
    }

pub write_plan-steps-requires : goal.write_plan-steps-requires
write_plan-steps-requires c =
    let work = workload (goal.at.write_plan-steps-requires c).Start c.interval_count-intervals.result c.sizes.new.lengths in
    let (site, can) = c.requires in
    let held = can.fitting.in_arrays in
    let made : SiteWorkload site work = site_workload held _ _ c.interval_count-intervals.ensures c.sizes.ensures in
    let tables = c.place_short.ensures.0 in
    let holding = c.place_short.ensures.2 in
    record {
      jobs_le_max_jobs = (made.sound.jobs_most, made.sound.intervals_most, tables.stored.table-length);
      by_index = λ i below. record { held = λ j inside. holding.held i j below inside; held_past = λ j past. holding.held_past i j below past };
      shares_in_bounds = omega (arith, can.long.plan-room, steps_few held.valid made _ _ _ tables c.place_short.ensures.3);
    }

pub write_prices-requires : goal.write_prices-requires
write_prices-requires c =
    let work = workload (goal.at.write_prices-requires c).Start c.interval_count-intervals.result c.sizes.new.lengths in
    let (site, can) = c.requires in
    let held = can.fitting.in_arrays in
    let made : SiteWorkload site work = site_workload held _ _ c.interval_count-intervals.ensures c.sizes.ensures in
    let smallest = c.smallest_prices.ensures.0 work.cycles _ (workload_can_price held.valid made c.place_short.ensures.0) c.place_short.ensures.2 in
    record {
      intervals_le_max_intervals = (made.sound.intervals_most, (rooms held.valid made can.long).1);
      by_index = λ i below. omega (arith, made.sound.bands_most, smallest.priced.band i below);
    }

pub energy_figure-energy-requires : goal.energy_figure-energy-requires
energy_figure-energy-requires c =
    let (site, can) = c.requires in
    let held = can.fitting.in_arrays in
    record { small_points = points_small held; small_bounds = held_times held }

pub shape_of-shares : goal.shape_of-shares
shape_of-shares c = c.place_short.ensures.1.same_length

pub returns : goal.returns
returns c = λ site can.
    let work = workload (goal.at.returns c).Start c.interval_count-intervals.result c.sizes.new.lengths in
    let held = can.fitting.in_arrays in
    let made : SiteWorkload site work = site_workload held _ _ c.interval_count-intervals.ensures c.sizes.ensures in
    let smallest = c.smallest_prices.ensures.0 work.cycles _ (workload_can_price held.valid made c.place_short.ensures.0) c.place_short.ensures.2 in
    made_plan held.valid made _ _ _ c.place_short.ensures.0 c.smallest_prices.new.prices smallest held _ _ _ _ _ _ _ c.place_short.ensures.1
    c.place_short.ensures.3 c.write_plan-steps.ensures.value c.write_plan-steps.ensures.plan_after c.write_prices.ensures
    c.energy_figure-energy.ensures
