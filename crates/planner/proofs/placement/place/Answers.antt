use mathlib.Core.Path.{◌≡◌, refl, ap, ◌∙◌}
use Prim.Native.Nat.{ℕ, ◌+◌, ◌*◌, ◌<◌}
use native.Mathlib.Omega.{arith}
use lib.ListN.{length, length-replicate}
use Rattle.model.specs.Limits.{max_levels, max_intervals}
use Rattle.workloads.specs.Arrays.{numbers_in, workload_with, KeptPast}
use Rattle.workloads.proofs.SharesTable.{kept_refl, kept_trans}
use Rattle.filling.specs.Filling.{FillingTables}
use Rattle.planner.specs.BandPasses.{CanRaise}
use Rattle.planner.proofs.PlaceSteps.{tables_start, band_order, band_fits, band_opens, band_next, end_fits, tables_end}
use Rattle.planner.proofs.placement.place.Goals as goal
use Rattle.planner.proofs.placement.place.Goals.{After-left-in-loop-band-2-1, After-loop-band, In-loop-band}

pub overflow_mul-intervals : goal.overflow_mul-intervals
overflow_mul-intervals c = omega (arith, c.requires.jobs_in_bounds)

pub clear-requires : goal.clear-requires
clear-requires c = c.requires.jobs_in_bounds

pub loop-band-init : goal.loop-band-init
loop-band-init c =
    let clear = c.clear in
    let (no_room, no-price, no-holder) = c.requires.loads_value in (
      omega arith,
      kept_refl _ _,
      ap length no-price ∙ length-replicate {A = ℕ} max_intervals 0,
      tables_start c.requires.sound_workload c.requires.cycles_len clear.new.shares (omega (arith, c.requires.jobs_in_bounds, clear.ensures.0.same_length)) clear.ensures.1
          no_room no-holder no-price,
    )

-- the band has an end
end-inside : (c : In-loop-band) → c.loop-band.band + 1 < max_levels + 1
end-inside c = omega (arith, c.loop-band-test.true, c.requires.sound_workload.bands_most)

pub overflow_add-gap : goal.overflow_add-gap
overflow_add-gap c = omega (arith, end-inside (goal.at.overflow_add-gap c).In-loop-band)

pub offset_bounds-frequency-band : goal.offset_bounds-frequency-band
offset_bounds-frequency-band c = omega (arith, end-inside (goal.at.offset_bounds-frequency-band c).In-loop-band)

pub bounds-frequency-band : goal.bounds-frequency-band
bounds-frequency-band c = omega (arith, end-inside (goal.at.bounds-frequency-band c).In-loop-band)

pub offset_bounds-frequency-band-in-loop-band : goal.offset_bounds-frequency-band-in-loop-band
offset_bounds-frequency-band-in-loop-band c = omega (arith, end-inside (goal.at.offset_bounds-frequency-band-in-loop-band c).In-loop-band)

pub bounds-frequency-band-in-loop-band : goal.bounds-frequency-band-in-loop-band
bounds-frequency-band-in-loop-band c = omega (arith, end-inside (goal.at.bounds-frequency-band-in-loop-band c).In-loop-band)

pub overflow_sub-gap : goal.overflow_sub-gap
overflow_sub-gap c =
    band_order c.loop-band.invariant.3 c.loop-band-test.true

pub add_band-requires : goal.add_band-requires
add_band-requires c =
    let start = c.loop-band.invariant.3 in
    record { intervals_le_max_intervals = (start.stored.sound.intervals_most, start.stored.room_at.room_length); by_index = band_fits start c.loop-band-test.true }

pub fill_jobs-requires : goal.fill_jobs-requires
fill_jobs-requires c =
    let a = c.args in
    let opened = band_opens c.loop-band.invariant.3 c.loop-band-test.true c.add_band.ensures.0 c.add_band.ensures.1 c.add_band.ensures.2 in
    record {
      windows_pass = (workload_with a.cycles.now a.jobs a.intervals a.bands a.first.now a.last.now a.size.now a.frequency.now, c.loop-band.band, numbers_in c.loop-band.prices, opened);
      intervals_le_max_intervals = c.requires.sound_workload.intervals_most;
      by_index = c.requires.by_index;
    }

-- the windows are filled
filled : (c : After-left-in-loop-band-2-1)
    → let a = c.args in
    let work = workload_with a.cycles.now a.jobs a.intervals a.bands a.first.now a.last.now a.size.now a.frequency.now in
    KeptPast (work.intervals * work.jobs) c.loop-band.shares c.fill_jobs.new.shares
    × FillingTables work c.fill_jobs.new.shares c.fill_jobs.new.room c.fill_jobs.new.holders
    c.fill_jobs.new.left (numbers_in c.loop-band.prices) c.loop-band.band 0
filled c =
    let a = c.args in
    c.fill_jobs.ensures (workload_with a.cycles.now a.jobs a.intervals a.bands a.first.now a.last.now a.size.now a.frequency.now) c.loop-band.band (numbers_in c.loop-band.prices)
    (band_opens c.loop-band.invariant.3 c.loop-band-test.true c.add_band.ensures.0 c.add_band.ensures.1 c.add_band.ensures.2)

can-move : (c : After-left-in-loop-band-2-1)
    → let a = c.args in
    CanRaise (workload_with a.cycles.now a.jobs a.intervals a.bands a.first.now a.last.now a.size.now a.frequency.now)
    c.fill_jobs.new.shares c.fill_jobs.new.room c.fill_jobs.new.holders c.loop-band.prices c.fill_jobs.new.left c.loop-band.band 0
can-move c =
    record { fit = c.requires.ranges_fit; prices_length = c.loop-band.invariant.2; tables = (filled c).1 }

pub overflow_cast-band : goal.overflow_cast-band
overflow_cast-band c = omega (arith, end-inside (goal.at.overflow_cast-band c).In-loop-band)

pub move_jobs-requires : goal.move_jobs-requires
move_jobs-requires c =
    let a = c.args in
    (workload_with a.cycles.now a.jobs a.intervals a.bands a.first.now a.last.now a.size.now a.frequency.now, can-move (goal.at.move_jobs-requires c).After-left-in-loop-band-2-1)

pub loop-band-preserved : goal.loop-band-preserved
loop-band-preserved c =
    let a = c.args in
    let work = workload_with a.cycles.now a.jobs a.intervals a.bands a.first.now a.last.now a.size.now a.frequency.now in
    let (kept, moved) = c.move_jobs.ensures work (can-move (goal.at.loop-band-preserved c).After-left-in-loop-band-2-1) in (
      omega (arith, c.loop-band-test.true),
      kept_trans c.loop-band.invariant.1 (kept_trans (filled (goal.at.loop-band-preserved c).After-left-in-loop-band-2-1).0 kept),
      moved.prices_length,
      band_next moved.tables refl,
    )

-- all bands are done
all-bands : (c : After-loop-band) → c.loop-band.band ≡ c.args.bands
all-bands c = omega (arith, c.loop-band.invariant.0, c.loop-band-test.false)

pub offset_bounds-frequency-bands : goal.offset_bounds-frequency-bands
offset_bounds-frequency-bands c = omega (arith, c.requires.sound_workload.bands_most)

pub bounds-frequency-bands : goal.bounds-frequency-bands
bounds-frequency-bands c = omega (arith, c.requires.sound_workload.bands_most)

pub loads_of-requires : goal.loads_of-requires
loads_of-requires c =
    let start = c.loop-band.invariant.3 in
    record { intervals_le_max_intervals = (start.stored.sound.intervals_most, start.stored.room_at.room_length); by_index = end_fits start (all-bands (goal.at.loads_of-requires c).After-loop-band) }

-- what lies past the table stays from the entry on
kept : (c : After-loop-band)
    → let a = c.args in
    KeptPast (a.intervals * a.jobs) a.shares.now c.loop-band.shares
kept c = kept_trans c.clear.ensures.0 c.loop-band.invariant.1

pub shape_of-shares : goal.shape_of-shares
shape_of-shares c = (kept (goal.at.shape_of-shares c).After-loop-band).same_length

pub returns : goal.returns
returns c =
    let inv = c.loop-band.invariant in
    let loads = c.loads_of.ensures in
    (tables_end inv.3 (all-bands (goal.at.returns c).After-loop-band) inv.2 loads.0 loads.1 loads.2, kept (goal.at.returns c).After-loop-band, inv.3.stored.holding)
