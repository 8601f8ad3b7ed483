-- `placing::place_short` meets its contract (proofs/ShortPlaced.antt). Assumes nothing.
use Rattle.workloads.specs.Workloads.{Workload}
use Rattle.workloads.specs.Arrays.{workload_with}
use Rattle.workloads.proofs.SharesTable.{kept_trans}
use Rattle.refilling.specs.RefilledTables.{CanRefill, RefilledTables}
use Rattle.planning.proofs.ShortPlaced.{can_refill, placed_again}
use Rattle.planning.proofs.placing.place_short.Goals as goal
use Rattle.planning.proofs.placing.place_short.Goals.{After-place, After-refill, Start}

-- what is to be placed
abbrev workload : (c : Start) → Workload
workload c =
    let a = c.args in
    workload_with a.cycles.now a.jobs a.intervals a.bands a.first.now a.last.now a.size.now a.frequency.now

pub place-requires : goal.place-requires
place-requires c =
    let known = c.requires in
    record {
      sound_workload = known.sound_workload;
      ranges_fit = known.ranges_fit;
      jobs_in_bounds = known.jobs_in_bounds;
      cycles_len = known.cycles_len.0;
      by_index = λ i j inside has. ((known.open_sets.open_are i j inside).0 has).0;
      loads_value = known.loads_value;
    }

-- what was placed can be filled anew
refills : (c : After-place) → CanRefill (workload c.before.before.before.before.before.before) c.args.«open».now c.place.new.shares c.place.new.loads c.place.new.holders
refills c =
    let known = c.requires in
    can_refill known.sound_workload c.place.ensures.0 known.open_sets known.cycles_len.0 known.cycles_len.1 c.place.ensures.2

pub refill-requires : goal.refill-requires
refill-requires c = (workload (goal.at.refill-requires c).Start, refills (goal.at.refill-requires c).After-place)

refilled : (c : After-refill)
    → RefilledTables (workload c.before.before.before.before.before.before.before.before.before.before.before) c.place.new.shares c.place.new.loads c.refill.new.shares c.refill.new.holders
refilled c = c.refill.ensures (workload c.before.before.before.before.before.before.before.before.before.before.before) (refills c.before.before.before.before.before)

pub shape_of-shares : goal.shape_of-shares
shape_of-shares c = (kept_trans c.place.ensures.1 (refilled (goal.at.shape_of-shares c).After-refill).kept).same_length

pub returns : goal.returns
returns c =
    let tables = refilled (goal.at.returns c).After-refill in (
      placed_again c.requires.sound_workload c.place.ensures.0 tables,
      kept_trans c.place.ensures.1 tables.kept,
      tables.holding,
      tables.refilled.few,
    )
