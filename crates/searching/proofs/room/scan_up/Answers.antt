use Prim.Native.Nat.{◌<◌, ◌≤◌}
use native.Mathlib.Omega.{arith}
use Rattle.model.specs.Limits.{max_intervals}
use Rattle.searching.specs.Reaching.{state_of, with_windows, Scanning}
use Rattle.searching.proofs.SearchSteps.{room_some, room_none, up_none, up_target, next_inside, searched_target, next_to_scan, scanning_next}
use Rattle.searching.proofs.room.scan_up.Goals as goal
use Rattle.searching.proofs.room.scan_up.Goals.{At-loop-high, In-loop-high}

pub loop-high-init : goal.loop-high-init
loop-high-init c = λ p shares job band low to_search scanning. scanning

-- what is scanned, of the problem that is known
at : (c : At-loop-high)
    → let a = c.args in
    let can = c.requires in
    Scanning (with_windows can.problem can.problem.jobs a.first.now a.last.now) can.shares can.job can.band
    (state_of c.loop-high.found c.loop-high.reached c.loop-high.source) can.low c.loop-high.high
at c =
    let can = c.requires in
    c.loop-high.invariant can.problem can.shares can.job can.band can.low can.to_search can.scanning

-- the next interval exists
exists : (c : In-loop-high) → c.loop-high.high < max_intervals
exists c =
    let can = c.before.before.before.requires.to_search in
    omega (arith, c.loop-high-test.true, (at c.before.before).reaching.now.end_below, can.intervals_most)

pub offset_bounds-room-high : goal.offset_bounds-room-high
offset_bounds-room-high c = omega (arith, exists (goal.at.offset_bounds-room-high c).In-loop-high)

pub bounds-room-high : goal.bounds-room-high
bounds-room-high c = exists (goal.at.bounds-room-high c).In-loop-high

pub returns-then-room-high-gt0 : goal.returns-then-room-high-gt0
returns-then-room-high-gt0 c = λ p shares job band low can before.
    let scanning = c.loop-high.invariant p shares job band low can before in
    let from : c.loop-high.found.start ≤ c.loop-high.high = omega (arith, scanning.from, scanning.order) in
    let to = c.loop-high-test.true in
    let some = room_some can.room_at (next_inside can.sound can.jobs_most scanning from to) c.if-room-high-gt0.true in
    up_target (searched_target can.sound can.jobs_most scanning from to some (exists (goal.at.returns-then-room-high-gt0 c).In-loop-high)) (exists (goal.at.returns-then-room-high-gt0 c).In-loop-high)

pub set_at-set-requires : goal.set_at-set-requires
set_at-set-requires c = exists (goal.at.set_at-set-requires c).In-loop-high

pub scan-found-requires : goal.scan-found-requires
scan-found-requires c =
    let start = (goal.at.scan-found-requires c).At-loop-high.before in
    let can = start.requires in
    let to_search = can.to_search in
    let scanning = at (goal.at.scan-found-requires c).At-loop-high in
    record {
      problem = with_windows can.problem can.problem.jobs start.args.first.now start.args.last.now;
      shares = can.shares;
      job = can.job;
      to_scan =
          rw c.set_at-set.ensures
          (next_to_scan to_search.sound to_search.jobs_most scanning (omega (arith, scanning.from, scanning.order))
          c.loop-high-test.true to_search.intervals_most to_search.shut to_search.holding);
    }

pub overflow_add-high : goal.overflow_add-high
overflow_add-high c = omega (arith, exists (goal.at.overflow_add-high c).In-loop-high)

pub loop-high-smaller : goal.loop-high-smaller
loop-high-smaller c = omega (arith, exists (goal.at.loop-high-smaller c).In-loop-high)

pub loop-high-preserved : goal.loop-high-preserved
loop-high-preserved c = λ p shares job band low can before.
    let a = (goal.at.loop-high-preserved c).At-loop-high.before.args in
    let scanning = c.loop-high.invariant p shares job band low can before in
    let from : c.loop-high.found.start ≤ c.loop-high.high = omega (arith, scanning.from, scanning.order) in
    let to = c.loop-high-test.true in
    let inside = next_inside can.sound can.jobs_most scanning from to in
    let to_scan = next_to_scan can.sound can.jobs_most scanning from to can.intervals_most can.shut can.holding in
    scanning_next can.sound can.jobs_most scanning from to
    (room_none can.room_at inside c.if-room-high-gt0.false)
    (c.scan-found.ensures (with_windows p p.jobs a.first.now a.last.now) shares job
    (rw c.set_at-set.ensures to_scan))
    (omega (arith, scanning.order)) (omega arith) (omega (arith, scanning.order)) (omega arith)

pub returns : goal.returns
returns c = λ p shares job band low can before.
    up_none can.sound can.jobs_most (c.loop-high.invariant p shares job band low can before) c.loop-high-test.false
