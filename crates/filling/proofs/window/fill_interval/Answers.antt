-- `window::fill_interval` meets its contract (proofs/OwnIntervals.antt). Assumes nothing.
use Prim.Native.Nat.{ℕ, ◌+◌, ◌<◌, ◌≤◌}
use native.Mathlib.Omega.{arith}
use Rattle.model.specs.Limits.{max_intervals}
use Rattle.workloads.specs.Workloads.{Workload}
use Rattle.workloads.specs.Placement.{Open}
use Rattle.workloads.specs.Arrays.{numbers_in, problem_in, lent_jobs}
use Rattle.workloads.proofs.SharesTable.{kept_refl}
use Rattle.filling.specs.OwnWindows.{CanFillRange}
use Rattle.filling.proofs.OwnIntervals.{own_small, own_job, own_place, own_room, own_share, own_kept, own_filled}
use Rattle.filling.proofs.window.fill_interval.Goals as goal
use Rattle.filling.proofs.window.fill_interval.Goals.{After-min-amount, After-slice_known-1}

-- the job is being placed
abbrev Places : (c : After-slice_known-1) → (work : Workload) → (band : ℕ) → (prices lefts : ℕ → ℕ) → Type 0
Places c work band prices lefts =
    let a = c.args in
    CanFillRange (lent_jobs work a.turn.jobs) a.shares.now a.room.now a.holders.now prices lefts band a.turn a.interval (a.interval + 1)

is_open_true : (c : After-slice_known-1) (work : Workload) {band : ℕ} {prices lefts : ℕ → ℕ} → Places c work band prices lefts
    → Open (problem_in (lent_jobs work c.args.turn.jobs)) c.args.interval c.args.turn.job
is_open_true c work can = can.is_open_true c.args.interval (omega arith) (omega arith)

small : (c : After-slice_known-1) → c.args.interval < max_intervals
small c = own_small c.requires.range_fill.4.tables (is_open_true c c.requires.range_fill.0 c.requires.range_fill.4)

pub offset_bounds-room-interval : goal.offset_bounds-room-interval
offset_bounds-room-interval c = omega (arith, small (goal.at.offset_bounds-room-interval c).After-slice_known-1)

pub bounds-room-interval : goal.bounds-room-interval
bounds-room-interval c = small (goal.at.bounds-room-interval c).After-slice_known-1

pub returns-then-free-eq0 : goal.returns-then-free-eq0
returns-then-free-eq0 c = λ work band prices lefts can. (kept_refl _ _, can.tables)

-- the amount is at most what is left, and at most the room
within : (c : After-min-amount) → c.min-amount.result ≤ c.args.turn.left
within c = omega (arith, c.min-amount.ensures)

most : (c : After-min-amount)
    → let a = c.args in
    c.min-amount.result ≤ numbers_in a.room.now a.interval
most c = omega (arith, c.min-amount.ensures)

pub overflow_cast-amount : goal.overflow_cast-amount
overflow_cast-amount c =
    omega (arith, most (goal.at.overflow_cast-amount c).After-min-amount, own_room c.requires.range_fill.4.tables (is_open_true (goal.at.overflow_cast-amount c).After-slice_known-1 c.requires.range_fill.0 c.requires.range_fill.4))

pub put-requires : goal.put-requires
put-requires c =
    let tables = c.requires.range_fill.4.tables in
    let here = is_open_true (goal.at.put-requires c).After-slice_known-1 c.requires.range_fill.0 c.requires.range_fill.4 in record { job_in_bounds = (own_place tables here, omega (arith, own_share tables here, most (goal.at.put-requires c).After-min-amount, own_room tables here)); interval_lt_max_intervals = (own_small tables here, own_job tables here, tables.stored.holding.holders_length) }

pub overflow_sub-room : goal.overflow_sub-room
overflow_sub-room c = most (goal.at.overflow_sub-room c).After-min-amount

pub offset_bounds-room-interval-2 : goal.offset_bounds-room-interval-2
offset_bounds-room-interval-2 c = omega (arith, small (goal.at.offset_bounds-room-interval-2 c).After-slice_known-1)

pub bounds-room-interval-2 : goal.bounds-room-interval-2
bounds-room-interval-2 c = small (goal.at.bounds-room-interval-2 c).After-slice_known-1

pub overflow_sub-result : goal.overflow_sub-result
overflow_sub-result c = within (goal.at.overflow_sub-result c).After-min-amount

pub returns : goal.returns
returns c = λ work band prices lefts can.
    let here = is_open_true (goal.at.returns c).After-slice_known-1 work can in
    let put = c.put.ensures in
    let some : 0 < c.min-amount.result = omega (arith, c.min-amount.ensures, c.if-free-eq0.false, c.requires.left_nonzero) in (
      own_kept can.tables here some (within (goal.at.returns c).After-min-amount) (most (goal.at.returns c).After-min-amount) put.0 put.1,
      own_filled can.tables here some (within (goal.at.returns c).After-min-amount) (most (goal.at.returns c).After-min-amount) put.0 put.1,
    )
