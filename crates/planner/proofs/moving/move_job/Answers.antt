-- `moving::move_job` meets its contract (proofs/PlaceSteps.antt). Assumes nothing.
use mathlib.Core.Path.{◌∙◌}
use mathlib.Core.List.{List}
use Prim.Native.Nat.{ℕ, ◌<◌, ◌≤◌}
use native.Mathlib.Omega.{arith}
use Rattle.model.specs.Limits.{max_intervals, max_levels}
use Rattle.workloads.specs.Workloads.{Workload}
use Rattle.workloads.specs.Arrays.{numbers_in, lent_windows}
use Rattle.workloads.proofs.SharesTable.{kept_refl}
use Rattle.workloads.proofs.JobWindows.{window_small}
use Rattle.paths.specs.FilledTargets.{PlacingTables}
use Rattle.prices.proofs.RaisedPrices.{raised_up}
use Rattle.filling.proofs.Turns.{turn_start}
use Rattle.planner.specs.BandPasses.{CanRaiseJob}
use Rattle.planner.proofs.PlaceSteps.{closed_range, raised_tables, raised_past, raise_passed, raise_moved}
use Rattle.planner.proofs.moving.move_job.Goals as goal
use Rattle.planner.proofs.moving.move_job.Goals.{Start}

-- a workload with what is lent
abbrev lent : (c : Start) → Workload → Workload
lent c work = let a = c.args in lent_windows work a.turn.jobs a.first.now a.last.now

-- it is the job's turn
abbrev Turns : (c : Start) → Workload → (left : List ℕ) → Type 0
Turns c work left =
    let a = c.args in
    CanRaiseJob (lent c work) a.shares.now a.room.now a.holders.now a.prices.now left a.band a.turn

pub returns-then-turn-eq0 : goal.returns-then-turn-eq0
returns-then-turn-eq0 c = λ work left can. (
  kept_refl _ _,
  raise_passed can.can (can.left_is ∙ c.if-turn-eq0.true) (λ i inside has is_open_true. absurd (omega (arith, can.left_is, c.if-turn-eq0.true))),
)

-- the job's window is among the intervals
window : (c : Start)
    → let a = c.args in
    (numbers_in a.first.now a.turn.job < max_intervals) × (numbers_in a.last.now a.turn.job ≤ max_intervals)
window c =
    let known = c.requires.2 in
    let sound = known.can.tables.stored.sound in
    window_small sound.sound sound.intervals_most known.job_below

pub overflow_cast-first : goal.overflow_cast-first
overflow_cast-first c = omega (arith, (window (goal.at.overflow_cast-first c).Start).0)

pub overflow_cast-last : goal.overflow_cast-last
overflow_cast-last c = omega (arith, (window (goal.at.overflow_cast-last c).Start).1)

-- the band is small: a price past it fits a byte
band-small : (c : Start) → c.args.band < max_levels
band-small c =
    let tables = c.requires.2.can.tables in
    omega (arith, tables.band_below, tables.stored.sound.bands_most)

pub overflow_add-band : goal.overflow_add-band
overflow_add-band c = omega (arith, band-small (goal.at.overflow_add-band c).Start)

pub is_below-requires : goal.is_below-requires
is_below-requires c = (window (goal.at.is_below-requires c).Start).1

-- the job is placed
placing : (c : Start) → 0 < c.args.turn.left
    → let a = c.args in
    (work : Workload) (left : List ℕ) → Turns c work left
    → PlacingTables (lent c work) a.shares.now a.room.now a.holders.now (numbers_in a.prices.now) (numbers_in left) a.turn.job a.turn.left a.band
placing c some work left can =
    let has : 0 < numbers_in left c.args.turn.job = omega (arith, can.left_is) in
    rw can.left_is at (turn_start can.can.tables can.job_below has)

pub move_cycles-rest-requires : goal.move_cycles-rest-requires
move_cycles-rest-requires c =
    let known = c.requires in
    let start = (goal.at.move_cycles-rest-requires c).Start in
    (known.0, c.args.band, numbers_in c.args.prices.now, numbers_in known.1, placing start (omega (arith, c.if-turn-eq0.false)) known.0 known.1 known.2)

pub returns-then-rest-eq0 : goal.returns-then-rest-eq0
returns-then-rest-eq0 c = λ work left can.
    let a = c.args in
    let start = (goal.at.returns-then-rest-eq0 c).Start in
    let done = c.move_cycles-rest.ensures work a.band (numbers_in a.prices.now) (numbers_in left) (placing start (omega (arith, c.if-turn-eq0.false)) work left can) in (
      done.kept,
      raise_moved can.can can.job_below can.can.prices_length (λ i. omega arith) (rw c.if-rest-eq0.true at done.tables) (λ some. absurd (omega arith)),
    )

pub overflow_add-band-then-is_below : goal.overflow_add-band-then-is_below
overflow_add-band-then-is_below c = omega (arith, band-small (goal.at.overflow_add-band-then-is_below c).Start)

pub raise-requires : goal.raise-requires
raise-requires c =
    let known = c.requires in
    let a = c.args in
    let start = (goal.at.raise-requires c).Start in
    let done = c.move_cycles-rest.ensures known.0 a.band (numbers_in a.prices.now) (numbers_in known.1) (placing start (omega (arith, c.if-turn-eq0.false)) known.0 known.1 known.2) in
    let range = closed_range done.tables (done.closed (omega (arith, c.if-rest-eq0.false))) in
    (known.2.can.prices_length, omega (arith, range), omega (arith, range))

pub returns-then-is_below : goal.returns-then-is_below
returns-then-is_below c = λ work left can.
    let a = c.args in
    let start = (goal.at.returns-then-is_below c).Start in
    let done = c.move_cycles-rest.ensures work a.band (numbers_in a.prices.now) (numbers_in left) (placing start (omega (arith, c.if-turn-eq0.false)) work left can) in
    let some : 0 < c.move_cycles-rest.result.left = omega (arith, c.if-rest-eq0.false) in
    let raised = c.raise.ensures.0 in (
      done.kept,
      raise_moved can.can can.job_below c.raise.ensures.1 (raised_up raised)
          (raised_tables done.tables (done.closed some) can.can.fit some raised)
          (λ has. raised_past done.tables (done.closed some) can.can.fit some raised),
    )

pub returns : goal.returns
returns c = λ work left can. (
  kept_refl _ _,
  raise_passed can.can can.left_is
      (λ i inside has is_open_true. omega (arith, c.is_below.ensures.none c.if-is_below.false i is_open_true.from is_open_true.to)),
)
