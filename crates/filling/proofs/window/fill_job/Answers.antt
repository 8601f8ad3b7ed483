-- `window::fill_job` meets its contract (proofs/Turns.antt). Assumes nothing.
use mathlib.Core.Path.{◌∙◌}
use Prim.Native.Nat.{ℕ, ◌<◌, ◌≤◌}
use mathlib.Core.List.{List}
use native.Mathlib.Omega.{arith}
use Rattle.model.specs.Limits.{max_intervals}
use Rattle.workloads.specs.Workloads.{Workload}
use Rattle.workloads.specs.Arrays.{numbers_in, lent_windows}
use Rattle.workloads.proofs.SharesTable.{kept_refl}
use Rattle.workloads.proofs.JobWindows.{window_small}
use Rattle.filling.specs.OwnWindows.{CanFillRange, CanFillJob}
use Rattle.filling.proofs.Turns.{turn_start, turn_end, left_same}
use Rattle.filling.proofs.window.fill_job.Goals as goal
use Rattle.filling.proofs.window.fill_job.Goals.{Start}

-- a workload with what is lent
abbrev lent : (c : Start) → Workload → Workload
lent c work = let a = c.args in lent_windows work a.turn.jobs a.first.now a.last.now

pub returns-then-turn-eq0 : goal.returns-then-turn-eq0
returns-then-turn-eq0 c = λ work band prices left can. (kept_refl _ _, rw (left_same left _ (can.left_is ∙ c.if-turn-eq0.true)) can.tables)

-- the job's window is among the intervals
window : (c : Start)
    → let a = c.args in
    (numbers_in a.first.now a.turn.job < max_intervals) × (numbers_in a.last.now a.turn.job ≤ max_intervals)
window c =
    let known = c.requires.4 in
    let sound = known.tables.stored.sound in
    window_small sound.sound sound.intervals_most known.job_below

pub overflow_cast-first : goal.overflow_cast-first
overflow_cast-first c = omega (arith, (window (goal.at.overflow_cast-first c).Start).0)

pub overflow_cast-last : goal.overflow_cast-last
overflow_cast-last c = omega (arith, (window (goal.at.overflow_cast-last c).Start).1)

-- the window can be filled
can_fill : (c : Start) → 0 < c.args.turn.left
    → let a = c.args in
    (work : Workload) (band : ℕ) (prices : ℕ → ℕ) (left : List ℕ)
    → CanFillJob (lent c work) a.shares.now a.room.now a.holders.now left prices band a.turn
    → CanFillRange (lent c work) a.shares.now a.room.now a.holders.now prices (numbers_in left) band a.turn
    (numbers_in a.first.now a.turn.job) (numbers_in a.last.now a.turn.job)
can_fill c some work band prices left can =
    let has : 0 < numbers_in left c.args.turn.job = omega (arith, can.left_is) in
    record {
      tables = rw can.left_is at (turn_start can.tables can.job_below has);
      is_open_true = λ i from to. record { from = from; to = to };
    }

pub fill_range-requires : goal.fill_range-requires
fill_range-requires c =
    let known = c.requires in
    (lent (goal.at.fill_range-requires c).Start known.0, known.1, known.2, numbers_in known.3, can_fill (goal.at.fill_range-requires c).Start (omega (arith, c.if-turn-eq0.false)) known.0 known.1 known.2 known.3 known.4)

pub returns : goal.returns
returns c = λ work band prices left can.
    let (kept, placing) = c.fill_range.ensures (lent (goal.at.returns c).Start work) band prices (numbers_in left) (can_fill (goal.at.returns c).Start (omega (arith, c.if-turn-eq0.false)) work band prices left can) in
    (kept, turn_end can.tables can.job_below (omega arith) (λ i. omega arith) placing)
