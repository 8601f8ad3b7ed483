use Prim.Native.Nat.{ℕ, ◌+◌, ◌*◌}
use native.Mathlib.Omega.{arith}
use Rattle.workloads.specs.Workloads.{Workload}
use Rattle.workloads.specs.Arrays.{lent_jobs, KeptPast}
use Rattle.workloads.proofs.SharesTable.{kept_refl, kept_trans}
use Rattle.paths.specs.FilledTargets.{PlacingTables}
use Rattle.filling.specs.OwnWindows.{CanFillRange}
use Rattle.filling.proofs.window.fill_range.Goals as goal
use Rattle.filling.proofs.window.fill_range.Goals.{At-loop-interval, In-loop-interval}

pub loop-interval-init : goal.loop-interval-init
loop-interval-init c = (omega arith, λ work band prices lefts can. (kept_refl _ _, can.tables))

-- what the loop has placed, of the workload that is known
own : (c : At-loop-interval)
    → let a = c.args in
    let known = c.requires in
    KeptPast (known.0.intervals * a.turn.jobs) a.shares.now c.loop-interval.shares
    × PlacingTables (lent_jobs known.0 a.turn.jobs) c.loop-interval.shares c.loop-interval.room c.loop-interval.holders known.2 known.3 a.turn.job
    c.loop-interval.left known.1
own c = let known = c.requires in c.loop-interval.invariant.1 known.0 known.1 known.2 known.3 known.4

pub shape_of-shares-then-left-eq0 : goal.shape_of-shares-then-left-eq0
shape_of-shares-then-left-eq0 c = (own (goal.at.shape_of-shares-then-left-eq0 c).At-loop-interval).0.same_length

pub returns-then-left-eq0 : goal.returns-then-left-eq0
returns-then-left-eq0 c = c.loop-interval.invariant.1

-- the next interval can be filled
can_fill : (c : In-loop-interval) (work : Workload) (band : ℕ) (prices lefts : ℕ → ℕ)
    → let a = c.args in
    let head = c.loop-interval in
    CanFillRange (lent_jobs work a.turn.jobs) a.shares.now a.room.now a.holders.now prices lefts band a.turn a.start a.end
    → CanFillRange (lent_jobs work a.turn.jobs) head.shares head.room head.holders prices lefts band
    (record { job = a.turn.job; jobs = a.turn.jobs; left = head.left }) head.interval (head.interval + 1)
can_fill c work band prices lefts can =
    let inv = c.loop-interval.invariant in
    record {
      tables = (inv.1 work band prices lefts can).1;
      is_open_true = λ i from to. can.is_open_true i (omega (arith, inv.0)) (omega (arith, c.loop-interval-test.true));
    }

pub fill_interval-left-requires : goal.fill_interval-left-requires
fill_interval-left-requires c =
    let known = c.requires in record { range_fill = (known.0, known.1, known.2, known.3, can_fill (goal.at.fill_interval-left-requires c).In-loop-interval known.0 known.1 known.2 known.3 known.4); left_nonzero = omega (arith, c.if-left-eq0.false) }

pub loop-interval-preserved : goal.loop-interval-preserved
loop-interval-preserved c = (
  omega (arith, c.loop-interval.invariant.0),
  λ work band prices lefts can.
      let filled = c.fill_interval-left.ensures work band prices lefts (can_fill (goal.at.loop-interval-preserved c).In-loop-interval work band prices lefts can) in
      (kept_trans (c.loop-interval.invariant.1 work band prices lefts can).0 filled.0, filled.1),
)

pub shape_of-shares : goal.shape_of-shares
shape_of-shares c = (own (goal.at.shape_of-shares c).At-loop-interval).0.same_length

pub returns : goal.returns
returns c = c.loop-interval.invariant.1
