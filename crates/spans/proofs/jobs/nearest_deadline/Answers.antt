use mathlib.Core.Path.{◌≡◌}
use Prim.Native.Nat.{◌<◌}
use native.Mathlib.Omega.{arith}
use lib.ListN.{length-take}
use lib.Seq.{get_or-take}
use Rattle.spans.proofs.NearestDeadlines.{nearest_none, nearest_more}
use Rattle.spans.proofs.jobs.nearest_deadline.Goals as goal
use Rattle.spans.proofs.jobs.nearest_deadline.Goals.{In-loop-deadline}

pub loop-deadline-init : goal.loop-deadline-init
loop-deadline-init c = (omega arith, nearest_none c.args.deadlines.now c.args.start)

-- the deadline is that of a job
inside : (c : In-loop-deadline) → c.loop-deadline.deadline-index < c.args.count
inside c = omega (arith, length-take c.args.count c.args.deadlines.now)

pub nearer-nearest-requires : goal.nearer-nearest-requires
nearer-nearest-requires c =
    let below = inside (goal.at.nearer-nearest-requires c).In-loop-deadline in
    rw (get_or-take c.args.count c.args.deadlines.now c.loop-deadline.deadline-index 0 below) (c.requires.1 _ below)

pub loop-deadline-preserved : goal.loop-deadline-preserved
loop-deadline-preserved c =
    let deadlines = c.args.deadlines.now in
    let j = c.loop-deadline.deadline-index in
    let below = inside (goal.at.loop-deadline-preserved c).In-loop-deadline in
    (omega arith, rw (nearest_more deadlines c.args.start j, ← get_or-take c.args.count deadlines j 0 below) (c.nearer-nearest.ensures _ c.loop-deadline.invariant.1))

pub returns : goal.returns
returns c =
    let all : c.loop-deadline.deadline-index ≡ c.args.count = omega (arith, length-take c.args.count c.args.deadlines.now) in
    rw (← all) c.loop-deadline.invariant.1
