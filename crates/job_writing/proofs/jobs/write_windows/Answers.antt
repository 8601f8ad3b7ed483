use mathlib.Core.Path.{◌≡◌}
use lib.ListN.{length}
use Rattle.job_writing.proofs.JobStores.{windows_none, windows_long, windows_next, windows_whole}
use native.Mathlib.Omega.{arith}
use Rattle.job_writing.proofs.jobs.write_windows.Goals as goal
use Rattle.job_writing.proofs.jobs.write_windows.Goals.{At-loop-j}

-- what is written keeps the buffer's length
long : (c : At-loop-j) → length c.loop-j.out ≡ length c.args.out.now
long c = windows_long c.args.releases.now c.args.deadlines.now _ _ _ c.loop-j.invariant.1

pub loop-j-init : goal.loop-j-init
loop-j-init c = (omega arith, windows_none c.args.releases.now c.args.deadlines.now _)

pub put32-requires : goal.put32-requires
put32-requires c = omega (arith, long (goal.at.put32-requires c).At-loop-j)

pub put32-requires-in-loop-j : goal.put32-requires-in-loop-j
put32-requires-in-loop-j c =
    omega (arith, long (goal.at.put32-requires-in-loop-j c).At-loop-j)

pub loop-j-preserved : goal.loop-j-preserved
loop-j-preserved c =
    (omega arith, windows_next c.args.releases.now c.args.deadlines.now _ _ _ _ _ c.loop-j.invariant.1 c.put32.ensures c.put32-in-loop-j.ensures)

pub shape_of-out : goal.shape_of-out
shape_of-out c = long (goal.at.shape_of-out c).At-loop-j

pub returns : goal.returns
returns c = windows_whole c.args.releases.now c.args.deadlines.now _ _ _ _ c.loop-j.invariant.1 c.loop-j.invariant.0 c.loop-j-test.false
