use mathlib.Core.Path.{◌∙◌, ap}
use Prim.Native.Nat.{◌≤◌}
use native.Mathlib.Omega.{arith}
use lib.ListN.{length, get_or}
use Rattle.model.specs.Limits.{max_intervals}
use Rattle.job_sets.proofs.IntervalSets.{sets_size}
use Rattle.intervals.proofs.OpenSets.{open_none, open_more, open_whole}
use Rattle.intervals.proofs.opening.open_sets.Goals as goal
use Rattle.intervals.proofs.opening.open_sets.Goals.{After-way_told-1}

pub loop-j-init : goal.loop-j-init
loop-j-init c = (omega arith, c.requires.jobs_le_max_jobs.1 ∙ open_none c.args.first.now c.args.last.now)

-- the job's numbers are small
few : (c : After-way_told-1)
    → let a = c.args in
    let j = c.loop-j.j in
    (get_or a.first.now j 0 ≤ max_intervals) × (get_or a.last.now j 0 ≤ max_intervals)
few c = c.requires.by_index _ c.loop-j-test.true

pub overflow_cast-first : goal.overflow_cast-first
overflow_cast-first c = omega (arith, (few (goal.at.overflow_cast-first c).After-way_told-1).0)

pub overflow_cast-last : goal.overflow_cast-last
overflow_cast-last c = omega (arith, (few (goal.at.overflow_cast-last c).After-way_told-1).1)

pub add_range-requires : goal.add_range-requires
add_range-requires c =
    ((few (goal.at.add_range-requires c).After-way_told-1).1, omega arith, ap length c.loop-j.invariant.1 ∙ sets_size _)

pub loop-j-preserved : goal.loop-j-preserved
loop-j-preserved c =
    (omega arith, open_more c.args.first.now c.args.last.now c.loop-j.invariant.1 c.add_range.ensures)

pub returns : goal.returns
returns c =
    open_whole c.args.first.now c.args.last.now c.loop-j.invariant.0 c.loop-j-test.false c.loop-j.invariant.1
