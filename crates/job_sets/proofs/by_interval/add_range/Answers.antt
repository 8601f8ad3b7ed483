use native.Mathlib.Omega.{arith}
use Rattle.job_sets.proofs.Ranges.{range_none, range_more, range_whole}
use Rattle.job_sets.proofs.by_interval.add_range.Goals as goal

pub loop-i-init : goal.loop-i-init
loop-i-init c = (omega arith, omega arith, range_none c.requires.2)

pub add-requires : goal.add-requires
add-requires c = (omega arith, omega arith, c.loop-i.invariant.2.size)

pub loop-i-smaller : goal.loop-i-smaller
loop-i-smaller c = omega arith

pub loop-i-preserved : goal.loop-i-preserved
loop-i-preserved c =
    (omega arith, omega arith, range_more c.loop-i.invariant.2 c.add.ensures c.loop-i.invariant.0)

pub returns : goal.returns
returns c = let inv = c.loop-i.invariant in range_whole inv.2 c.loop-i-test.false inv.1
