use mathlib.Core.Path.{◌≡◌}
use Prim.Native.Nat.{◌+◌, ◌≤◌}
use native.Mathlib.Nat.{mul-le-mul_right}
use native.Mathlib.Omega.{arith}
use lib.ListN.{length}
use Rattle.model.specs.Entries.{joined}
use Rattle.model.specs.Plans.{shares_in}
use Rattle.writing.specs.StepList.{steps_in, steps_of}
use Rattle.writing.proofs.PlanStores.{put_none, length_put, put_whole, put_room, put_next}
use Rattle.writing.proofs.plan.write_steps.Goals as goal
use Rattle.writing.proofs.plan.write_steps.Goals.{At-loop-interval}

-- what is written keeps the buffer's length
long : (c : At-loop-interval) → length c.loop-interval.plan ≡ length c.args.plan.now
long c = length_put _ _ _ _ _ _ _ c.loop-interval.invariant.1

-- all steps have room
room : (c : At-loop-interval)
    → let a = c.args in
    0 + length (joined a.intervals (steps_in a.jobs (shares_in a.jobs a.shares.now))) ≤ a.count
unfolding steps_of
room c = omega (arith, c.requires.count_value.0)

pub loop-interval-init : goal.loop-interval-init
loop-interval-init c = (omega arith, put_none _ _ _ _)

pub write_interval-next-requires : goal.write_interval-next-requires
write_interval-next-requires c =
    let fits = put_room _ _ _ _ _ _ _ c.loop-interval.invariant.1 _ c.loop-interval-test.true (room (goal.at.write_interval-next-requires c).At-loop-interval) in record { jobs_le_max_jobs = (omega arith, omega arith, omega (arith, mul-le-mul_right c.args.jobs c.loop-interval-test.true)); shares_held = rw c.set_at-set.ensures (c.requires.by_index _ c.loop-interval-test.true); interval_bound = (fits, omega (arith, long (goal.at.write_interval-next-requires c).At-loop-interval)) }

pub loop-interval-preserved : goal.loop-interval-preserved
loop-interval-preserved c =
    let called = c.write_interval-next in (
      omega arith,
      put_next _ _ _ _ _ _ _ c.loop-interval.invariant.1 _ c.loop-interval-test.true (room (goal.at.loop-interval-preserved c).At-loop-interval) _ _ called.ensures.value called.ensures.plan_after,
    )

pub shape_of-plan : goal.shape_of-plan
shape_of-plan c = long (goal.at.shape_of-plan c).At-loop-interval

pub returns : goal.returns
unfolding steps_of
returns c = (put_whole _ _ _ _ _ _ _ c.loop-interval.invariant.1 _ c.loop-interval.invariant.0 c.loop-interval-test.false).plan_is
