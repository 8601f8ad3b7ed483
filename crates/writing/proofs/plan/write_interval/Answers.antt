use mathlib.Core.Path.{◌≡◌, sym, ◌∙◌}
use mathlib.Core.Bool.{false}
use Prim.Native.Nat.{ℕ, ◌<◌}
use native.Mathlib.Omega.{arith}
use lib.ListN.{length}
use Rattle.model.specs.Plans.{shares_in}
use Rattle.job_sets.specs.JobSets.{least_member, is_empty}
use Rattle.writing.proofs.MemberSteps.{members_none, members_whole, least_share, least_room, members_next, fewer_left}
use Rattle.writing.proofs.PlanStores.{length_put}
use Rattle.writing.proofs.plan.write_interval.Goals as goal
use Rattle.writing.proofs.plan.write_interval.Goals.{At-loop-rest, In-loop-rest}

-- what is written keeps the buffer's length
long : (c : At-loop-rest) → length c.loop-rest.plan ≡ length c.args.plan.now
long c = length_put _ _ _ _ _ _ _ c.loop-rest.invariant.put

-- within the loop some member is left, and the least is a job with a share
some : (c : In-loop-rest) → is_empty c.loop-rest.rest ≡ false
some c = sym c.is_empty.ensures ∙ c.loop-rest-test.true

share : (c : In-loop-rest) (job : ℕ) → job ≡ least_member c.loop-rest.rest
    → (job < c.args.jobs) × (0 < shares_in c.args.jobs c.args.shares.now c.args.interval job)
share c job least = least_share _ _ _ _ _ _ _ c.requires.shares_held _ _ _ c.loop-rest.invariant (some c) _ least

room : (c : In-loop-rest) (job : ℕ) → job ≡ least_member c.loop-rest.rest → c.loop-rest.next < c.args.count
room c job least =
    least_room _ _ _ _ _ _ _ c.requires.shares_held _ _ _ c.loop-rest.invariant (some c) _ least c.requires.interval_bound.0

pub loop-rest-init : goal.loop-rest-init
loop-rest-init c = members_none _ _ _ _ _ _ _ c.requires.shares_held

pub write_share-requires : goal.write_share-requires
write_share-requires c =
    let here = share (goal.at.write_share-requires c).In-loop-rest _ c.least-job.ensures in
    record { jobs_le_max_jobs = (omega arith, omega arith, here.0, omega arith); job_nonzero = here.1; next_lt_count = (room (goal.at.write_share-requires c).In-loop-rest _ c.least-job.ensures, omega (arith, long (goal.at.write_share-requires c).At-loop-rest)) }

pub overflow_add-next : goal.overflow_add-next
overflow_add-next c = omega (arith, room (goal.at.overflow_add-next c).In-loop-rest _ c.least-job.ensures)

pub without-rest-requires : goal.without-rest-requires
without-rest-requires c = omega (arith, share (goal.at.without-rest-requires c).In-loop-rest _ c.least-job.ensures)

pub loop-rest-smaller : goal.loop-rest-smaller
loop-rest-smaller c =
    fewer_left _ _ _ (some (goal.at.loop-rest-smaller c).In-loop-rest) c.least-job.ensures c.without-rest.ensures

pub loop-rest-preserved : goal.loop-rest-preserved
loop-rest-preserved c =
    members_next _ _ _ _ _ _ _ c.requires.shares_held _ _ _ c.loop-rest.invariant (some (goal.at.loop-rest-preserved c).In-loop-rest) _ c.least-job.ensures c.requires.interval_bound.0
    _ _ c.without-rest.ensures c.write_share.ensures

pub shape_of-plan : goal.shape_of-plan
shape_of-plan c = long (goal.at.shape_of-plan c).At-loop-rest

pub returns : goal.returns
returns c =
    let put =
    members_whole _ _ _ _ _ _ _ c.requires.shares_held _ _ _ c.loop-rest.invariant c.requires.jobs_le_max_jobs.0
    (sym c.is_empty.ensures ∙ c.loop-rest-test.false) in
    record { value = put.next_is; plan_after = put.plan_is }
