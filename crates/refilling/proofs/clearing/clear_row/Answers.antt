use mathlib.Core.Path.{◌≡◌, sym, ◌∙◌}
use mathlib.Core.Bool.{true}
use Prim.Native.Nat.{◌+◌, ◌*◌, ◌<◌}
use native.Mathlib.Omega.{arith}
use lib.ListN.{length}
use borrow.Author.Tests.{not-true, not-false}
use Rattle.job_sets.specs.JobSets.{is_member}
use Rattle.job_sets.proofs.JobSets.{count_without, least_has, member_small}
use Rattle.refilling.proofs.ClearSteps.{row_start, row_length, row_next, row_end}
use Rattle.refilling.proofs.clearing.clear_row.Goals as goal
use Rattle.refilling.proofs.clearing.clear_row.Goals.{After-least-job}

pub loop-rest-init : goal.loop-rest-init
loop-rest-init c = row_start _ _ _ _

-- within the loop the least of the rest is a member, and so a job
is_member_true : (c : After-least-job) → is_member c.loop-rest.rest c.least-job.result ≡ true
is_member_true c =
    let some = sym c.is_empty.ensures ∙ not-true _ c.loop-rest-test.true-raw in
    rw c.least-job.ensures (least_has c.loop-rest.rest some).1

job_below : (c : After-least-job) → c.least-job.result < c.args.jobs
job_below c = c.requires.0 _ (c.loop-rest.invariant.among _ (is_member_true c))

-- and its place is in the table
place_inside : (c : After-least-job)
    → let a = c.args in a.interval * a.jobs + c.least-job.result < length c.loop-rest.shares
place_inside c =
    omega (arith, job_below c, row_length c.loop-rest.invariant, c.requires.1)

pub overflow_mul-shares : goal.overflow_mul-shares
overflow_mul-shares c = omega (arith, place_inside (goal.at.overflow_mul-shares c).After-least-job, row_length c.loop-rest.invariant)

pub overflow_add-shares : goal.overflow_add-shares
overflow_add-shares c = omega (arith, place_inside (goal.at.overflow_add-shares c).After-least-job, row_length c.loop-rest.invariant)

pub offset_bounds-shares-interval : goal.offset_bounds-shares-interval
offset_bounds-shares-interval c = omega (arith, place_inside (goal.at.offset_bounds-shares-interval c).After-least-job, row_length c.loop-rest.invariant)

pub bounds-shares-interval : goal.bounds-shares-interval
bounds-shares-interval c = place_inside (goal.at.bounds-shares-interval c).After-least-job

pub without-rest-requires : goal.without-rest-requires
without-rest-requires c = member_small _ _ (is_member_true (goal.at.without-rest-requires c).After-least-job)

pub loop-rest-smaller : goal.loop-rest-smaller
loop-rest-smaller c =
    rw c.without-rest.ensures (omega (arith, count_without c.loop-rest.rest _ (is_member_true (goal.at.loop-rest-smaller c).After-least-job)))

pub loop-rest-preserved : goal.loop-rest-preserved
loop-rest-preserved c =
    rw c.without-rest.ensures (row_next c.loop-rest.invariant _ (is_member_true (goal.at.loop-rest-preserved c).After-least-job) (job_below (goal.at.loop-rest-preserved c).After-least-job) c.requires.1)

pub shape_of-shares : goal.shape_of-shares
shape_of-shares c = row_length c.loop-rest.invariant

pub returns : goal.returns
returns c = row_end c.loop-rest.invariant (sym c.is_empty.ensures ∙ not-false _ c.loop-rest-test.false-raw)
