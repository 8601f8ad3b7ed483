use mathlib.Core.Path.{◌≡◌, refl, sym, ◌∙◌}
use mathlib.Core.Bool.{false}
use Prim.Native.Nat.{◌<◌}
use native.Mathlib.Omega.{arith}
use lib.ListN.{length}
use Rattle.model.specs.Limits.{max_jobs}
use Rattle.job_sets.specs.JobSets.{is_empty}
use Rattle.spans.proofs.MemberStores.{least_small, least_room, fewer_left, put_next, put_whole}
use Rattle.spans.proofs.lists.write_members.Goals as goal
use Rattle.spans.proofs.lists.write_members.Goals.{After-least-job, In-loop-rest}

-- within the loop some member is left, and the least is a job
some : (c : In-loop-rest) → is_empty c.loop-rest.rest ≡ false
some c = sym c.is_empty.ensures ∙ c.loop-rest-test.true

small : (c : After-least-job) → c.least-job.result < max_jobs
small c = least_small _ _ _ _ _ _ _ c.loop-rest.invariant (some c.before) _ c.least-job.ensures

-- there is room for it
room : (c : After-least-job) → c.loop-rest.next < length c.loop-rest.list
room c =
    least_room _ _ _ _ _ _ _ c.loop-rest.invariant (some c.before) _ c.least-job.ensures c.requires.1

pub loop-rest-init : goal.loop-rest-init
loop-rest-init c = record { counted = refl; long = refl; stored = refl }

pub overflow_add-list : goal.overflow_add-list
overflow_add-list c = omega (arith, small (goal.at.overflow_add-list c).After-least-job)

pub overflow_cast-list : goal.overflow_cast-list
overflow_cast-list c = omega (arith, small (goal.at.overflow_cast-list c).After-least-job)

pub offset_bounds-list-next : goal.offset_bounds-list-next
offset_bounds-list-next c = omega (arith, room (goal.at.offset_bounds-list-next c).After-least-job, c.loop-rest.invariant.long)

pub bounds-list-next : goal.bounds-list-next
bounds-list-next c = room (goal.at.bounds-list-next c).After-least-job

pub overflow_add-next : goal.overflow_add-next
overflow_add-next c = omega (arith, room (goal.at.overflow_add-next c).After-least-job, c.loop-rest.invariant.long)

pub without-rest-requires : goal.without-rest-requires
without-rest-requires c = small (goal.at.without-rest-requires c).After-least-job

pub loop-rest-smaller : goal.loop-rest-smaller
loop-rest-smaller c =
    omega (arith, fewer_left _ _ _ _ _ _ _ c.loop-rest.invariant (some (goal.at.loop-rest-smaller c).In-loop-rest) _ c.least-job.ensures _ c.without-rest.ensures)

pub loop-rest-preserved : goal.loop-rest-preserved
loop-rest-preserved c =
    put_next _ _ _ _ _ _ _ c.loop-rest.invariant (some (goal.at.loop-rest-preserved c).In-loop-rest) _ c.least-job.ensures _ c.without-rest.ensures

pub shape_of-list : goal.shape_of-list
shape_of-list c = c.loop-rest.invariant.long

pub returns : goal.returns
returns c =
    let put = put_whole _ _ _ _ _ _ _ c.loop-rest.invariant (sym c.is_empty.ensures ∙ c.loop-rest-test.false) in
    record { value = put.0; list_after = put.1 }
