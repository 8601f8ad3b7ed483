use mathlib.Core.Path.{◌≡◌}
use Prim.Native.Nat.{◌<◌}
use native.Mathlib.Omega.{arith}
use lib.ListN.{length, get_or, take, length-set, length-take}
use lib.Seq.{get_or-take}
use Rattle.room_order.proofs.RoomStores.{put_none, length_put, put_next, put_whole}
use Rattle.room_order.proofs.lists.write_rooms.Goals as goal
use Rattle.room_order.proofs.lists.write_rooms.Goals.{At-loop-place, In-loop-place}

inside : (c : In-loop-place) → c.loop-place.place < c.args.count
inside c = omega (arith, length-take c.args.count c.args.order.now)

-- the job at the place is that of the order
own : (c : In-loop-place) → get_or (take c.args.count c.args.order.now) c.loop-place.place 0 ≡ get_or c.args.order.now c.loop-place.place 0
own c = get_or-take c.args.count c.args.order.now c.loop-place.place 0 (inside c)

-- and one of the jobs
listed-job : (c : In-loop-place) → get_or (take c.args.count c.args.order.now) c.loop-place.place 0 < c.args.count
listed-job c = rw (own c) (c.requires.ordered_in.ordered.within c.loop-place.place (inside c))

-- the list keeps its length
same : (c : At-loop-place) → length c.loop-place.list ≡ length c.args.list.now
same c = length_put _ _ _ _ c.requires.count_le_max_jobs.1 _ _ c.loop-place.invariant

pub loop-place-init : goal.loop-place-init
loop-place-init c = put_none _ _ _ _

pub overflow_cast-list : goal.overflow_cast-list
overflow_cast-list c = omega (arith, listed-job (goal.at.overflow_cast-list c).In-loop-place)

pub bounds-list-place : goal.bounds-list-place
bounds-list-place c = omega (arith, same (goal.at.bounds-list-place c).At-loop-place)

pub offset_bounds-rooms-job : goal.offset_bounds-rooms-job
offset_bounds-rooms-job c = omega (arith, listed-job (goal.at.offset_bounds-rooms-job c).In-loop-place)

pub bounds-rooms-job : goal.bounds-rooms-job
bounds-rooms-job c = omega (arith, listed-job (goal.at.bounds-rooms-job c).In-loop-place)

pub overflow_cast-list-in-loop-place : goal.overflow_cast-list-in-loop-place
overflow_cast-list-in-loop-place c = omega (arith, c.requires.count_le_max_jobs.2 _ (listed-job (goal.at.overflow_cast-list-in-loop-place c).In-loop-place))

pub bounds-list-place-in-loop-place : goal.bounds-list-place-in-loop-place
bounds-list-place-in-loop-place c = simp length-set (omega (arith, same (goal.at.bounds-list-place-in-loop-place c).At-loop-place))

pub loop-place-preserved : goal.loop-place-preserved
loop-place-preserved c =
    let here = (goal.at.loop-place-preserved c).In-loop-place in
    rw (own here) (put_next _ _ _ _ c.requires.count_le_max_jobs.1 _ _ c.loop-place.invariant (inside here))

pub shape_of-list : goal.shape_of-list
shape_of-list c = same (goal.at.shape_of-list c).At-loop-place

pub returns : goal.returns
returns c =
    put_whole _ _ _ _ c.requires.count_le_max_jobs.1 _ _ c.loop-place.invariant (omega (arith, length-take c.args.count c.args.order.now)) c.requires.ordered_in
