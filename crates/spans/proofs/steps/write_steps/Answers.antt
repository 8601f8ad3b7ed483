use mathlib.Core.Path.{◌≡◌}
use native.Mathlib.Omega.{arith}
use lib.ListN.{length}
use Rattle.spans.proofs.StepStores.{put_none, length_put, put_whole, put_room, put_next}
use Rattle.spans.proofs.steps.write_steps.Goals as goal
use Rattle.spans.proofs.steps.write_steps.Goals.{At-loop-i}

-- what is written keeps the list's length
long : (c : At-loop-i) → length c.loop-i.list ≡ length c.args.list.now
long c = length_put _ _ _ _ _ _ c.requires.1 _ _ _ c.loop-i.invariant

pub loop-i-init : goal.loop-i-init
loop-i-init c = put_none _ _ _ _ _ _

pub write_members-next-requires : goal.write_members-next-requires
write_members-next-requires c =
    (omega arith, put_room _ _ _ _ _ _ c.requires.1 _ _ _ c.loop-i.invariant c.loop-i-test.true _ c.set_within-set.ensures)

pub loop-i-preserved : goal.loop-i-preserved
loop-i-preserved c =
    let called = c.write_members-next in
    put_next _ _ _ _ _ _ c.requires.1 _ _ _ c.loop-i.invariant c.loop-i-test.true _ c.set_within-set.ensures
    _ _ called.ensures.value called.ensures.list_after

pub shape_of-list : goal.shape_of-list
shape_of-list c = long (goal.at.shape_of-list c).At-loop-i

pub returns : goal.returns
returns c =
    put_whole _ _ _ _ _ _ c.requires.1 _ _ _ c.loop-i.invariant c.loop-i-test.false
