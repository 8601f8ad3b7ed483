use native.Mathlib.Omega.{arith}
use Rattle.model.specs.Plans.{shares_in}
use Rattle.listing_lines.specs.Appending.{step_room}
use Rattle.listing_lines.proofs.AppendedText.{same_room, next_most, pieces_none, pieces_next, pieces_whole}
use Rattle.listing_lines.proofs.LineTexts.{interval_lines}
use Rattle.listing_text.proofs.plan.put_interval.Goals as goal

pub loop-j-init : goal.loop-j-init
loop-j-init c = (omega arith, pieces_none _ _ _ step_room)

pub put_step-next-requires : goal.put_step-next-requires
put_step-next-requires c = omega (arith, next_most _ _ c.loop-j.invariant.1)

pub loop-j-preserved : goal.loop-j-preserved
loop-j-preserved c = (omega arith, pieces_next _ _ _ _ _ c.loop-j.invariant.1 c.put_step-next.ensures)

pub shape_of-text : goal.shape_of-text
shape_of-text c = same_room _ _ c.loop-j.invariant.1

pub returns : goal.returns
returns c =
    let a = c.args in
    pieces_whole _ _ _ _ _ c.loop-j.invariant.1 a.jobs (omega arith) (omega arith) _ _
    (interval_lines a.jobs (shares_in a.jobs a.shares.now) a.interval) (omega arith)
