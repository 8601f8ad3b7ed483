use Prim.Native.Nat.{◌*◌}
use native.Mathlib.Nat.{mul-le-mul_left, mul-le-mul_right}
use native.Mathlib.Omega.{arith}
use Rattle.model.specs.Plans.{shares_in}
use Rattle.listing_lines.specs.Appending.{step_room}
use Rattle.listing_lines.proofs.AppendedText.{same_room, next_most, pieces_none, pieces_next, pieces_whole}
use Rattle.listing_lines.proofs.LineTexts.{all_lines}
use Rattle.listing_text.proofs.plan.put_steps.Goals as goal

pub loop-i-init : goal.loop-i-init
loop-i-init c = (omega arith, pieces_none _ _ _ _)

pub put_interval-next-requires : goal.put_interval-next-requires
put_interval-next-requires c =
    let jobs = c.args.jobs in (
      omega (arith, mul-le-mul_right jobs c.loop-i-test.true),
      omega (arith, next_most _ _ c.loop-i.invariant.1, mul-le-mul_left (step_room * jobs) c.loop-i-test.true),
    )

pub loop-i-preserved : goal.loop-i-preserved
loop-i-preserved c = (omega arith, pieces_next _ _ _ _ _ c.loop-i.invariant.1 c.put_interval-next.ensures)

pub shape_of-text : goal.shape_of-text
shape_of-text c = same_room _ _ c.loop-i.invariant.1

pub returns : goal.returns
returns c =
    let a = c.args in
    pieces_whole _ _ _ _ _ c.loop-i.invariant.1 a.intervals (omega arith) (omega arith) _ _
    (all_lines a.jobs (shares_in a.jobs a.shares.now) a.intervals) (omega arith)
