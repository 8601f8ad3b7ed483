use mathlib.Core.Path.{◌≡◌, refl}
use native.Mathlib.Omega.{arith}
use Rattle.refilling.proofs.ClearSteps.{cleared_none, held_below, row_room, cleared_next}
use Rattle.refilling.proofs.clearing.clear.Goals as goal

pub loop-interval-init : goal.loop-interval-init
loop-interval-init c = (omega arith, cleared_none _ _ _)

pub set_at-set-requires : goal.set_at-set-requires
set_at-set-requires c = omega (arith, c.loop-interval-test.true, c.requires.intervals_most)

pub clear_row-requires : goal.clear_row-requires
clear_row-requires c =
    let known = c.requires in
    let inside = c.loop-interval-test.true in (
      rw c.set_at-set.ensures (held_below known c.loop-interval.interval inside),
      rw c.loop-interval.invariant.1.kept.same_length (row_room known c.loop-interval.interval inside),
    )

pub loop-interval-preserved : goal.loop-interval-preserved
loop-interval-preserved c =
    let inside = c.loop-interval-test.true in
    let row = rw c.set_at-set.ensures at c.clear_row.ensures in
    (omega (arith, inside), cleared_next c.requires inside c.loop-interval.invariant.1 row)

pub shape_of-shares : goal.shape_of-shares
shape_of-shares c = c.loop-interval.invariant.1.kept.same_length

pub returns : goal.returns
returns c =
    let at-end = c.loop-interval in
    let all : at-end.interval ≡ c.args.intervals = omega (arith, at-end.invariant.0, c.loop-interval-test.false) in
    let cleared = at-end.invariant.1 in
    record { kept = cleared.kept; empty = rw all at cleared.empty; holders_are = refl }
