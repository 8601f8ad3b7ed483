use mathlib.Core.Path.{◌≡◌}
use Prim.Native.Nat.{ℕ, ◌+◌, ◌<◌}
use native.Mathlib.Omega.{arith}
use Rattle.std.proofs.lemmas.List.Edits.{length-between, get_or-between}
use Rattle.refilling.proofs.CellSteps.{most_none, most_next}
use Rattle.refilling.proofs.cells.most.Goals as goal

pub loop-crossing-init : goal.loop-crossing-init
loop-crossing-init c =
    let start : c.args.interval + 1 + 0 ≡ c.args.interval + 1 = omega arith in
    (omega arith, rw start (most_none _ _ _))

pub loop-crossing-preserved : goal.loop-crossing-preserved
loop-crossing-preserved c =
    let inv = c.loop-crossing.invariant in
    let a = c.args in
    let k = c.loop-crossing.crossing-index in
    let next : a.interval + 1 + (k + 1) ≡ a.interval + 1 + k + 1 = omega arith in
    let below : a.interval + 1 + k < a.last = omega (arith, length-between {X = ℕ}) in
    let same = get_or-between a.cross.now (a.interval + 1) a.last k 0 below in (
      omega arith,
      rw (next, c.min-amount.ensures, same) (most_next inv.1 (omega arith)),
    )

pub returns : goal.returns
returns c =
    let all : c.args.interval + 1 + c.loop-crossing.crossing-index ≡ c.args.last = omega (arith, length-between {X = ℕ}) in
    rw all at c.loop-crossing.invariant.1
