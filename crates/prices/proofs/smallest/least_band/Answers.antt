use mathlib.Core.Path.{◌≡◌}
use Prim.Native.Nat.{◌+◌, ◌≤◌}
use native.Mathlib.Nat.{mul-le-mul}
use native.Mathlib.Numerals.{add-one}
use native.Mathlib.Omega.{arith}
use borrow.Author.Count.{below_none, below_more}
use Rattle.prices.proofs.smallest.least_band.Goals as goal

pub loop-band-init : goal.loop-band-init
loop-band-init c = (omega arith, below_none _)

pub overflow_mul-size : goal.overflow_mul-size
overflow_mul-size c =
    let pre = c.requires in
    let within : c.loop-band.band + 1 ≤ c.args.bands = omega arith in
    omega (arith, mul-le-mul pre.1 (pre.2 _ within))

pub returns-then-load-size : goal.returns-then-load-size
returns-then-load-size c =
    let turn = c.loop-band in
    (turn.invariant.0, record { passed = turn.invariant.1; enough = λ below. rw (← add-one turn.band) c.if-load-size.true })

pub loop-band-preserved : goal.loop-band-preserved
loop-band-preserved c =
    let turn = c.loop-band in
    (omega arith, below_more _ _ turn.invariant.1 (rw (← add-one turn.band) c.if-load-size.false))

pub returns : goal.returns
returns c =
    let all : c.loop-band.band ≡ c.args.bands = omega arith in
    (omega arith, record { passed = rw all at c.loop-band.invariant.1; enough = λ below. absurd (omega arith) })
