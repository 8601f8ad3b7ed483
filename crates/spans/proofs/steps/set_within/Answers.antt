-- `steps::set_within` meets its contract. Assumes nothing.
use mathlib.Core.Bool.{and-false}
use Prim.Native.Nat.{◌+◌}
use native.Mathlib.Omega.{arith}
use lib.ListN.{get_or}
use lib.Dec.{ltb}
use borrow.Author.Tests.{lt-ltb, le-ltb}
use Rattle.spans.proofs.steps.set_within.Goals as goal

pub returns-then-end-times : goal.returns-then-end-times
returns-then-end-times c = let a = c.args in rw (le-ltb (get_or a.times.now a.interval 0) a.end (omega arith)) c.none.ensures

pub returns-then-times-interval : goal.returns-then-times-interval
returns-then-times-interval c =
    let a = c.args in
    rw (le-ltb a.start (get_or a.times.now (a.interval + 1) 0) (omega arith), and-false (ltb (get_or a.times.now a.interval 0) a.end))
    c.none-then-times-interval.ensures

pub returns : goal.returns
returns c =
    let a = c.args in
    rw (
      lt-ltb (get_or a.times.now a.interval 0) a.end (omega arith),
      lt-ltb a.start (get_or a.times.now (a.interval + 1) 0) (omega arith),
    )
    c.set_at.ensures
