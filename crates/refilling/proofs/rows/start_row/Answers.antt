-- `rows::start_row` meets its contract (proofs/RowSteps.antt). Assumes nothing.
use Prim.Native.Nat.{suc}
use native.Mathlib.Omega.{arith}
use Rattle.refilling.specs.RefillTables.{Uncrossed}
use Rattle.refilling.proofs.Uncrossed.{uncrossed_ahead, uncrossed_next}
use Rattle.refilling.proofs.RowSteps.{row_starts}
use Rattle.refilling.proofs.rows.start_row.Goals as goal
use Rattle.refilling.proofs.rows.start_row.Goals.{then-interval-uncrossed, else-interval-uncrossed}

pub overflow_cast-ahead : goal.overflow_cast-ahead
overflow_cast-ahead c =
    omega (arith, c.requires.2 c.args.uncrossed (omega (arith, c.if-interval-uncrossed.false)))

pub returns : goal.returns
returns c = λ work loads jobs last table holders left cross opens between.
    let inside = c.requires.0 in
    let known = between.uncrossed_are in
    let ahead : Uncrossed c.args.intervals (suc c.args.interval) c.if-interval-uncrossed.ahead cross c.args.next.now =
    elim c.if-interval-uncrossed.branch [
      | then-interval-uncrossed w ↦ rw w.ahead-is (uncrossed_ahead known w.if-interval-uncrossed.true)
      | else-interval-uncrossed w ↦ rw w.ahead-is (uncrossed_next known inside w.if-interval-uncrossed.false)
    ] in
    rw (c.due_by.ensures, c.less-unfinished.ensures, c.set_at.ensures) (row_starts inside opens between ahead)
