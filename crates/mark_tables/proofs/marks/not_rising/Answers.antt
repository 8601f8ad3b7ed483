use native.Mathlib.Omega.{arith}
use Rattle.mark_tables.proofs.MarksIn.{falls_at, rises_all}
use borrow.Author.Count.{below_none, below_more}
use Rattle.mark_tables.proofs.marks.not_rising.Goals as goal

pub loop-i-init : goal.loop-i-init
loop-i-init c = (omega arith, below_none _)

pub returns-then-marks-i : goal.returns-then-marks-i
returns-then-marks-i c =
    falls_at c.args.count c.args.marks.now c.loop-i.i (omega arith) (omega arith)

pub loop-i-preserved : goal.loop-i-preserved
loop-i-preserved c =
    (omega arith, below_more _ _ c.loop-i.invariant.1 (omega arith))

pub returns : goal.returns
returns c =
    rises_all c.args.count c.args.marks.now (λ k below. c.loop-i.invariant.1 k (omega arith))
