use mathlib.Core.Path.{◌≡◌, ◌∙◌, ap}
use mathlib.Core.Bool.{not, ◌&&◌}
use Prim.Native.Nat.{◌+◌}
use native.Mathlib.Omega.{arith}
use lib.ListN.{get_or}
use lib.Dec.{leb, eqb}
use borrow.Author.Count.{below_none, below_more}
use Rattle.model.specs.PriceBytes.{end_at}
use Rattle.model.specs.Refusals.{fault_of}
use Rattle.fitting.proofs.Verdicts.{verdict_stops, verdict_passes}
use Rattle.pricing.proofs.PriceFaults.{told_wrong, told_right}
use Rattle.pricing.proofs.pricing.check_entries.Goals as goal
use Rattle.pricing.proofs.pricing.check_entries.Goals.{After-wrong_entry}

pub loop-i-init : goal.loop-i-init
loop-i-init c = (omega arith, below_none _)

-- what was told of this turn's interval is whether it has a fault
here : (c : After-wrong_entry)
    → let a = c.args in
    let i = c.loop-i.i in
    let number = get_or a.numbers.now i 0 in
    c.wrong_entry.result ≡ not (eqb (end_at a.prices.now i) (get_or a.times.now (i + 1) 0) && (leb 1 number && leb number a.bands))
here c = c.wrong_entry.ensures ∙ rw c.number32-end.ensures

pub returns-then-wrong_entry : goal.returns-then-wrong_entry
returns-then-wrong_entry c =
    rw c.at.ensures
    (verdict_stops _ _ _ _ c.loop-i.invariant.1 (omega arith)
    (ap fault_of (told_wrong _ _ (here (goal.at.returns-then-wrong_entry c).After-wrong_entry) 22 c.if-wrong_entry.true)))

pub loop-i-preserved : goal.loop-i-preserved
loop-i-preserved c =
    (omega arith, below_more _ _ c.loop-i.invariant.1 (told_right _ _ (here (goal.at.loop-i-preserved c).After-wrong_entry) 22 c.if-wrong_entry.false))

pub returns : goal.returns
returns c = verdict_passes _ _ (λ k below. c.loop-i.invariant.1 k (omega arith))
