-- `ramyearly_spare` meets its contract: the answer becomes its struct, and so does a refusal. Assumes nothing.
use mathlib.Core.Path.{◌∙◌, sym}
use mir.Syntax.{w64}
use mir.Val.{SFits}
use mir.Facts.{to_z-of_z}
use borrow.Author.Rules.{rules}
use Rattle.capi.proofs.Cases.{spare_found, spare_refused}
use Rattle.capi.proofs.ramyearly_spare.Goals as goal

pub returns-in-Ok : goal.returns-in-Ok
returns-in-Ok c =
    let fits : SFits w64 c.in-Ok.spare = search rules in
    rw (to_z-of_z fits) (spare_found _ _ _ _ _ _ (sym c.in-Ok.is ∙ c.spare.ensures))

pub returns-in-Err : goal.returns-in-Err
returns-in-Err c = rw c.number.ensures (spare_refused _ _ _ _ _ _ (sym c.in-Err.is ∙ c.spare.ensures))
