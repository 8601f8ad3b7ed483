-- `ramyearly_nearest` meets its contract: each case of the answer becomes its struct. Assumes nothing.
use mathlib.Core.Path.{refl, ◌∙◌, ap}
use mir.Syntax.{w64}
use mir.Val.{SFits}
use mir.Facts.{to_z-of_z}
use Rattle.std.specs.Prelude.{Err}
use Rattle.capi.proofs.NearestCases.{returned}
use borrow.Author.Rules.{rules}
use Rattle.capi.proofs.nearest_job.ramyearly_nearest.Goals as goal

pub returns-in-Ok : goal.returns-in-Ok
returns-in-Ok c = returned _ _ _ _ _ c.nearest.ensures _ _ c.in-Ok.is refl

pub returns-in-Err-Overfull : goal.returns-in-Err-Overfull
returns-in-Err-Overfull c =
    let fits : SFits w64 c.in-Err-Overfull.spare = search rules in
    rw (to_z-of_z fits) (returned _ _ _ _ _ c.nearest.ensures _ _ (c.in-Err-Overfull.is ∙ ap Err c.in-Err-Overfull.field-0-is) refl)

pub returns-in-Err-Refused : goal.returns-in-Err-Refused
returns-in-Err-Refused c =
    rw c.number.ensures (returned _ _ _ _ _ c.nearest.ensures _ _ (c.in-Err-Refused.is ∙ ap Err c.in-Err-Refused.field-0-is) refl)
