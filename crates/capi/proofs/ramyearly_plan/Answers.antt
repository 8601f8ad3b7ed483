-- `ramyearly_plan` meets its contract: each case of planning's answer becomes its struct. Assumes nothing.
use mathlib.Core.Path.{◌≡◌, refl, ◌∙◌, ap}
use mathlib.Core.List.{List}
use Prim.Native.Nat.{ℕ}
use mir.Syntax.{w64}
use mir.Val.{SFits}
use mir.Facts.{to_z-of_z}
use borrow.Author.Rules.{rules}
use Rattle.std.specs.Prelude.{Err}
use Rattle.model.specs.declared.Parameters.{Parameters}
use Rattle.planning.specs.MadePlans.{Buffers}
use Rattle.planning.specs.PlanAnswers.{PlanAnswer, PlanContract}
use Rattle.capi.specs.declared.PlanResult.{PlanResult}
use Rattle.capi.specs.Results.{plan_result, PlanCall}
use Rattle.capi.proofs.ramyearly_plan.Goals as goal

-- the struct of the case that the answer is
returned : (level_bytes job_bytes mark_bytes : List ℕ) (parameters : Parameters) (before after : Buffers) {answered : PlanAnswer}
    → PlanContract level_bytes job_bytes mark_bytes parameters before after answered → (found : PlanAnswer) (result : PlanResult) → answered ≡ found
    → result ≡ plan_result found → PlanCall level_bytes job_bytes mark_bytes parameters before after result
returned level_bytes job_bytes mark_bytes parameters before after contract found result same is =
    record { answered = found; result_is = is; contract = rw same at contract }

pub returns-in-Ok : goal.returns-in-Ok
returns-in-Ok c = returned _ _ _ _ _ _ c.plan.ensures _ _ c.in-Ok.is refl

pub returns-in-Err-Overfull : goal.returns-in-Err-Overfull
returns-in-Err-Overfull c =
    let fits : SFits w64 c.in-Err-Overfull.spare = search rules in
    rw (to_z-of_z fits) (returned _ _ _ _ _ _ c.plan.ensures _ _ (c.in-Err-Overfull.is ∙ ap Err c.in-Err-Overfull.field-0-is) refl)

pub returns-in-Err-Refused : goal.returns-in-Err-Refused
returns-in-Err-Refused c =
    rw c.number.ensures (returned _ _ _ _ _ _ c.plan.ensures _ _ (c.in-Err-Refused.is ∙ ap Err c.in-Err-Refused.field-0-is) refl)
