-- `plan::put_lines` meets its contract: the four parts, one after another, are the text, and the longest plan has room.
-- Assumes nothing.
use mathlib.Core.Path.{refl}
use Prim.Native.Nat.{ℕ, ◌*◌, ◌≤◌}
use native.Mathlib.Nat.{mul-le-mul_right}
use native.Mathlib.Omega.{arith}
use Rattle.model.specs.Limits.{max_jobs, max_intervals}
use Rattle.listing_lines.specs.PlanText.{plan_text}
use Rattle.listing_lines.specs.Appending.{step_room}
use Rattle.listing_lines.proofs.AppendedText.{next_most, appended_then, appended_as}
use Rattle.listing_text.proofs.plan.put_lines.Goals as goal

steps_most : (jobs intervals : ℕ) → jobs ≤ max_jobs → intervals ≤ max_intervals → step_room * jobs * intervals ≤ step_room * max_jobs * max_intervals
steps_most jobs intervals few_jobs few_intervals = omega (arith, mul-le-mul_right intervals few_jobs)

pub put_steps-last-requires : goal.put_steps-last-requires
put_steps-last-requires c =
    let shown = c.requires in
    let most = steps_most _ _ shown.few_jobs shown.few_intervals in
    (shown.share-room, omega (arith, next_most _ _ c.put_spans-second.ensures, next_most _ _ c.put_sizes-first.ensures, most, shown.few_intervals))

pub put_energy-requires : goal.put_energy-requires
put_energy-requires c =
    let shown = c.requires in
    let most = steps_most _ _ shown.few_jobs shown.few_intervals in
    let steps = next_most _ _ c.put_steps-last.ensures in
    let spans = next_most _ _ c.put_spans-second.ensures in
    omega (arith, steps, spans, next_most _ _ c.put_sizes-first.ensures, most, shown.few_intervals)

pub returns : goal.returns
unfolding plan_text
returns c =
    let shown = c.requires in
    let most = steps_most _ _ shown.few_jobs shown.few_intervals in
    let steps = appended_then _ _ c.put_steps-last.ensures c.put_energy.ensures in
    let put = appended_then _ _ c.put_sizes-first.ensures (appended_then _ _ c.put_spans-second.ensures steps) in
    appended_as _ _ put _ _ refl (omega (arith, most, shown.few_intervals))
