-- `plan::put_steps` meets its contract. The loop's invariant: the steps of the first `i` intervals are put.
-- Assumes nothing.
use Prim.Native.Nat.{◌*◌, ◌≤◌}
use Rattle.model.specs.Entries.{encode_each, joined}
use Rattle.model.specs.Plans.{shares_in}
use Rattle.writing.specs.StepList.{steps_in}
use Rattle.listing_lines.specs.PlanText.{step_line}
use Rattle.listing_lines.specs.Appending.{step_room, Appended}
use Rattle.listing_text.proofs.plan.put_steps.Given as goal

abbrev pub invariant-loop-i : goal.invariant-loop-i
invariant-loop-i l =
    (l.i ≤ l.intervals) × Appended l.initial.text l.place (joined l.i (λ k. encode_each step_line (steps_in l.jobs (shares_in l.jobs l.shares) k))) (step_room * l.jobs * l.i) l.text l.next
