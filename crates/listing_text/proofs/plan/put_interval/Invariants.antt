-- `plan::put_interval` meets its contract. The loop's invariant: the steps of the first `j` jobs are put.
-- Assumes nothing.
use Prim.Native.Nat.{◌*◌, ◌≤◌}
use Rattle.model.specs.Entries.{encode_each, joined}
use Rattle.model.specs.Plans.{shares_in}
use Rattle.writing.specs.StepList.{step_of}
use Rattle.listing_lines.specs.PlanText.{step_line}
use Rattle.listing_lines.specs.Appending.{step_room, Appended}
use Rattle.listing_text.proofs.plan.put_interval.Given as goal

abbrev pub invariant-loop-j : goal.invariant-loop-j
invariant-loop-j l =
    (l.j ≤ l.jobs) × Appended l.initial.text l.place (joined l.j (λ k. encode_each step_line (step_of l.interval k (shares_in l.jobs l.shares l.interval k)))) (step_room * l.j) l.text l.next
