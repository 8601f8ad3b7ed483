-- `plan::put_spans` meets its contract. The loop's invariant: the lines of the first `i` intervals are put.
-- Assumes nothing.
use Prim.Native.Nat.{suc, ◌*◌, ◌≤◌}
use Rattle.model.specs.Entries.{joined}
use Rattle.model.specs.Sum.{sum}
use Rattle.model.specs.Plans.{shares_in}
use Rattle.levels.specs.PointTables.{points_of}
use Rattle.listing_lines.specs.PlanText.{span_line}
use Rattle.listing_lines.specs.Appending.{span_room, Appended}
use Rattle.listing_text.specs.ShownPlans.{bounds_in, prices_in}
use Rattle.listing_text.proofs.plan.put_spans.Given as goal

abbrev pub invariant-loop-i : goal.invariant-loop-i
invariant-loop-i l =
    (l.i ≤ l.intervals)
    × Appended l.initial.text l.place
    (joined l.i (λ k. span_line (points_of l.working) (bounds_in l.times k) (bounds_in l.times (suc k)) (sum l.jobs (shares_in l.jobs l.shares k)) (prices_in l.intervals l.prices k)))
    (span_room * l.i) l.text l.next
