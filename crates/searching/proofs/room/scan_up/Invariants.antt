-- `room::scan_up` meets its contract. The loop's invariant: the intervals up to `high` are scanned too
-- (proofs/SearchSteps.antt). Assumes nothing.
use Prim.Native.Nat.{ℕ, ◌-◌}
use Rattle.model.specs.Limits.{max_intervals}
use Rattle.model.specs.Plans.{Shares}
use Rattle.workloads.specs.Placement.{Problem}
use Rattle.searching.specs.Reaching.{state_of, with_windows, ToSearch, Scanning}
use Rattle.searching.proofs.room.scan_up.Given as goal

abbrev pub invariant-loop-high : goal.invariant-loop-high
invariant-loop-high l =
    (p : Problem) (shares : Shares) (job band low : ℕ) → ToSearch (with_windows p p.jobs l.first l.last) shares l.room l.holders job band
    → Scanning (with_windows p p.jobs l.first l.last) shares job band (state_of l.initial.found l.initial.reached l.initial.source) low l.initial.high
    → Scanning (with_windows p p.jobs l.first l.last) shares job band (state_of l.found l.reached l.source) low l.high

abbrev pub decreases-loop-high : goal.decreases-loop-high
decreases-loop-high l = max_intervals - l.high
