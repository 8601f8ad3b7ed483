-- `room::search` meets its contract. The loop's invariant: the intervals from `low` up to `high` are scanned
-- (proofs/SearchSteps.antt). Assumes nothing.
use Prim.Native.Nat.{ℕ}
use Rattle.model.specs.Plans.{Shares}
use Rattle.workloads.specs.Placement.{Problem}
use Rattle.searching.specs.Reaching.{state_of, with_windows, ToSearch, Scanning}
use Rattle.searching.proofs.room.search.Given as goal

abbrev pub invariant-loop-found : goal.invariant-loop-found
invariant-loop-found l =
    (p : Problem) (shares : Shares) (band : ℕ) → ToSearch (with_windows p p.jobs l.first l.last) shares l.room l.holders l.job band
    → Scanning (with_windows p p.jobs l.first l.last) shares l.job band (state_of l.found l.reached l.source) l.low l.high

abbrev pub decreases-loop-found : goal.decreases-loop-found
decreases-loop-found l = l.low
