-- `reached::scan` meets its contract. The loop's invariant: the jobs with a share in the interval are listed, but for those
-- that are still in `new` (proofs/ScanSteps.antt). Assumes nothing.
use mathlib.Core.Path.{◌≡◌}
use Prim.Native.Nat.{ℕ}
use Rattle.model.specs.Plans.{Shares}
use Rattle.job_sets.specs.declared.JobSet.{JobSet}
use Rattle.job_sets.specs.JobSets.{member_count, in_both}
use Rattle.workloads.specs.Placement.{Problem}
use Rattle.searching.specs.Reaching.{state_of, with_windows, ToScan, ScanOf}
use Rattle.searching.proofs.reached.scan.Given as goal

abbrev pub invariant-loop-new : goal.invariant-loop-new
invariant-loop-new l =
    (p : Problem) (shares : Shares) (job : ℕ) (set : JobSet) → l.initial.new ≡ in_both set l.initial.found.unlisted
    → ToScan (with_windows p p.jobs l.first l.last) shares job set (state_of l.initial.found l.initial.reached l.initial.source) l.interval
    → ScanOf (with_windows p p.jobs l.first l.last) shares job (state_of l.initial.found l.initial.reached l.initial.source) l.interval l.new (state_of l.found l.reached l.source)

abbrev pub decreases-loop-new : goal.decreases-loop-new
decreases-loop-new l = member_count l.new
