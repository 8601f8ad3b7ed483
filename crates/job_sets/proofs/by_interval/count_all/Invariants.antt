-- `by_interval::count_all` meets its contract. The loop's invariant: the members are those of the first `i` sets, at most
-- max_jobs each. Assumes nothing.
use mathlib.Core.Path.{◌≡◌}
use Prim.Native.Nat.{◌*◌, ◌≤◌}
use Rattle.model.specs.Limits.{max_jobs}
use Rattle.model.specs.Sum.{sum}
use Rattle.job_sets.specs.JobSets.{member_count}
use Rattle.job_sets.specs.IntervalSets.{set_in}
use Rattle.job_sets.proofs.by_interval.count_all.Given as goal

abbrev pub invariant-loop-i : goal.invariant-loop-i
invariant-loop-i l =
    (l.members ≡ sum l.i (λ k. member_count (set_in l.sets k))) × (l.i ≤ l.intervals) × (l.members ≤ max_jobs * l.i)
