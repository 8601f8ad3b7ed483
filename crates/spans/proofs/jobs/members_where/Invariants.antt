-- `jobs::members_where` meets its contract. The loop's invariant: the set has the first `j` jobs that pass, for any function that
-- says what the test answers. Assumes nothing.
use mathlib.Core.Path.{◌≡◌}
use mathlib.Core.Bool.{Bool}
use Prim.Native.Nat.{ℕ, ◌<◌, ◌≤◌}
use Rattle.job_sets.specs.JobSets.{set_below}
use Rattle.spans.proofs.jobs.members_where.Given as goal

abbrev pub invariant-loop-j : goal.invariant-loop-j
invariant-loop-j g l =
    (l.j ≤ l.count)
    × ((passes : ℕ → Bool) → ((k : ℕ) (b : Bool) → k < l.count → goal.F-post g l.test k b → b ≡ passes k) → l.set ≡ set_below l.j passes)
