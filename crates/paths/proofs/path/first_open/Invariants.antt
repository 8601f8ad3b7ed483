-- `path::first_open` meets its contract. The loop's invariant: no reached job passed so far is open in the interval.
-- Assumes nothing.
use mathlib.Core.Path.{◌≡◌}
use mathlib.Core.Bool.{false, ◌&&◌}
use Prim.Native.Nat.{ℕ, ◌-◌, ◌<◌}
use lib.Dec.{leb, ltb}
use Rattle.model.specs.Limits.{max_jobs}
use Rattle.workloads.specs.Arrays.{numbers_in}
use Rattle.paths.proofs.path.first_open.Given as goal

abbrev pub invariant-loop-interval : goal.invariant-loop-interval
invariant-loop-interval l =
    (k : ℕ) → k < l.s → (leb (numbers_in l.first (numbers_in l.reached k)) l.interval && ltb l.interval (numbers_in l.last (numbers_in l.reached k))) ≡ false

abbrev pub decreases-loop-interval : goal.decreases-loop-interval
decreases-loop-interval l = max_jobs - l.s
