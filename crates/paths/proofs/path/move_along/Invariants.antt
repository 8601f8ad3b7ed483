-- `path::move_along` meets its contract. The loop's invariant: the amount is taken out of the gap, and reached job s, which
-- stands on the route (proofs/Routes.antt), is the first that is open there (proofs/MoveSteps.antt). The numbers of these jobs
-- fall. Assumes nothing.
use mathlib.Core.Path.{◌≡◌}
use mathlib.Core.List.{List}
use Prim.Native.Nat.{ℕ, ◌≤◌}
use Rattle.workloads.specs.Workloads.{Workload}
use Rattle.workloads.specs.Arrays.{numbers_in, lent_windows}
use Rattle.searching.specs.declared.reached.Found.{Found}
use Rattle.searching.specs.Reaching.{state_of}
use Rattle.paths.specs.Moves.{CanMove}
use Rattle.paths.proofs.MoveSteps.{MoveAt}
use Rattle.paths.proofs.path.move_along.Given as goal

abbrev pub invariant-loop-s : goal.invariant-loop-s
invariant-loop-s l =
    (l.s ≡ numbers_in l.route l.step)
    × ((work : Workload) (first last : List ℕ) (found : Found) → l.initial.gap ≡ found.target
    → (can : CanMove (lent_windows work l.jobs first last) l.initial.shares l.initial.holders l.route (state_of found l.reached l.source) l.amount)
    → (l.step ≤ can.routed.steps)
    × MoveAt (lent_windows work l.jobs first last) l.initial.shares (state_of found l.reached l.source) l.amount l.shares l.holders l.gap l.s)

abbrev pub decreases-loop-s : goal.decreases-loop-s
decreases-loop-s l = l.s
