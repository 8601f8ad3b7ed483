-- `path::path_limit` meets its contract. The loop's invariant: the path was walked up to an interval in which reached
-- job s is the first that is open, and the route holds it so far (proofs/WalkSteps.antt). The numbers of these jobs fall.
-- Assumes nothing.
use mathlib.Core.Path.{◌≡◌}
use mathlib.Core.List.{List}
use Prim.Native.Nat.{ℕ}
use lib.ListN.{length}
use Rattle.model.specs.Limits.{max_jobs}
use Rattle.workloads.specs.Workloads.{Workload}
use Rattle.workloads.specs.Arrays.{numbers_in, problem_in, lent_windows}
use Rattle.searching.specs.declared.reached.Found.{Found}
use Rattle.searching.specs.Reaching.{state_of}
use Rattle.paths.specs.Paths.{first_open}
use Rattle.paths.specs.Moves.{CanWalk}
use Rattle.paths.proofs.WalkSteps.{WalkAt}
use Rattle.paths.proofs.path.path_limit.Given as goal

-- the first reached job that is open in the target
abbrev pub FirstAt : (work : Workload) → Found → (reached : List ℕ) → (s : ℕ) → Type 0
FirstAt work found reached s = s ≡ first_open (problem_in work) found.count (numbers_in reached) found.target

abbrev pub invariant-loop-s : goal.invariant-loop-s
invariant-loop-s l =
    (length l.route ≡ max_jobs)
    × ((work : Workload) (found : Found) → CanWalk (lent_windows work l.jobs l.first l.last) l.shares (state_of found l.reached l.source)
    → FirstAt (lent_windows work l.jobs l.first l.last) found l.reached l.initial.s
    → WalkAt (lent_windows work l.jobs l.first l.last) l.shares (state_of found l.reached l.source) l.most l.limit l.route l.steps l.s)

abbrev pub decreases-loop-s : goal.decreases-loop-s
decreases-loop-s l = l.s
