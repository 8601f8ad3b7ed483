use mathlib.Core.Path.{◌≡◌, ◌∙◌}
use Prim.Native.Nat.{ℕ, ◌+◌, ◌<◌}
use native.Mathlib.Omega.{arith}
use lib.ListN.{length-set}
use Rattle.model.specs.Limits.{max_jobs, max_intervals}
use Rattle.workloads.specs.Placement.{Problem}
use Rattle.workloads.specs.Workloads.{Workload}
use Rattle.workloads.specs.Arrays.{numbers_in, problem_in, lent_windows}
use Rattle.searching.specs.Reaching.{state_of, with_windows}
use Rattle.paths.specs.Paths.{first_open, SomeOpen}
use Rattle.paths.specs.Moves.{CanWalk}
use Rattle.paths.proofs.WalkSteps.{reaching_fits, target_open, WalkAt, walk_start, path_falls, walk_listed, walk_room, source_open, walk_place, walk_next, walk_end}
use Rattle.paths.proofs.path.path_limit.Invariants.{FirstAt}
use Rattle.paths.proofs.path.path_limit.Goals as goal
use Rattle.paths.proofs.path.path_limit.Goals.{At-loop-s}

pub first_open-s-requires : goal.first_open-s-requires
first_open-s-requires c =
    let can = c.requires.windows_walk.1 in
    let fits = reaching_fits can.reaching can.jobs_most in
    record {
      problem = problem_in c.requires.windows_walk.0;
      jobs = c.args.jobs;
      count = c.args.found.count;
      count_most = fits.0;
      jobs_below = fits.1;
      interval_below = omega (arith, can.to, can.reaching.now.end_below, can.intervals_most);
      some_open = target_open can;
    }

pub overflow_cast-route : goal.overflow_cast-route
overflow_cast-route c =
    let can = c.requires.windows_walk.1 in
    let a = c.args in
    let is_first = c.first_open-s.ensures (problem_in c.requires.windows_walk.0) a.jobs a.found.count (target_open can) in
    let walk = walk_start can c.requires.le_most.0 is_first a.route.now c.requires.le_most.1 in
    omega (arith, walk_listed can walk, (reaching_fits can.reaching can.jobs_most).0)

pub bounds-route-0 : goal.bounds-route-0
bounds-route-0 c = omega (arith, c.requires.le_most.1)

pub loop-s-init : goal.loop-s-init
loop-s-init c = (
  length-set c.args.route.now 0 _ ∙ c.requires.le_most.1,
  λ work found can is_first. walk_start can c.requires.le_most.0 is_first c.args.route.now c.requires.le_most.1,
)

-- the first reached job that is open in the target, of each workload
is_first : (c : At-loop-s) → (work : Workload)
    → let a = c.args in
    CanWalk (lent_windows work a.jobs a.first.now a.last.now) a.shares.now
    (state_of a.found a.reached.now a.source.now)
    → FirstAt (lent_windows work a.jobs a.first.now a.last.now) a.found a.reached.now c.first_open-s.result
is_first c work can = c.first_open-s.ensures (problem_in work) c.args.jobs c.args.found.count (target_open can)

-- where the walk is, of the workload that is known
at : (c : At-loop-s)
    → let a = c.args in
    WalkAt (lent_windows c.requires.windows_walk.0 a.jobs a.first.now a.last.now) a.shares.now
    (state_of a.found a.reached.now a.source.now) a.most c.loop-s.limit c.loop-s.route c.loop-s.steps c.loop-s.s
at c = let own = c.requires.windows_walk in c.loop-s.invariant.1 own.0 c.args.found own.1 (is_first c own.0 own.1)

-- the number of the reached job fits the arrays
below : (c : At-loop-s) → c.loop-s.s < max_jobs
below c =
    let can = c.requires.windows_walk.1 in
    omega (arith, walk_listed can (at c), (reaching_fits can.reaching can.jobs_most).0)

pub bounds-source-s : goal.bounds-source-s
bounds-source-s c = below (goal.at.bounds-source-s c).At-loop-s

-- the number of its source is small
gap_below : (c : At-loop-s) → 0 < c.loop-s.s → numbers_in c.args.source.now c.loop-s.s < max_intervals
gap_below c more =
    let can = c.requires.windows_walk.1 in
    let listed = walk_listed can (at c) in
    omega (arith, can.reaching.now.source_below _ more listed, can.intervals_most)

pub overflow_cast-gap : goal.overflow_cast-gap
overflow_cast-gap c = omega (arith, gap_below (goal.at.overflow_cast-gap c).At-loop-s c.loop-s-test.true)

pub bounds-reached-s : goal.bounds-reached-s
bounds-reached-s c = below (goal.at.bounds-reached-s c).At-loop-s

pub overflow_cast-reached : goal.overflow_cast-reached
overflow_cast-reached c =
    let can = c.requires.windows_walk.1 in
    omega (arith, (reaching_fits can.reaching can.jobs_most).1 _ (walk_listed can (at (goal.at.overflow_cast-reached c).At-loop-s)))

pub share_of-share-requires : goal.share_of-share-requires
share_of-share-requires c =
    walk_place c.requires.windows_walk.1 (at (goal.at.share_of-share-requires c).At-loop-s) c.loop-s-test.true

pub first_open-s-requires-in-loop-s : goal.first_open-s-requires-in-loop-s
first_open-s-requires-in-loop-s c =
    let loop = (goal.at.first_open-s-requires-in-loop-s c).At-loop-s in
    let can = c.requires.windows_walk.1 in
    let fits = reaching_fits can.reaching can.jobs_most in
    record {
      problem = problem_in c.requires.windows_walk.0;
      jobs = c.args.jobs;
      count = c.args.found.count;
      count_most = fits.0;
      jobs_below = fits.1;
      interval_below = gap_below loop c.loop-s-test.true;
      some_open = source_open can (at loop) c.loop-s-test.true;
    }

-- there is room on the route
fits-route : (c : At-loop-s) → 0 < c.loop-s.s → c.loop-s.steps + 1 < max_jobs
fits-route c more = walk_room c.requires.windows_walk.1 (at c) more

-- the next number is smaller
falls : (c : At-loop-s) (next : ℕ) → 0 < c.loop-s.s
    → let a = c.args in
    ((p : Problem) (jobs count : ℕ)
    → SomeOpen (with_windows p jobs a.first.now a.last.now) count (numbers_in a.reached.now) (numbers_in a.source.now c.loop-s.s)
    → next ≡ first_open (with_windows p jobs a.first.now a.last.now) count (numbers_in a.reached.now) (numbers_in a.source.now c.loop-s.s))
    → next < c.loop-s.s
falls c next more is-first =
    let can = c.requires.windows_walk.1 in
    let walk = at c in
    path_falls can.reaching more (walk_listed can walk)
    (is-first (problem_in c.requires.windows_walk.0) c.args.jobs c.args.found.count (source_open can walk more))

pub overflow_add-steps : goal.overflow_add-steps
overflow_add-steps c = omega (arith, fits-route (goal.at.overflow_add-steps c).At-loop-s c.loop-s-test.true)

pub overflow_cast-route-in-loop-s : goal.overflow_cast-route-in-loop-s
overflow_cast-route-in-loop-s c =
    let loop = (goal.at.overflow_cast-route-in-loop-s c).At-loop-s in
    omega (arith, falls loop _ c.loop-s-test.true c.first_open-s-in-loop-s.ensures, below loop)

pub bounds-route-steps : goal.bounds-route-steps
bounds-route-steps c =
    omega (arith, fits-route (goal.at.bounds-route-steps c).At-loop-s c.loop-s-test.true, c.loop-s.invariant.0)

pub loop-s-smaller : goal.loop-s-smaller
loop-s-smaller c = falls (goal.at.loop-s-smaller c).At-loop-s _ c.loop-s-test.true c.first_open-s-in-loop-s.ensures

pub loop-s-preserved : goal.loop-s-preserved
loop-s-preserved c =
    let route = c.loop-s.invariant.0 in
    let limit = c.min-limit.ensures in (
      length-set c.loop-s.route _ _ ∙ route,
      λ work found can is_first.
          let walk = c.loop-s.invariant.1 work found can is_first in
          let more = c.loop-s-test.true in
          rw limit
          (walk_next can walk more c.share_of-share.ensures
          (c.first_open-s-in-loop-s.ensures (problem_in work) c.args.jobs found.count (source_open can walk more)) route),
    )

pub returns : goal.returns
returns c =
    let a = c.args in
    let own = walk_end c.requires.windows_walk.1 (at (goal.at.returns c).At-loop-s) c.loop-s-test.false in (
      own.0,
      own.1,
      λ work can.
          let end = walk_end can (c.loop-s.invariant.1 work a.found can (is_first (goal.at.returns c).At-loop-s work can)) c.loop-s-test.false in
          (end.2, end.3),
    )
