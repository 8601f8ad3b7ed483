use mathlib.Core.Path.{◌≡◌, refl}
use mathlib.Core.List.{List}
use Prim.Native.Nat.{ℕ, ◌+◌, ◌<◌, ◌≤◌}
use native.Mathlib.Omega.{arith}
use Rattle.model.specs.Limits.{max_jobs}
use Rattle.workloads.specs.Workloads.{Workload}
use Rattle.workloads.specs.Arrays.{numbers_in, problem_in, lent_windows}
use Rattle.searching.specs.declared.reached.Found.{Found}
use Rattle.searching.specs.Reaching.{state_of}
use Rattle.paths.specs.Paths.{first_open}
use Rattle.paths.specs.Moves.{CanMove, RouteMoved}
use Rattle.paths.proofs.WalkSteps.{reaching_fits, path_falls}
use Rattle.paths.proofs.Routes.{route_start, route_next}
use Rattle.paths.proofs.MoveSteps.{MoveAt, move_start, move_listed, move_gap, move_place, move_fits, source_below, put_place, put_enough, put_length_holders, move_next, move_end}
use Rattle.paths.proofs.path.move_along.Goals as goal
use Rattle.paths.proofs.path.move_along.Goals.{After-slice_known-2-1, At-loop-s}

pub overflow_cast-s : goal.overflow_cast-s
overflow_cast-s c =
    let can = c.requires.3 in
    let listed = move_listed can (move_start can (route_start can.routed)) in
    omega (arith, listed, (reaching_fits can.to_move.reaching can.sound.jobs_most).0)

pub loop-s-init : goal.loop-s-init
loop-s-init c =
    (refl, λ work first last found is-target can. (omega arith, rw is-target (move_start can (route_start can.routed))))

-- where the move is, of the workload that is known
at : (c : At-loop-s)
    → let a = c.args in
    (c.loop-s.step ≤ c.requires.3.routed.steps)
    × MoveAt (lent_windows c.requires.0 a.jobs c.requires.1 c.requires.2) a.shares.now
    (state_of a.found a.reached.now a.source.now) a.amount c.loop-s.shares c.loop-s.holders c.loop-s.gap c.loop-s.s
at c = c.loop-s.invariant.1 c.requires.0 c.requires.1 c.requires.2 c.args.found refl c.requires.3

-- the number of the reached job fits the arrays
below : (c : At-loop-s) → c.loop-s.s < max_jobs
below c =
    let can = c.requires.3 in
    omega (arith, move_listed can (at c).1, (reaching_fits can.to_move.reaching can.sound.jobs_most).0)

pub bounds-reached-s : goal.bounds-reached-s
bounds-reached-s c = below (goal.at.bounds-reached-s c).At-loop-s

pub overflow_cast-job : goal.overflow_cast-job
overflow_cast-job c =
    let can = c.requires.3 in
    omega (arith, (reaching_fits can.to_move.reaching can.sound.jobs_most).1 _ (move_listed can (at (goal.at.overflow_cast-job c).At-loop-s).1))

pub put-requires : goal.put-requires
put-requires c =
    let can = c.requires.3 in
    let now-at = (at (goal.at.put-requires c).At-loop-s).1 in
    let listed = move_listed can now-at in record {
      job_in_bounds = (move_place can now-at listed, omega (arith, move_fits can now-at listed));
      interval_lt_max_intervals = (
        omega (arith, move_gap can now-at, can.sound.intervals_most),
        (reaching_fits can.to_move.reaching can.sound.jobs_most).1 _ listed,
        now-at.holding.holders_length,
      );
    }

pub bounds-source-s : goal.bounds-source-s
bounds-source-s c = below (goal.at.bounds-source-s c).At-loop-s

pub overflow_cast-gap : goal.overflow_cast-gap
overflow_cast-gap c =
    let can = c.requires.3 in
    omega (arith, source_below can (at (goal.at.overflow_cast-gap c).At-loop-s).1 c.loop-s-test.true, can.sound.intervals_most)

pub take-requires : goal.take-requires
take-requires c =
    let can = c.requires.3 in
    let now-at = (at (goal.at.take-requires c).At-loop-s).1 in
    let more = c.loop-s-test.true in
    let put = c.put.ensures in record {
      job_in_bounds = (put_place can now-at more put.0 put.1, put_enough can now-at more put.0 put.1);
      interval_lt_max_intervals = (
        omega (arith, source_below can now-at more, can.sound.intervals_most),
        (reaching_fits can.to_move.reaching can.sound.jobs_most).1 _ (move_listed can now-at),
        put_length_holders can now-at more put.0 put.1,
      );
    }

-- the route goes on, to the first reached job that is open in the source
goes_on : (c : At-loop-s) → 0 < c.loop-s.s → (work : Workload) (first last : List ℕ) (found : Found) →
    let a = c.args in
    a.found.target ≡ found.target
    → (can : CanMove (lent_windows work a.jobs first last) a.shares.now a.holders.now a.route.now
    (state_of found a.reached.now a.source.now) a.amount)
    → (c.loop-s.step + 1 ≤ can.routed.steps)
    × (numbers_in a.route.now (c.loop-s.step + 1)
    ≡ first_open (problem_in (lent_windows work a.jobs first last)) found.count (numbers_in a.reached.now)
    (numbers_in a.source.now c.loop-s.s))
goes_on c more work first last found is-target can =
    let within = (c.loop-s.invariant.1 work first last found is-target can).0 in
    route_next can.routed within c.loop-s.invariant.0 more

goes-known : (c : At-loop-s) → 0 < c.loop-s.s
    → let a = c.args in
    (c.loop-s.step + 1 ≤ c.requires.3.routed.steps)
    × (numbers_in a.route.now (c.loop-s.step + 1)
    ≡ first_open (problem_in (lent_windows c.requires.0 a.jobs c.requires.1 c.requires.2)) a.found.count
    (numbers_in a.reached.now) (numbers_in a.source.now c.loop-s.s))
goes-known c more =
    goes_on c more c.requires.0 c.requires.1 c.requires.2 c.args.found refl c.requires.3

-- the next number stands on the route
next_fits : (c : At-loop-s) → 0 < c.loop-s.s → c.loop-s.step + 1 < max_jobs
next_fits c more = omega (arith, (goes-known c more).0, c.requires.3.routed.few)

-- and is smaller
falls : (c : At-loop-s) → 0 < c.loop-s.s
    → numbers_in c.args.route.now (c.loop-s.step + 1) < c.loop-s.s
falls c more =
    let can = c.requires.3 in
    path_falls can.to_move.reaching more (move_listed can (at c).1) (goes-known c more).1

pub overflow_add-step : goal.overflow_add-step
overflow_add-step c = omega (arith, next_fits (goal.at.overflow_add-step c).At-loop-s c.loop-s-test.true)

pub bounds-route-step : goal.bounds-route-step
bounds-route-step c = next_fits (goal.at.bounds-route-step c).At-loop-s c.loop-s-test.true

pub overflow_cast-s-in-loop-s : goal.overflow_cast-s-in-loop-s
overflow_cast-s-in-loop-s c =
    omega (arith, falls (goal.at.overflow_cast-s-in-loop-s c).At-loop-s c.loop-s-test.true, below (goal.at.overflow_cast-s-in-loop-s c).At-loop-s)

pub loop-s-smaller : goal.loop-s-smaller
loop-s-smaller c = falls (goal.at.loop-s-smaller c).At-loop-s c.loop-s-test.true

pub loop-s-preserved : goal.loop-s-preserved
loop-s-preserved c =
    let put = c.put.ensures in
    let take = c.take.ensures in (
      refl,
      λ work first last found is-target can.
          let on = goes_on (goal.at.loop-s-preserved c).At-loop-s c.loop-s-test.true work first last found is-target can in
          let now-at = (c.loop-s.invariant.1 work first last found is-target can).1 in
          (on.0, move_next can now-at c.loop-s-test.true put.0 put.1 take.0 take.1 on.1),
    )

pub overflow_cast-reached : goal.overflow_cast-reached
overflow_cast-reached c =
    let can = c.requires.3 in
    omega (arith, (reaching_fits can.to_move.reaching can.sound.jobs_most).1 _ can.to_move.reaching.now.some)

pub put-requires-2 : goal.put-requires-2
put-requires-2 c =
    let can = c.requires.3 in
    let now-at = (at (goal.at.put-requires-2 c).At-loop-s).1 in
    let some = can.to_move.reaching.now.some in record {
      job_in_bounds = (move_place can now-at some, omega (arith, move_fits can now-at some));
      interval_lt_max_intervals = (
        omega (arith, move_gap can now-at, can.sound.intervals_most),
        (reaching_fits can.to_move.reaching can.sound.jobs_most).1 _ some,
        now-at.holding.holders_length,
      );
    }

-- after the last step
ended : (c : After-slice_known-2-1)
    → let a = c.args in
    RouteMoved a.jobs a.shares.now a.holders.now a.route.now c.put-2.new.shares
    c.put-2.new.holders (state_of a.found a.reached.now a.source.now) a.amount
ended c = λ work first last can.
    let put = c.put-2.ensures in
    let a = c.args in
    move_end can (c.loop-s.invariant.1 work first last a.found refl can).1 c.loop-s-test.false put.0 put.1

pub shape_of-shares : goal.shape_of-shares
shape_of-shares c =
    (ended (goal.at.shape_of-shares c).After-slice_known-2-1 c.requires.0 c.requires.1 c.requires.2 c.requires.3).kept.same_length

pub returns : goal.returns
returns c = ended (goal.at.returns c).After-slice_known-2-1
