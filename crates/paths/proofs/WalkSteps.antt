-- Laws of walking a path in plain arrays, to find out how many cycles can go along it.
-- Assumes nothing.
use mathlib.Core.Path.{◌≡◌, sym, ◌∙◌}
use mathlib.Core.List.{List}
use Prim.Native.Nat.{ℕ, ◌+◌, ◌*◌, ◌<◌, ◌≤◌, min}
use native.Mathlib.Omega.{arith}
use lib.ListN.{length, set}
use Rattle.model.specs.Limits.{max_jobs}
use Rattle.model.specs.Plans.{Shares, shares_in}
use Rattle.workloads.specs.Workloads.{Workload}
use Rattle.workloads.specs.Placement.{Problem}
use Rattle.workloads.specs.Arrays.{numbers_in, problem_in}
use Rattle.workloads.proofs.SharesTable.{place_in}
use Rattle.searching.specs.Reaching.{SearchState, Reaching}
use Rattle.searching.proofs.ReachedRange.{reached_few}
use Rattle.paths.specs.Paths.{first_open, SomeOpen, Walking}
use Rattle.paths.specs.Moves.{PathPasses, HoldsPath, CanWalk}
use Rattle.paths.proofs.PathLimit.{first-open, walking_start, walking_step, walking_end}
use Rattle.paths.proofs.Routes.{Routing, routing_start, routing_next, routing_end}

-- the list of reached jobs fits its array, and the jobs' numbers fit the arrays of jobs
pub reaching_fits : {p : Problem} {shares : Shares} {job : ℕ} {found : SearchState} → Reaching p shares job found → p.jobs ≤ max_jobs
    → (found.count ≤ max_jobs) × ((s : ℕ) → s < found.count → numbers_in found.reached s < max_jobs)
reaching_fits reaching most =
    (omega (arith, reached_few reaching.now), λ s below. omega (arith, reaching.now.job_below s below))

-- the numbers of the jobs on a path fall
pub path_falls : {p : Problem} {shares : Shares} {job : ℕ} {found : SearchState} → Reaching p shares job found → {s next : ℕ} → 0 < s → s < found.count
    → next ≡ first_open p found.count (numbers_in found.reached) (numbers_in found.source s) → next < s
path_falls {p} {found = found} reaching {s} more below is_first =
    let within : s ≤ found.count = omega arith in
    rw is_first (first-open p found.count (numbers_in found.reached) _ within (reaching.now.source_reached s more below)).0

-- The path was walked up to an interval in which reached job s is the first that is open, and the route holds it so far.
pub record WalkAt (work : Workload) (table : List ℕ) (found : SearchState) (most limit : ℕ) (route : List ℕ) (steps s : ℕ) : Type 0 where
  pub limit_most : limit ≤ most
  pub gap : ℕ
  pub bound : ℕ
  pub is_first : s ≡ first_open (problem_in work) found.count (numbers_in found.reached) gap
  pub walking : Walking (problem_in work) (shares_in work.jobs table) found.count (numbers_in found.reached) (numbers_in found.source)
      found.target limit gap bound
  pub routing : Routing (problem_in work) found.count (numbers_in found.reached) (numbers_in found.source) found.target
      route steps s

-- some reached job is open in the target
pub target_open : {work : Workload} {table : List ℕ} {found : SearchState} → CanWalk work table found
    → SomeOpen (problem_in work) found.count (numbers_in found.reached) found.target
target_open {found = found} can = can.reaching.now.covered found.target can.from can.to

module _ {work : Workload} {table : List ℕ} {found : SearchState} (can : CanWalk work table found) {most : ℕ} where
  -- at the target
  pub walk_start : 1 ≤ most → {s : ℕ} → s ≡ first_open (problem_in work) found.count (numbers_in found.reached) found.target
      → (route : List ℕ) → length route ≡ max_jobs → WalkAt work table found most most (set route 0 s) 0 s
  walk_start some {s} is_first route room =
      let first = first-open (problem_in work) found.count (numbers_in found.reached) found.target (omega arith) (target_open can) in
      record {
        limit_most = omega arith;
        gap = found.target;
        bound = found.count;
        is_first = is_first;
        walking = walking_start can.reaching.now some can.from can.to;
        routing = routing_start route (omega arith) (omega (arith, first.0)) is_first;
      }

  module _ {limit : ℕ} {route : List ℕ} {steps s : ℕ} (walk : WalkAt work table found most limit route steps s) where
    pub walk_listed : s < found.count
    walk_listed = omega (arith, walk.routing.few)

    -- the next number fits the route
    pub walk_room : 0 < s → steps + 1 < max_jobs
    walk_room more = omega (arith, walk.routing.few, (reaching_fits can.reaching can.jobs_most).0)

    -- some reached job is open in the source
    pub source_open : 0 < s → SomeOpen (problem_in work) found.count (numbers_in found.reached) (numbers_in found.source s)
    source_open more =
        let (r, less, is_open_true) = can.reaching.now.source_reached s more walk_listed in
        (r, omega (arith, walk_listed), is_open_true)

    -- the share that moves stands in the table
    pub walk_place : 0 < s → numbers_in found.source s * work.jobs + numbers_in found.reached s < length table
    walk_place more =
        place_in table can.table-length (can.reaching.now.source_below s more walk_listed) (can.reaching.now.job_below s walk_listed)

    -- one step
    pub walk_next : 0 < s → {share next : ℕ} → share ≡ shares_in work.jobs table (numbers_in found.source s) (numbers_in found.reached s)
        → next ≡ first_open (problem_in work) found.count (numbers_in found.reached) (numbers_in found.source s)
        → length route ≡ max_jobs → WalkAt work table found most (min limit share) (set route (steps + 1) next) (steps + 1) next
    walk_next more {next = next} is_share is_first room =
        record {
          limit_most = omega (arith, walk.limit_most);
          gap = numbers_in found.source s;
          bound = s;
          is_first = is_first;
          walking = rw is_share (walking_step can.reaching.now walk.walking (sym walk.is_first) more);
          routing =
              routing_next walk.routing (path_falls can.reaching more walk_listed is_first) is_first (omega (arith, walk_room more));
        }

    -- at the job being placed
    pub walk_end : s ≤ 0 → (1 ≤ limit) × (limit ≤ most) × PathPasses work table found limit × HoldsPath work found route
    walk_end last =
        let e : s ≡ 0 = omega arith in (
          walk.walking.some,
          walk.limit_most,
          walking_end can.reaching.now walk.walking (sym walk.is_first ∙ e) (omega arith),
          routing_end walk.routing last (reaching_fits can.reaching can.jobs_most).0,
        )
