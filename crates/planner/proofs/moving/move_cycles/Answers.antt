use Prim.Native.Nat.{ℕ, ◌*◌, ◌<◌}
use native.Mathlib.Omega.{arith}
use lib.ListN.{length-replicate}
use Rattle.model.specs.Limits.{max_jobs, max_intervals}
use Rattle.model.specs.Plans.{shares_in}
use Rattle.workloads.specs.Workloads.{Workload}
use Rattle.workloads.specs.Arrays.{problem_in, lent_windows, KeptPast}
use Rattle.workloads.proofs.SharesTable.{kept_refl, kept_trans}
use Rattle.searching.specs.Reaching.{state_of, Searched}
use Rattle.paths.specs.FilledTargets.{PlacingTables, CanFill}
use Rattle.planner.proofs.PlaceSteps.{place_search, place_fill, place_filled, search_closed}
use Rattle.planner.proofs.moving.move_cycles.Goals as goal
use Rattle.planner.proofs.moving.move_cycles.Goals.{After-search-found, At-loop-left}

pub loop-left-init : goal.loop-left-init
loop-left-init c = (
  length-replicate {A = ℕ} max_jobs 0,
  length-replicate {A = ℕ} max_jobs 0,
  λ work band prices lefts tables. (kept_refl _ _, tables),
)

-- where the loop is, of the workload that is known
own : (c : At-loop-left)
    → let a = c.args in
    KeptPast (c.requires.0.intervals * a.turn.jobs) a.shares.now c.loop-left.shares
    × PlacingTables (lent_windows c.requires.0 a.turn.jobs a.first.now a.last.now) c.loop-left.shares c.loop-left.room c.loop-left.holders
    c.requires.2 c.requires.3 a.turn.job c.loop-left.left c.requires.1
own c = let known = c.requires in c.loop-left.invariant.2 known.0 known.1 known.2 known.3 known.4

pub search-found-requires : goal.search-found-requires
search-found-requires c =
    let a = c.args in
    record {
      can_search = record {
        problem = problem_in (lent_windows c.requires.0 a.turn.jobs a.first.now a.last.now);
        shares = shares_in a.turn.jobs c.loop-left.shares;
        band = c.requires.1;
        to_search = place_search (own (goal.at.search-found-requires c).At-loop-left).1;
      };
      reached_len = (c.loop-left.invariant.0, c.loop-left.invariant.1);
    }

-- what the search has found
searched : (c : After-search-found)
    → let a = c.args in
    (work : Workload) (band : ℕ) (prices lefts : ℕ → ℕ)
    → PlacingTables (lent_windows work a.turn.jobs a.first.now a.last.now) a.shares.now a.room.now a.holders.now prices lefts a.turn.job a.turn.left band
    → Searched (problem_in (lent_windows work a.turn.jobs a.first.now a.last.now)) (shares_in a.turn.jobs c.loop-left.shares) a.turn.job band
    (state_of c.search-found.result c.search-found.new.reached c.search-found.new.source)
searched c work band prices lefts tables =
    let a = c.args in
    c.search-found.ensures.2 (problem_in (lent_windows work a.turn.jobs a.first.now a.last.now)) (shares_in a.turn.jobs c.loop-left.shares) band
    (place_search (c.loop-left.invariant.2 work band prices lefts tables).1)

pub shape_of-shares-then-found-ge-MAX_INTERVALS : goal.shape_of-shares-then-found-ge-MAX_INTERVALS
shape_of-shares-then-found-ge-MAX_INTERVALS c = (own (goal.at.shape_of-shares-then-found-ge-MAX_INTERVALS c).At-loop-left).0.same_length

pub returns-then-found-ge-MAX_INTERVALS : goal.returns-then-found-ge-MAX_INTERVALS
returns-then-found-ge-MAX_INTERVALS c = λ work band prices lefts tables.
    let at = c.loop-left.invariant.2 work band prices lefts tables in
    record {
      kept = at.0;
      tables = at.1;
      closed = λ some. search_closed at.1 (searched (goal.at.returns-then-found-ge-MAX_INTERVALS c).After-search-found work band prices lefts tables) c.if-found-ge-MAX_INTERVALS.true;
    }

-- a target is found
can_fill : (c : After-search-found) → 0 < c.loop-left.left → c.search-found.result.target < max_intervals
    → let a = c.args in
    (work : Workload) (band : ℕ) (prices lefts : ℕ → ℕ)
    → PlacingTables (lent_windows work a.turn.jobs a.first.now a.last.now) a.shares.now a.room.now a.holders.now prices lefts a.turn.job a.turn.left band
    → CanFill (lent_windows work a.turn.jobs a.first.now a.last.now) c.loop-left.shares c.loop-left.room c.loop-left.holders
    (state_of c.search-found.result c.search-found.new.reached c.search-found.new.source) band c.loop-left.left
can_fill c more target work band prices lefts tables =
    place_fill (c.loop-left.invariant.2 work band prices lefts tables).1 (searched c work band prices lefts tables) more target

pub fill-left-requires : goal.fill-left-requires
fill-left-requires c =
    let known = c.requires in
    let found = (goal.at.fill-left-requires c).After-search-found in
    (known.0, known.1, can_fill found c.loop-left-test.true c.if-found-ge-MAX_INTERVALS.false known.0 known.1 known.2 known.3 known.4)

pub overflow_sub-left : goal.overflow_sub-left
overflow_sub-left c =
    let known = c.requires in
    let found = (goal.at.overflow_sub-left c).After-search-found in
    let can = can_fill found c.loop-left-test.true c.if-found-ge-MAX_INTERVALS.false known.0 known.1 known.2 known.3 known.4 in
    (c.fill-left.ensures known.0 known.1 can).most

pub loop-left-smaller : goal.loop-left-smaller
loop-left-smaller c =
    let known = c.requires in
    let found = (goal.at.loop-left-smaller c).After-search-found in
    let can = can_fill found c.loop-left-test.true c.if-found-ge-MAX_INTERVALS.false known.0 known.1 known.2 known.3 known.4 in
    let done = c.fill-left.ensures known.0 known.1 can in
    omega (arith, done.some, done.most)

pub loop-left-preserved : goal.loop-left-preserved
loop-left-preserved c =
    let found = (goal.at.loop-left-preserved c).After-search-found in (
      c.search-found.ensures.0,
      c.search-found.ensures.1,
      λ work band prices lefts tables.
          let (kept, at) = c.loop-left.invariant.2 work band prices lefts tables in
          let can = can_fill found c.loop-left-test.true c.if-found-ge-MAX_INTERVALS.false work band prices lefts tables in
          let done = c.fill-left.ensures work band can in
          (kept_trans kept done.kept, place_filled at (searched found work band prices lefts tables) done),
    )

pub shape_of-shares : goal.shape_of-shares
shape_of-shares c = (own (goal.at.shape_of-shares c).At-loop-left).0.same_length

pub returns : goal.returns
returns c = λ work band prices lefts tables.
    let (kept, at) = c.loop-left.invariant.2 work band prices lefts tables in
    record { kept = kept; tables = at; closed = λ some. absurd (omega (arith, c.loop-left-test.false)) }
