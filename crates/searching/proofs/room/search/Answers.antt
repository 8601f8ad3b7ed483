use mathlib.Core.Path.{sym, subst}
use Prim.Native.Nat.{ℕ, ◌-◌, ◌<◌, ◌≤◌}
use native.Mathlib.Omega.{arith}
use lib.ListN.{get_or, set}
use Rattle.model.specs.Limits.{max_intervals, max_jobs}
use Rattle.model.specs.Plans.{Shares}
use Rattle.workloads.specs.Placement.{Problem}
use Rattle.workloads.specs.Arrays.{numbers_in}
use Rattle.workloads.proofs.JobWindows.{window_small}
use Rattle.searching.specs.Reaching.{SearchState, state_of, with_windows, ToSearch, Scanning, ScannedUp}
use Rattle.searching.proofs.SearchSteps.{room_some, room_none, scanning_start, searched_closed, searched_target, next_inside, next_to_scan, scanning_next}
use Rattle.searching.proofs.room.search.Goals as goal
use Rattle.searching.proofs.room.search.Goals.{After-only-found, After-scan_up-found, Start}

-- the job's number fits the arrays
job_small : (c : Start) → c.args.job < max_jobs
job_small c = let can = c.requires.can_search.to_search in omega (arith, can.job_below, can.jobs_most)

pub overflow_cast-reached : goal.overflow_cast-reached
overflow_cast-reached c = omega (arith, job_small (goal.at.overflow_cast-reached c).Start)

pub bounds-reached-0 : goal.bounds-reached-0
bounds-reached-0 c = omega (arith, c.requires.reached_len)

pub bounds-first-job : goal.bounds-first-job
bounds-first-job c = job_small (goal.at.bounds-first-job c).Start

-- its window is among the intervals
window : (c : Start)
    → let a = c.args in
    (numbers_in a.first.now a.job < max_intervals) × (numbers_in a.last.now a.job ≤ max_intervals)
window c = let can = c.requires.can_search.to_search in window_small can.sound can.intervals_most can.job_below

pub overflow_cast-low : goal.overflow_cast-low
overflow_cast-low c = omega (arith, (window (goal.at.overflow_cast-low c).Start).0)

pub bounds-last-job : goal.bounds-last-job
bounds-last-job c = job_small (goal.at.bounds-last-job c).Start

pub overflow_cast-last : goal.overflow_cast-last
overflow_cast-last c = omega (arith, (window (goal.at.overflow_cast-last c).Start).1)

pub only-found-requires : goal.only-found-requires
only-found-requires c = job_small (goal.at.only-found-requires c).Start

-- where the search starts
started : (c : After-only-found)
    → let a = c.args in
    (p : Problem) (shares : Shares) (band : ℕ)
    → ToSearch (with_windows p p.jobs a.first.now a.last.now) shares a.room.now a.holders.now a.job band
    → Scanning (with_windows p p.jobs a.first.now a.last.now) shares a.job band
    (state_of c.only-found.result (set a.reached.now 0 a.job) a.source.now) (get_or a.first.now a.job 0) (get_or a.first.now a.job 0)
started c = λ p shares band to_search.
    let a = c.args in
    subst (λ (state : SearchState). Scanning (with_windows p p.jobs a.first.now a.last.now) shares a.job band state
    (get_or a.first.now a.job 0) (get_or a.first.now a.job 0))
    (sym (c.only-found.ensures (set a.reached.now 0 a.job) a.source.now))
    (scanning_start to_search.sound to_search.jobs_most to_search.job_below a.reached.now a.source.now c.requires.reached_len.0 c.requires.reached_len.1)

pub loop-found-init : goal.loop-found-init
loop-found-init c = started (goal.at.loop-found-init c).After-only-found

pub scan_up-found-requires : goal.scan_up-found-requires
scan_up-found-requires c =
    let can = c.requires.can_search in
    record {
      problem = can.problem;
      shares = can.shares;
      job = c.args.job;
      band = can.band;
      low = c.loop-found.low;
      to_search = can.to_search;
      scanning = c.loop-found.invariant can.problem can.shares can.band can.to_search;
    }

-- what is found upwards
abbrev above : (c : After-scan_up-found) → SearchState
above c = state_of c.scan_up-found.result c.scan_up-found.new.reached c.scan_up-found.new.source

scanned-up : (c : After-scan_up-found)
    → let a = c.args in
    (p : Problem) (shares : Shares) (band : ℕ)
    → ToSearch (with_windows p p.jobs a.first.now a.last.now) shares a.room.now a.holders.now a.job band
    → ScannedUp (with_windows p p.jobs a.first.now a.last.now) shares a.job band c.loop-found.low (above c)
scanned-up c = λ p shares band can.
    c.scan_up-found.ensures p shares c.args.job band c.loop-found.low can (c.loop-found.invariant p shares band can)

-- of the problem that is known
up-known : (c : After-scan_up-found)
    → let a = c.args in
    let can = c.requires.can_search in
    ScannedUp (with_windows can.problem can.problem.jobs a.first.now a.last.now) can.shares a.job can.band
    c.loop-found.low (above c)
up-known c = let can = c.requires.can_search in scanned-up c can.problem can.shares can.band can.to_search

pub returns-then-found-lt-MAX_INTERVALS : goal.returns-then-found-lt-MAX_INTERVALS
returns-then-found-lt-MAX_INTERVALS c =
    let reaching = ((up-known (goal.at.returns-then-found-lt-MAX_INTERVALS c).After-scan_up-found).target c.if-found-lt-MAX_INTERVALS.true).reaching in
    (reaching.reached_length, reaching.source_length, λ p shares band can. (scanned-up (goal.at.returns-then-found-lt-MAX_INTERVALS c).After-scan_up-found p shares band can).target c.if-found-lt-MAX_INTERVALS.true)

pub returns-then-low-found : goal.returns-then-low-found
returns-then-low-found c =
    let none = c.if-found-lt-MAX_INTERVALS.false in
    let reaching = ((up-known (goal.at.returns-then-low-found c).After-scan_up-found).none none).reaching in (
      reaching.reached_length,
      reaching.source_length,
      λ p shares band can.
          searched_closed can.sound can.jobs_most ((scanned-up (goal.at.returns-then-low-found c).After-scan_up-found p shares band can).none none) c.if-low-found.true (omega arith),
    )

-- the interval below is reached
module _
    (c : After-scan_up-found)
    (none : max_intervals ≤ c.scan_up-found.result.target) (lower : c.scan_up-found.result.start < c.loop-found.low)
  where
    abbrev next : ℕ
    next = c.loop-found.low - 1

    next-from : (above c).start ≤ next
    next-from = omega (arith, lower)

    next-to : next < (above c).end
    next-to = omega (arith, lower, ((up-known c).none none).order)

    exists : next < max_intervals
    exists =
        let can = c.requires.can_search in
        omega (arith, next-to, ((up-known c).none none).reaching.now.end_below, can.to_search.intervals_most)

pub overflow_sub-low : goal.overflow_sub-low
overflow_sub-low c = omega (arith, c.if-low-found.false)

pub offset_bounds-room-low : goal.offset_bounds-room-low
offset_bounds-room-low c =
    let up = (goal.at.offset_bounds-room-low c).After-scan_up-found in omega (arith, exists up c.if-found-lt-MAX_INTERVALS.false c.if-low-found.false)

pub bounds-room-low : goal.bounds-room-low
bounds-room-low c = let up = (goal.at.bounds-room-low c).After-scan_up-found in exists up c.if-found-lt-MAX_INTERVALS.false c.if-low-found.false

pub returns-then-room-low-gt0 : goal.returns-then-room-low-gt0
returns-then-room-low-gt0 c =
    let up = (goal.at.returns-then-room-low-gt0 c).After-scan_up-found in
    let none = c.if-found-lt-MAX_INTERVALS.false in
    let lower = c.if-low-found.false in
    let reaching = ((up-known up).none none).reaching in (
      reaching.reached_length,
      reaching.source_length,
      λ p shares band can.
          let scanning = (scanned-up up p shares band can).none none in
          let inside = next_inside can.sound can.jobs_most scanning (next-from up none lower) (next-to up none lower) in
          searched_target can.sound can.jobs_most scanning (next-from up none lower) (next-to up none lower)
          (room_some can.room_at inside c.if-room-low-gt0.true) (exists up none lower),
    )

pub set_at-set-requires : goal.set_at-set-requires
set_at-set-requires c =
    let up = (goal.at.set_at-set-requires c).After-scan_up-found in exists up c.if-found-lt-MAX_INTERVALS.false c.if-low-found.false

pub scan-found-requires : goal.scan-found-requires
scan-found-requires c =
    let up = (goal.at.scan-found-requires c).After-scan_up-found in
    let none = c.if-found-lt-MAX_INTERVALS.false in
    let lower = c.if-low-found.false in
    let can = c.requires.can_search in
    let to_search = can.to_search in
    record {
      problem = with_windows can.problem can.problem.jobs c.args.first.now c.args.last.now;
      shares = can.shares;
      job = c.args.job;
      to_scan =
          rw c.set_at-set.ensures
          (next_to_scan to_search.sound to_search.jobs_most ((up-known up).none none)
          (next-from up none lower) (next-to up none lower) to_search.intervals_most to_search.shut to_search.holding);
    }

pub loop-found-smaller : goal.loop-found-smaller
loop-found-smaller c = omega (arith, c.if-low-found.false)

pub loop-found-preserved : goal.loop-found-preserved
loop-found-preserved c =
    let up = (goal.at.loop-found-preserved c).After-scan_up-found in
    let none = c.if-found-lt-MAX_INTERVALS.false in
    let lower = c.if-low-found.false in
    λ p shares band can.
    let a = c.args in
    let scanning = (scanned-up up p shares band can).none none in
    let inside = next_inside can.sound can.jobs_most scanning (next-from up none lower) (next-to up none lower) in
    let to_scan =
    next_to_scan can.sound can.jobs_most scanning (next-from up none lower) (next-to up none lower)
    can.intervals_most can.shut can.holding in
    scanning_next can.sound can.jobs_most scanning (next-from up none lower) (next-to up none lower)
    (room_none can.room_at inside c.if-room-low-gt0.false)
    (c.scan-found.ensures (with_windows p p.jobs a.first.now a.last.now) shares a.job
    (rw c.set_at-set.ensures to_scan))
    (omega arith) (omega (arith, next-to up none lower)) (omega arith) (omega (arith, lower, next-to up none lower))
