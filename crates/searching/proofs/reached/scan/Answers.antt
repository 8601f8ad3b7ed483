use mathlib.Core.Path.{◌≡◌, sym, subst, ◌∙◌}
use mathlib.Core.Bool.{true, false}
use Prim.Native.Nat.{◌<◌, ◌≤◌}
use native.Mathlib.Omega.{arith}
use borrow.Author.Tests.{not-true, not-false}
use Rattle.model.specs.Limits.{max_jobs, max_intervals}
use Rattle.job_sets.specs.JobSets.{is_member, is_empty, without_job}
use Rattle.job_sets.proofs.JobSets.{count_without, least_has}
use Rattle.workloads.specs.Arrays.{numbers_in}
use Rattle.searching.specs.Reaching.{SearchState, state_of, with_windows, ScanOf}
use Rattle.searching.proofs.ScanSteps.{scan_small, scan_start, scan_end, scan_window, scan_room, scan_reach}
use Rattle.searching.proofs.reached.scan.Goals as goal
use Rattle.searching.proofs.reached.scan.Goals.{After-way_told-1, At-loop-new, In-loop-new}

pub loop-new-init : goal.loop-new-init
loop-new-init c = λ p shares job set is-new to_scan. rw is-new (scan_start to_scan)

-- what is scanned, of the problem that is known
at : (c : At-loop-new)
    → let a = c.args in
    let can = c.requires in
    ScanOf (with_windows can.problem can.problem.jobs a.first.now a.last.now) can.shares can.job
    (state_of a.before a.reached.now a.source.now) a.interval c.loop-new.new (state_of c.loop-new.found c.loop-new.reached c.loop-new.source)
at c =
    let can = c.requires in
    c.loop-new.invariant can.problem can.shares can.job c.args.set c.both-new.ensures can.to_scan

-- some job is new, and the least is one
some : (c : In-loop-new) → is_empty c.loop-new.new ≡ false
some c = sym c.is_empty.ensures ∙ not-true _ c.loop-new-test.true-raw

is-new : (c : After-way_told-1) → is_member c.loop-new.new c.least-job.result ≡ true
is-new c = rw c.least-job.ensures (least_has c.loop-new.new (some c.before.before.before)).1

small : (c : After-way_told-1) → c.least-job.result < max_jobs
small c = rw c.least-job.ensures (least_has c.loop-new.new (some c.before.before.before)).0

-- its window is among the intervals
window : (c : After-way_told-1)
    → let a = c.args in
    (numbers_in a.first.now c.least-job.result < max_intervals) × (numbers_in a.last.now c.least-job.result ≤ max_intervals)
window c =
    scan_window c.requires.to_scan (at c.before.before.before.before.before) _ (is-new c)

pub bounds-first-job : goal.bounds-first-job
bounds-first-job c = small (goal.at.bounds-first-job c).After-way_told-1

pub overflow_cast-first : goal.overflow_cast-first
overflow_cast-first c = omega (arith, (window (goal.at.overflow_cast-first c).After-way_told-1).0)

pub bounds-last-job : goal.bounds-last-job
bounds-last-job c = small (goal.at.bounds-last-job c).After-way_told-1

pub overflow_cast-last : goal.overflow_cast-last
overflow_cast-last c = omega (arith, (window (goal.at.overflow_cast-last c).After-way_told-1).1)

pub reach-found-requires : goal.reach-found-requires
reach-found-requires c =
    let scan = at (goal.at.reach-found-requires c).At-loop-new in
    let to_scan = c.requires.to_scan in record { count_lt_max_jobs = (scan_room to_scan scan _ (is-new (goal.at.reach-found-requires c).After-way_told-1), small (goal.at.reach-found-requires c).After-way_told-1, scan_small to_scan); reached_len = (scan.reaching.reached_length, scan.reaching.source_length) }

pub without-new-requires : goal.without-new-requires
without-new-requires c = small (goal.at.without-new-requires c).After-way_told-1

pub loop-new-smaller : goal.loop-new-smaller
loop-new-smaller c =
    rw c.without-new.ensures (omega (arith, count_without c.loop-new.new _ (is-new (goal.at.loop-new-smaller c).After-way_told-1)))

pub loop-new-preserved : goal.loop-new-preserved
loop-new-preserved c = λ p shares job set is_first to_scan.
    let a = c.args in
    rw c.without-new.ensures
    (subst
    (λ (state : SearchState). ScanOf (with_windows p p.jobs a.first.now a.last.now) shares job
    (state_of a.before a.reached.now a.source.now) a.interval (without_job c.loop-new.new c.least-job.result) state)
    (sym c.reach-found.ensures) (scan_reach to_scan (c.loop-new.invariant p shares job set is_first to_scan) _ (is-new (goal.at.loop-new-preserved c).After-way_told-1)))

pub returns : goal.returns
returns c = λ p shares job to_scan.
    scan_end to_scan (c.loop-new.invariant p shares job c.args.set c.both-new.ensures to_scan)
    (sym c.is_empty.ensures ∙ not-false _ c.loop-new-test.false-raw)
