use mathlib.Core.Path.{◌≡◌, sym, ◌∙◌}
use mathlib.Core.Bool.{false}
use Prim.Native.Nat.{suc, ◌+◌, ◌≤◌}
use native.Mathlib.Omega.{arith}
use native.Mathlib.Numerals.{add-one}
use lib.ListN.{get_or}
use Rattle.model.specs.Limits.{max_intervals, max_deadline}
use Rattle.model.specs.Intervals.{bound_at}
use Rattle.job_sets.specs.JobSets.{is_empty}
use Rattle.windows.proofs.EndSteps.{moving_start, moving_done, moving_on, moving_fits, moving_hit, sum_there_small, window_times}
use Rattle.windows.proofs.SumSteps.{ended_with}
use Rattle.windows.proofs.Capacity.{capacity_small}
use Rattle.windows.proofs.overfull.overfull_end.Goals as goal
use Rattle.windows.proofs.overfull.overfull_end.Goals.{After-both-ended, Start, then-not-is_empty+else-times-last, else-not-is_empty}

-- the intervals are few
few : (c : Start) → c.args.intervals ≤ max_intervals
few c = let (jobs, bounds, arrays, released) = c.requires.by_index in omega (arith, arrays.counted, arrays.few)

-- the jobs that end there
ended-are : (c : After-both-ended)
    → let a = c.args in
    c.both-ended.result ≡ ended_with a.sets.now a.intervals a.from c.loop-last.last
ended-are c = rw (← c.leaving.ensures) c.both-ended.ensures

-- some job ends there
some : (c : After-both-ended)
    → let a = c.args in
    is_empty c.both-ended.result ≡ false → is_empty (ended_with a.sets.now a.intervals a.from c.loop-last.last) ≡ false
some c found = rw (← ended-are c) found

pub loop-last-init : goal.loop-last-init
loop-last-init c = (omega arith, omega (arith, c.requires.top_le_max_frequency.1), λ jobs bounds arrays released. moving_start arrays _ _)

pub leaving-requires : goal.leaving-requires
leaving-requires c = (c.loop-last-test.true, few (goal.at.leaving-requires c).Start)

pub add_jobs-sum-requires : goal.add_jobs-sum-requires
add_jobs-sum-requires c =
    let (jobs, bounds, arrays, released) = c.requires.by_index in
    rw (ended-are (goal.at.add_jobs-sum-requires c).After-both-ended)
    (sum_there_small arrays _ _ _ _ released c.loop-last-test.true _ _ (c.loop-last.invariant.2 jobs bounds arrays released))

pub overflow_add-last : goal.overflow_add-last
overflow_add-last c = omega (arith, c.loop-last-test.true, few (goal.at.overflow_add-last c).Start)

pub offset_bounds-times-last : goal.offset_bounds-times-last
offset_bounds-times-last c = omega (arith, c.loop-last-test.true, few (goal.at.offset_bounds-times-last c).Start)

pub bounds-times-last : goal.bounds-times-last
bounds-times-last c = omega (arith, c.loop-last-test.true, few (goal.at.bounds-times-last c).Start)

pub offset_bounds-times-start : goal.offset_bounds-times-start
offset_bounds-times-start c = omega (arith, c.requires.top_le_max_frequency.1, few (goal.at.offset_bounds-times-start c).Start)

pub bounds-times-start : goal.bounds-times-start
bounds-times-start c = omega (arith, c.requires.top_le_max_frequency.1, few (goal.at.bounds-times-start c).Start)

-- the times of the window
window : (c : After-both-ended)
    → is_empty c.both-ended.result ≡ false
    → let (jobs, bounds, arrays, released) = c.requires.by_index in
    (get_or c.args.times.now (c.loop-last.last + 1) 0 ≡ bound_at bounds (suc c.loop-last.last))
    × (get_or c.args.times.now c.args.start 0 ≡ bound_at bounds c.args.start)
    × (bound_at bounds c.args.start ≤ bound_at bounds (suc c.loop-last.last))
    × (bound_at bounds (suc c.loop-last.last) ≤ max_deadline)
window c found =
    let (jobs, bounds, arrays, released) = c.requires.by_index in
    window_times arrays _ _ _ _ released c.loop-last-test.true _ _ (c.loop-last.invariant.2 jobs bounds arrays released)
    c.loop-last.invariant.0 (some c found)

pub overflow_sub-times : goal.overflow_sub-times
overflow_sub-times c = omega (arith, window (goal.at.overflow_sub-times c).After-both-ended (sym c.is_empty.ensures ∙ c.if-not-is_empty.true))

pub overflow_mul-times : goal.overflow_mul-times
overflow_mul-times c =
    let times = c.args.times.now in
    omega (
      arith,
      capacity_small (get_or times c.args.start 0) (get_or times (c.loop-last.last + 1) 0) c.args.top
          (omega (arith, window (goal.at.overflow_mul-times c).After-both-ended (sym c.is_empty.ensures ∙ c.if-not-is_empty.true))) c.requires.top_le_max_frequency.0,
    )

pub overflow_add-result : goal.overflow_add-result
overflow_add-result c = omega (arith, c.loop-last-test.true, few (goal.at.overflow_add-result c).Start)

pub returns-then-times-last : goal.returns-then-times-last
returns-then-times-last c = λ jobs bounds arrays released.
    let here = ended-are (goal.at.returns-then-times-last c).After-both-ended in
    let ensured = c.add_jobs-sum.ensures in
    let moving = c.loop-last.invariant.2 jobs bounds arrays released in
    let known =
    window_times arrays _ _ _ _ released c.loop-last-test.true _ _ moving c.loop-last.invariant.0 (some (goal.at.returns-then-times-last c).After-both-ended (sym c.is_empty.ensures ∙ c.if-not-is_empty.true)) in
    moving_hit arrays _ _ _ _ released c.loop-last-test.true _ _ moving _ _
    (rw (← here) ensured.0) (rw (← here) ensured.1) c.loop-last.invariant.0 (some (goal.at.returns-then-times-last c).After-both-ended (sym c.is_empty.ensures ∙ c.if-not-is_empty.true))
    (rw (known.0, known.1) at c.if-times-last.true)

pub loop-last-smaller : goal.loop-last-smaller
loop-last-smaller c = omega (arith, c.loop-last-test.true)

pub loop-last-preserved : goal.loop-last-preserved
loop-last-preserved c = (
  omega (arith, c.loop-last.invariant.0),
  omega (arith, c.loop-last-test.true),
  λ jobs bounds arrays released.
      let moving = c.loop-last.invariant.2 jobs bounds arrays released in
      let begun = c.loop-last.invariant.0 in
      let inside = c.loop-last-test.true in
      let here = ended-are (goal.at.loop-last-preserved c).After-both-ended in
      rw (add-one c.loop-last.last)
      (elim c.if-not-is_empty.branch [
        | then-not-is_empty+else-times-last w ↦
            let there = some (goal.at.loop-last-preserved c).After-both-ended (sym c.is_empty.ensures ∙ w.if-not-is_empty.true) in
            let known = window_times arrays _ _ _ _ released inside _ _ moving begun there in
            rw w.sum-is
            (moving_fits arrays _ _ _ _ released inside _ _ moving _ _ (rw (← here) w.add_jobs-sum.ensures.0) (rw (← here) w.add_jobs-sum.ensures.1)
            (rw (known.0, known.1) at w.if-times-last.false))
        | else-not-is_empty w ↦
            rw w.sum-is
            (moving_on arrays _ _ _ _ released inside _ _ moving begun (rw (← here) (sym c.is_empty.ensures ∙ w.if-not-is_empty.false)))
      ]),
)

pub returns : goal.returns
returns c = λ jobs bounds arrays released.
    let inv = c.loop-last.invariant in
    moving_done arrays _ _ (omega (arith, c.loop-last-test.false, inv.1)) (inv.2 jobs bounds arrays released)
