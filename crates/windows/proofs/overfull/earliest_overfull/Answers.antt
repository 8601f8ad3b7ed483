use mathlib.Core.Path.{◌≡◌, sym, ◌∙◌}
use mathlib.Core.Bool.{true, false}
use mathlib.Core.List.{List}
use Prim.Native.Nat.{ℕ, ◌<◌, ◌≤◌}
use native.Mathlib.Numerals.{add-one}
use native.Mathlib.Omega.{arith}
use Rattle.std.specs.Prelude.{Some}
use Rattle.model.specs.declared.Job.{Job}
use Rattle.model.specs.Limits.{max_intervals, max_bounds}
use Rattle.model.specs.Intervals.{bound_at}
use Rattle.job_sets.specs.JobSets.{is_empty, in_both}
use Rattle.job_sets.specs.IntervalSets.{set_in}
use Rattle.windows.specs.WindowTests.{TestArrays, FirstOverfull}
use Rattle.windows.proofs.StartSteps.{is_release, passed_none, no-release, some_release, passed_over, added_within, added_until, additions_few, passed_on, found_here, passed_all}
use Rattle.windows.proofs.overfull.earliest_overfull.Goals as goal
use Rattle.windows.proofs.overfull.earliest_overfull.Goals.{After-both, In-Some, Start, then-not-is_empty+in_default, else-not-is_empty}

-- the intervals are few
few : (c : Start) → c.args.intervals ≤ max_intervals
few c = let (jobs, bounds, arrays) = c.requires.by_index in omega (arith, arrays.counted, arrays.few)

pub loop-start-init : goal.loop-start-init
loop-start-init c = (omega arith, λ jobs bounds arrays. rw c.all-from.ensures (passed_none arrays _))

pub set_at-here-requires : goal.set_at-here-requires
set_at-here-requires c = omega (arith, c.loop-start-test.true, few (goal.at.set_at-here-requires c).Start)

-- the jobs released at the start
here-are : (c : After-both)
    → c.both.result ≡ in_both (set_in c.args.sets.now c.loop-start.start) c.loop-start.from
here-are c = rw (← c.set_at-here.ensures) c.both.ensures

pub overfull_end-test-requires : goal.overfull_end-test-requires
overfull_end-test-requires c =
    let (jobs, bounds, arrays) = c.requires.by_index in
    record { by_index = (jobs, bounds, arrays, (c.loop-start.invariant.1 jobs bounds arrays).released); top_le_max_frequency = (c.requires.top_le_max_frequency, c.loop-start-test.true) }

-- the start is a release
released : (c : After-both)
    → is_empty c.both.result ≡ false
    → let a = c.args in
    (jobs : List Job) (bounds : List ℕ) → TestArrays jobs bounds a.times.now a.cycles.now a.sets.now a.intervals
    → is_release jobs bounds c.loop-start.start ≡ true
released c found = λ jobs bounds arrays.
    some_release arrays _ _ c.loop-start-test.true _ _ (c.loop-start.invariant.1 jobs bounds arrays)
    (rw (← here-are c) found)

pub overflow_add-additions : goal.overflow_add-additions
overflow_add-additions c =
    let (jobs, bounds, arrays) = c.requires.by_index in
    omega (
      arith,
      additions_few arrays c.args.top,
      added_within arrays _ _ c.loop-start-test.true _ _ (c.loop-start.invariant.1 jobs bounds arrays)
          (released (goal.at.overflow_add-additions c).After-both (sym c.is_empty.ensures ∙ c.if-not-is_empty.true) jobs bounds arrays) _ _ (c.overfull_end-test.ensures jobs bounds arrays (c.loop-start.invariant.1 jobs bounds arrays).released),
    )

pub offset_bounds-times-start : goal.offset_bounds-times-start
offset_bounds-times-start c =
    omega (arith, c.loop-start-test.true, few (goal.at.offset_bounds-times-start c).Start)

pub bounds-times-start : goal.bounds-times-start
bounds-times-start c =
    omega (arith, c.loop-start-test.true, few (goal.at.bounds-times-start c).Start)

-- the first window from the start that is overfull
first : (c : In-Some)
    → let a = c.args in
    (jobs : List Job) (bounds : List ℕ) → TestArrays jobs bounds a.times.now a.cycles.now a.sets.now a.intervals
    → FirstOverfull a.top jobs bounds c.loop-start.start c.in-Some.end c.overfull_end-test.result.additions
first c = λ jobs bounds arrays.
    rw c.in-Some.is at (c.overfull_end-test.ensures jobs bounds arrays (c.loop-start.invariant.1 jobs bounds arrays).released)

-- its end is a bound
end_below : (c : In-Some) → c.in-Some.end < max_bounds
end_below c = let (jobs, bounds, arrays) = c.requires.by_index in omega (arith, (first c jobs bounds arrays).inside, arrays.few)

pub offset_bounds-times-end : goal.offset_bounds-times-end
offset_bounds-times-end c = omega (arith, end_below (goal.at.offset_bounds-times-end c).In-Some)

pub bounds-times-end : goal.bounds-times-end
bounds-times-end c = end_below (goal.at.bounds-times-end c).In-Some

pub returns-in-Some : goal.returns-in-Some
returns-in-Some c = λ jobs bounds arrays.
    let is = released (goal.at.returns-in-Some c).After-both (sym c.is_empty.ensures ∙ c.if-not-is_empty.true) jobs bounds arrays in
    let inside = c.loop-start-test.true in
    let before = c.loop-start.invariant.1 jobs bounds arrays in
    let here = first (goal.at.returns-in-Some c).In-Some jobs bounds arrays in
    let found = found_here arrays _ _ inside _ _ before is _ _ here in
    let (after, last) = here.inside in
    record {
      found_is =
          rw (
            found,
            arrays.times_are c.loop-start.start (omega (arith, inside, arrays.counted)),
            arrays.times_are c.in-Some.end (omega (arith, last, after)),
          );
      additions_most = added_within arrays _ _ inside _ _ before is (Some c.in-Some.end) _ here;
      additions_are = λ None-found. let z : ◌≡◌ {A = ℕ} 0 1 = cc (sym found ∙ None-found) in absurd (omega (arith, z));
      additions_until = λ w e.
          let starts : bound_at bounds c.loop-start.start ≡ w.start = cc (sym found ∙ e) in
          let ends : bound_at bounds c.in-Some.end ≡ w.end = cc (sym found ∙ e) in
          rw (← starts, ← ends) (added_until arrays _ _ inside _ _ before is _ _ here);
    }

pub loop-start-smaller : goal.loop-start-smaller
loop-start-smaller c = omega (arith, c.loop-start-test.true)

pub loop-start-preserved : goal.loop-start-preserved
loop-start-preserved c = (
  omega (arith, c.loop-start-test.true),
  λ jobs bounds arrays.
      let before = c.loop-start.invariant.1 jobs bounds arrays in
      rw (add-one c.loop-start.start, c.less-from.ensures, c.set_at-here.ensures)
      (elim c.if-not-is_empty.branch [
        | then-not-is_empty+in_default w ↦
            rw w.additions-is
            (passed_on arrays _ _ c.loop-start-test.true _ _ before
            (released (goal.at.loop-start-preserved c).After-both (sym c.is_empty.ensures ∙ w.if-not-is_empty.true) jobs bounds arrays) _
            (rw w.in_default.is at (w.overfull_end-test.ensures jobs bounds arrays before.released)))
        | else-not-is_empty w ↦
            rw w.additions-is
            (passed_over arrays _ _ c.loop-start-test.true _ _ before
            (no-release arrays _ _ c.loop-start-test.true _ _ before
            (rw (← here-are (goal.at.loop-start-preserved c).After-both) (sym c.is_empty.ensures ∙ w.if-not-is_empty.false))))
      ]),
)

pub returns : goal.returns
returns c = λ jobs bounds arrays.
    let inv = c.loop-start.invariant in
    let (fits, added) = passed_all arrays _ _ _ _ (omega (arith, c.loop-start-test.false, inv.0)) (inv.1 jobs bounds arrays) in
    record {
      found_is = rw fits;
      additions_most = omega (arith, added);
      additions_are = λ None-found. added;
      additions_until = λ w e. let z : ◌≡◌ {A = ℕ} 0 1 = cc (sym fits ∙ e) in absurd (omega (arith, z));
    }
