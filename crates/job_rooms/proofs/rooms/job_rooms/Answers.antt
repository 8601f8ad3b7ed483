use mathlib.Core.Path.{◌≡◌, sym, ◌∙◌, refl}
use mathlib.Core.List.{List}
use Prim.Native.Nat.{ℕ, ◌≤◌}
use native.Mathlib.Numerals.{add-one}
use lib.ListN.{length-replicate}
use Rattle.model.specs.declared.Job.{Job}
use Rattle.model.specs.Limits.{max_intervals, max_bounds}
use Rattle.job_sets.specs.JobSets.{in_both}
use Rattle.job_sets.specs.IntervalSets.{set_in}
use Rattle.job_rooms.specs.RoomArrays.{RoomArrays}
use Rattle.job_rooms.proofs.RoomSteps.{taken_none, capacity_fits, all_few, ends_small, can_lower, can-settle, taken_over, taken_on, taken_all}
use native.Mathlib.Omega.{arith}
use Rattle.job_rooms.proofs.rooms.job_rooms.Goals as goal
use Rattle.job_rooms.proofs.rooms.job_rooms.Goals.{After-both-released, then-not-is_empty, else-not-is_empty}

-- the intervals are few
few-intervals : {jobs : List Job} {bounds times cycles sets last : List ℕ} {count intervals : ℕ}
    → RoomArrays jobs bounds times cycles sets last count intervals → intervals ≤ max_intervals
few-intervals arrays = omega (arith, arrays.tests.counted, arrays.tests.few)

-- without jobs there are no rooms
pub returns-then-count-eq0 : goal.returns-then-count-eq0
returns-then-count-eq0 c = λ jobs bounds arrays fits j below. absurd (omega (arith, arrays.counted, c.if-count-eq0.true))

pub capacities-requires : goal.capacities-requires
capacities-requires c =
    let (jobs, bounds, arrays, fits) = c.requires.by_index in
    (few-intervals arrays, length-replicate {A = ℕ} max_bounds 0, capacity_fits arrays _ c.requires.top_le_max_frequency.0 fits (omega (arith, c.if-count-eq0.false)))

pub add_due-requires : goal.add_due-requires
add_due-requires c =
    let (jobs, bounds, arrays, fits) = c.requires.by_index in
    let slow = c.requires.top_le_max_frequency.0 in
    record { jobs_le_max_jobs = (omega (arith, arrays.counted, arrays.tests.valid.few), all_few arrays _ slow fits, ends_small arrays _ slow fits); due_value = refl }

pub loop-start-init : goal.loop-start-init
loop-start-init c = (
  omega arith,
  λ jobs bounds arrays fits.
      rw c.all-from.ensures (taken_none arrays _ c.requires.top_le_max_frequency.0 fits _ _ c.add_due.ensures.0 c.add_due.ensures.1 c.requires.top_le_max_frequency.1),
)

pub set_at-here-requires : goal.set_at-here-requires
set_at-here-requires c =
    let (jobs, bounds, arrays, fits) = c.requires.by_index in
    omega (arith, c.loop-start-test.true, few-intervals arrays)

-- the jobs released at the start
here-are : (c : After-both-released)
    → c.both-released.result ≡ in_both (set_in c.args.sets.now c.loop-start.start) c.loop-start.from
here-are c = rw (← c.set_at-here.ensures) c.both-released.ensures

pub lower_spares-requires : goal.lower_spares-requires
lower_spares-requires c =
    let (jobs, bounds, arrays, fits) = c.requires.by_index in
    let slow = c.requires.top_le_max_frequency.0 in
    let taken = c.loop-start.invariant.1 jobs bounds arrays fits in
    record { by_index = (_, can_lower arrays _ slow fits _ c.loop-start-test.true _ _ _ _ taken _ c.capacities.ensures); spares_len = taken.spares_size }

pub settle_rooms-requires : goal.settle_rooms-requires
settle_rooms-requires c =
    let (jobs, bounds, arrays, fits) = c.requires.by_index in
    let slow = c.requires.top_le_max_frequency.0 in
    let taken = c.loop-start.invariant.1 jobs bounds arrays fits in
    record { can_settle = rw (here-are (goal.at.settle_rooms-requires c).After-both-released) (can-settle arrays _ slow fits _ c.loop-start-test.true _ _ _ _ taken); due_len = (taken.due_size, taken.rooms_size) }

pub loop-start-preserved : goal.loop-start-preserved
loop-start-preserved c =
    let slow = c.requires.top_le_max_frequency.0 in
    let inside = c.loop-start-test.true in (
      omega (arith, inside),
      λ jobs bounds arrays fits.
          let taken = c.loop-start.invariant.1 jobs bounds arrays fits in
          rw (add-one c.loop-start.start, c.less-from.ensures, c.set_at-here.ensures)
          (elim c.if-not-is_empty.branch [
            | then-not-is_empty w ↦
                rw (w.due-is, w.spares-is, w.rooms-is)
                (taken_on arrays _ slow fits _ inside _ _ _ _ taken _ c.capacities.ensures _
                (w.lower_spares.ensures _ (can_lower arrays _ slow fits _ inside _ _ _ _ taken _ c.capacities.ensures)) _ _
                (rw (here-are (goal.at.loop-start-preserved c).After-both-released) at w.settle_rooms.ensures))
            | else-not-is_empty w ↦
                rw (w.due-is, w.spares-is, w.rooms-is)
                (taken_over arrays _ slow fits _ inside _ _ _ _ taken
                (rw (← here-are (goal.at.loop-start-preserved c).After-both-released) (sym c.is_empty.ensures ∙ w.if-not-is_empty.false)))
          ]),
    )

pub returns : goal.returns
returns c = λ jobs bounds arrays fits.
    let inv = c.loop-start.invariant in
    taken_all arrays _ c.requires.top_le_max_frequency.0 fits _ _ _ _ _ (omega (arith, c.loop-start-test.false, inv.0)) (inv.1 jobs bounds arrays fits)
