use mathlib.Core.Path.{◌≡◌, refl, ◌∙◌}
use Prim.Native.Nat.{◌+◌, ◌*◌, ◌<◌, ◌≤◌}
use native.Mathlib.Omega.{arith}
use lib.ListN.{length-set}
use lib.Seq.{get_or-set_other}
use borrow.Author.Count.{below_none}
use Rattle.model.specs.Limits.{max_intervals, max_deadline, max_frequency}
use Rattle.workloads.specs.Arrays.{numbers_in}
use Rattle.workloads.proofs.StoredNumbers.{stored_more}
use Rattle.planner.proofs.rooms.add_band.Goals as goal
use Rattle.planner.proofs.rooms.add_band.Goals.{In-loop-i}

pub loop-i-init : goal.loop-i-init
loop-i-init c = (omega arith, c.requires.intervals_le_max_intervals.1, below_none _, λ k past. refl)

-- the interval of this turn exists, and its room stays within the limits
inside : (c : In-loop-i) → c.loop-i.i < max_intervals
inside c = omega (arith, c.loop-i-test.true, c.requires.intervals_le_max_intervals.0)

fits : (c : In-loop-i)
    → let a = c.args in
    numbers_in c.loop-i.room c.loop-i.i + numbers_in a.size.now c.loop-i.i * a.gap ≤ max_deadline * max_frequency
fits c =
    let i = c.loop-i.i in
    rw (c.loop-i.invariant.3 i (omega arith)) (c.requires.by_index i c.loop-i-test.true)

pub offset_bounds-size-i : goal.offset_bounds-size-i
offset_bounds-size-i c = omega (arith, inside (goal.at.offset_bounds-size-i c).In-loop-i)

pub bounds-size-i : goal.bounds-size-i
bounds-size-i c = inside (goal.at.bounds-size-i c).In-loop-i

pub overflow_mul-room : goal.overflow_mul-room
overflow_mul-room c = omega (arith, fits (goal.at.overflow_mul-room c).In-loop-i)

pub offset_bounds-room-i : goal.offset_bounds-room-i
offset_bounds-room-i c = omega (arith, inside (goal.at.offset_bounds-room-i c).In-loop-i)

pub bounds-room-i : goal.bounds-room-i
bounds-room-i c = inside (goal.at.bounds-room-i c).In-loop-i

pub overflow_add-room : goal.overflow_add-room
overflow_add-room c = omega (arith, fits (goal.at.overflow_add-room c).In-loop-i)

pub bounds-room-i-in-loop-i : goal.bounds-room-i-in-loop-i
bounds-room-i-in-loop-i c = inside (goal.at.bounds-room-i-in-loop-i c).In-loop-i

pub loop-i-preserved : goal.loop-i-preserved
loop-i-preserved c =
    let inv = c.loop-i.invariant in
    let a = c.args in
    let room = c.loop-i.room in
    let i = c.loop-i.i in (
      omega (arith, c.loop-i-test.true),
      length-set room i _ ∙ inv.1,
      stored_more (λ k v. v ≡ numbers_in a.room.now k + numbers_in a.size.now k * a.gap) room i _ (omega (arith, inside (goal.at.loop-i-preserved c).In-loop-i, inv.1)) inv.2
          (rw (inv.3 i (omega arith))),
      λ k past. get_or-set_other room i k _ 0 (λ e. omega arith) ∙ inv.3 k (omega arith),
    )

pub returns : goal.returns
returns c =
    let inv = c.loop-i.invariant in
    let all : c.loop-i.i ≡ c.args.intervals = omega (arith, inv.0, c.loop-i-test.false) in
    (inv.1, rw all at inv.2, λ i past. inv.3 i (omega arith))
