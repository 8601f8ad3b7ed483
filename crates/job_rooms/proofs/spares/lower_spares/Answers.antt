use mathlib.Core.Path.{refl}
use mathlib.Core.List.{List}
use Prim.Native.Nat.{ℕ, ◌+◌, ◌^◌, ◌<◌, ◌≤◌}
use lib.ListN.{length, get_or, set}
use Rattle.model.specs.Limits.{max_bounds}
use native.Mathlib.Omega.{arith}
use Rattle.job_rooms.specs.Spares.{CanLower}
use Rattle.job_rooms.proofs.SpareSteps.{Lowering, lowering_first, end_small, total_fits, lowering_next, lowering_done}
use Rattle.job_rooms.proofs.spares.lower_spares.Goals as goal
use Rattle.job_rooms.proofs.spares.lower_spares.Goals.{After-min, In-loop-end, Start}

-- there is a place for the start
start-few : (c : Start) → c.args.start < max_bounds
start-few c = let (needs, can) = c.requires.by_index in omega (arith, can.inside, can.few)

pub offset_bounds-capacity-start : goal.offset_bounds-capacity-start
offset_bounds-capacity-start c = omega (arith, start-few (goal.at.offset_bounds-capacity-start c).Start)

pub bounds-capacity-start : goal.bounds-capacity-start
bounds-capacity-start c = start-few (goal.at.bounds-capacity-start c).Start

pub loop-end-init : goal.loop-end-init
loop-end-init c = let (needs, can) = c.requires.by_index in (omega arith, omega (arith, can.inside), λ needs can. lowering_first can _)

-- what this turn knows of the end
record Turn (capacity due : List ℕ) (total end : ℕ) : Type 0 where
  pub end_few : end < max_bounds
  pub fits : total + get_or due end 0 ≤ get_or capacity end 0
  pub small : get_or capacity end 0 < 2 ^ 32

turn-knows : (c : In-loop-end) → let a = c.args in
    Turn a.capacity.now a.due.now c.loop-end.sum c.loop-end.end
turn-knows c =
    let (needs, can) = c.requires.by_index in
    let so_far = c.loop-end.invariant.2 needs can in
    let inside = c.loop-end-test.true in
    record { end_few = end_small can _ _ _ _ so_far inside; fits = total_fits can _ _ _ _ so_far inside; small = can.small _ inside }

pub offset_bounds-due-end : goal.offset_bounds-due-end
offset_bounds-due-end c = omega (arith, (turn-knows (goal.at.offset_bounds-due-end c).In-loop-end).end_few)

pub bounds-due-end : goal.bounds-due-end
bounds-due-end c = (turn-knows (goal.at.bounds-due-end c).In-loop-end).end_few

pub overflow_add-sum : goal.overflow_add-sum
overflow_add-sum c = let turn = turn-knows (goal.at.overflow_add-sum c).In-loop-end in omega (arith, turn.fits, turn.small)

pub overflow_sub-capacity : goal.overflow_sub-capacity
overflow_sub-capacity c = (turn-knows (goal.at.overflow_sub-capacity c).In-loop-end).fits

-- the spares with that of this end, and the sum
next : (c : After-min) → (needs : ℕ → ℕ)
    → let a = c.args in
    CanLower needs a.capacity.now a.due.now a.intervals a.start
    → Lowering needs a.capacity.now a.intervals a.start a.spares.now (set c.loop-end.spares c.loop-end.end c.min.result)
    (c.loop-end.sum + get_or a.due.now c.loop-end.end 0) (c.loop-end.end + 1)
next c needs can =
    let so_far = c.loop-end.invariant.2 needs can in
    let room : c.loop-end.end < length c.loop-end.spares = omega (arith, so_far.size, c.requires.spares_len, end_small can _ _ _ _ so_far c.loop-end-test.true) in
    lowering_next can _ _ _ _ so_far c.loop-end-test.true _ refl _ c.min.ensures room

pub loop-end-preserved : goal.loop-end-preserved
loop-end-preserved c =
    (omega (arith, c.loop-end.invariant.0), omega (arith, c.loop-end-test.true), next (goal.at.loop-end-preserved c).After-min)

pub returns : goal.returns
returns c = λ needs can.
    let so_far = c.loop-end.invariant.2 needs can in
    lowering_done can _ _ _ _ so_far (omega (arith, so_far.within, c.loop-end-test.false))

-- after the last end
pub returns-2 : goal.returns-2
returns-2 c = λ needs can. lowering_done can _ _ _ _ (next (goal.at.returns-2 c).After-min needs can) (omega arith)
