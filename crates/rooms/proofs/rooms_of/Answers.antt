-- `rooms_of` meets its contract: the members of the open sets are the open pairs (proofs/RoomSizes.antt).
-- Assumes nothing.
use Prim.Native.Nat.{◌+◌, ◌-◌, ◌*◌, ◌≤◌}
use native.Mathlib.Omega.{arith}
use Rattle.model.specs.Limits.{max_jobs, max_intervals}
use Rattle.rooms.proofs.RoomSizes.{counts_few, shares_few, steps_few, wanted_rooms}
use Rattle.rooms.proofs.rooms_of.Goals as goal
use Rattle.rooms.proofs.rooms_of.Goals.{After-step_limit-steps}

pub count_all-pairs-requires : goal.count_all-pairs-requires
count_all-pairs-requires c = let (site, held) = c.requires in omega (arith, held.intervals_are, held.valid.few_bounds)

pub step_limit-steps-requires : goal.step_limit-steps-requires
step_limit-steps-requires c = let (site, held) = c.requires in counts_few held _ c.count_all-pairs.ensures

-- what is multiplied is small
small : (c : After-step_limit-steps) → (c.step_limit-steps.result ≤ max_jobs + max_intervals - 1) × (c.args.intervals ≤ max_intervals)
    × (c.args.jobs * c.args.intervals ≤ max_jobs * max_intervals)
small c =
    let (site, held) = c.requires in
    let counted = c.count_all-pairs.ensures in
    (steps_few held _ counted _ c.step_limit-steps.ensures, (counts_few held _ counted).1, shares_few held _ counted)

pub overflow_mul-result : goal.overflow_mul-result
overflow_mul-result c = omega (arith, (small (goal.at.overflow_mul-result c).After-step_limit-steps).0)

pub overflow_add-result : goal.overflow_add-result
overflow_add-result c = omega (arith, (small (goal.at.overflow_add-result c).After-step_limit-steps).0)

pub overflow_mul-result-2 : goal.overflow_mul-result-2
overflow_mul-result-2 c = omega (arith, (small (goal.at.overflow_mul-result-2 c).After-step_limit-steps).1)

pub overflow_add-result-2 : goal.overflow_add-result-2
overflow_add-result-2 c = omega (arith, (small (goal.at.overflow_add-result-2 c).After-step_limit-steps).1)

pub overflow_mul-result-3 : goal.overflow_mul-result-3
overflow_mul-result-3 c = omega (arith, (small (goal.at.overflow_mul-result-3 c).After-step_limit-steps).2)

pub returns : goal.returns
returns c = λ site held. wanted_rooms held _ c.count_all-pairs.ensures _ c.step_limit-steps.ensures
