-- `path::fill` meets its contract (proofs/FillSteps.antt). Assumes nothing.
use mathlib.Core.Path.{refl}
use Prim.Native.Nat.{◌≤◌}
use native.Mathlib.Omega.{arith}
use Rattle.workloads.specs.Workloads.{Workload}
use Rattle.workloads.specs.Arrays.{numbers_in, lent_windows}
use Rattle.paths.proofs.FillSteps.{fill_room, fill_most, fill_walk, fill_move, filled}
use Rattle.paths.proofs.path.fill.Goals as goal
use Rattle.paths.proofs.path.fill.Goals.{After-route-2-1, After-slice_known-1}

-- a workload with what is lent
abbrev lent : (c : After-slice_known-1) → Workload → Workload
lent c work = let a = c.args in lent_windows work a.turn.jobs a.first.now a.last.now

pub path_limit-amount-requires : goal.path_limit-amount-requires
path_limit-amount-requires c =
    let can = c.requires.2 in
    let some : 1 ≤ c.min-most.result = omega (arith, c.min-most.ensures, fill_room can, can.lacks) in
    record { windows_walk = (lent (goal.at.path_limit-amount-requires c).After-slice_known-1 c.requires.0, fill_walk can); le_most = (some, refl) }

-- the amount is at most what is left, and at most the room
within : (c : After-route-2-1) → c.path_limit-amount.result ≤ c.args.turn.left
within c = omega (arith, c.path_limit-amount.ensures.1, c.min-most.ensures)

most : (c : After-route-2-1)
    → let a = c.args in
    c.path_limit-amount.result ≤ numbers_in a.room.now a.found.target
most c = omega (arith, c.path_limit-amount.ensures.1, c.min-most.ensures)

pub overflow_cast-amount : goal.overflow_cast-amount
overflow_cast-amount c =
    omega (arith, most (goal.at.overflow_cast-amount c).After-route-2-1, fill_most c.requires.2)

pub move_along-requires : goal.move_along-requires
move_along-requires c =
    let can = c.requires.2 in
    let work = lent (goal.at.move_along-requires c).After-slice_known-1 c.requires.0 in
    let limit = c.path_limit-amount.ensures in
    let moves = fill_move can limit.0 (within (goal.at.move_along-requires c).After-route-2-1) (most (goal.at.move_along-requires c).After-route-2-1) (limit.2 work (fill_walk can)) in
    (work, c.args.first.now, c.args.last.now, moves)

pub overflow_sub-room : goal.overflow_sub-room
overflow_sub-room c = most (goal.at.overflow_sub-room c).After-route-2-1

pub returns : goal.returns
returns c = λ work band can.
    let limit = c.path_limit-amount.ensures in
    let moves = fill_move can limit.0 (within (goal.at.returns c).After-route-2-1) (most (goal.at.returns c).After-route-2-1) (limit.2 (lent (goal.at.returns c).After-slice_known-1 work) (fill_walk can)) in
    filled can limit.0 (within (goal.at.returns c).After-route-2-1) (most (goal.at.returns c).After-route-2-1)
    (c.move_along.ensures (lent (goal.at.returns c).After-slice_known-1 work) c.args.first.now c.args.last.now moves)
