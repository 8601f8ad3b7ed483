use mathlib.Core.Path.{◌≡◌, refl}
use Prim.Native.Nat.{ℕ, ◌+◌, ◌<◌, ◌≤◌, ◌^◌}
use native.Mathlib.Omega.{arith}
use Rattle.model.specs.Limits.{max_intervals}
use Rattle.workloads.specs.Arrays.{numbers_in}
use Rattle.refilling.proofs.CrossSteps.{crossed_first, next_holds, next_small, crossed_next}
use Rattle.refilling.proofs.crosses.add_loads.Goals as goal
use Rattle.refilling.proofs.crosses.add_loads.Goals.{In-loop-i}

pub loop-i-init : goal.loop-i-init
loop-i-init c = (omega arith, λ jobs last cycles known. crossed_first known)

-- what this turn knows: no more is due at the next bound than is left and run, and this fits 32 bits
record Turn (i rest : ℕ) (loads cross : ℕ → ℕ) : Type 0 where
  pub i-small : i < max_intervals
  pub holds : cross (i + 1) ≤ rest + loads i
  pub small : rest + loads i < 2 ^ 32

turn-knows : (c : In-loop-i) → let a = c.args in
    let turn = c.loop-i in
    Turn turn.i turn.rest (numbers_in a.loads.now) (numbers_in turn.cross)
turn-knows c =
    let known = c.requires in
    let so_far = c.loop-i.invariant.1 known.0 known.1 known.2 known.3 in
    let inside = c.loop-i-test.true in
    record {
      i-small = omega (arith, known.3.intervals_most, inside);
      holds = next_holds known.3 so_far inside;
      small = next_small known.3 so_far inside;
    }

pub offset_bounds-loads-i : goal.offset_bounds-loads-i
offset_bounds-loads-i c = omega (arith, (turn-knows (goal.at.offset_bounds-loads-i c).In-loop-i).i-small)

pub bounds-loads-i : goal.bounds-loads-i
bounds-loads-i c = (turn-knows (goal.at.bounds-loads-i c).In-loop-i).i-small

pub overflow_add-rest : goal.overflow_add-rest
overflow_add-rest c = omega (arith, (turn-knows (goal.at.overflow_add-rest c).In-loop-i).small)

pub overflow_add-rest-in-loop-i : goal.overflow_add-rest-in-loop-i
overflow_add-rest-in-loop-i c = omega (arith, (turn-knows (goal.at.overflow_add-rest-in-loop-i c).In-loop-i).i-small)

pub offset_bounds-cross-i : goal.offset_bounds-cross-i
offset_bounds-cross-i c = omega (arith, (turn-knows (goal.at.offset_bounds-cross-i c).In-loop-i).i-small)

pub bounds-cross-i : goal.bounds-cross-i
bounds-cross-i c = omega (arith, (turn-knows (goal.at.bounds-cross-i c).In-loop-i).i-small)

pub overflow_cast-rest : goal.overflow_cast-rest
overflow_cast-rest c = let turn = turn-knows (goal.at.overflow_cast-rest c).In-loop-i in omega (arith, turn.holds, turn.small)

pub overflow_sub-rest : goal.overflow_sub-rest
overflow_sub-rest c = (turn-knows (goal.at.overflow_sub-rest c).In-loop-i).holds

pub overflow_cast-cross : goal.overflow_cast-cross
overflow_cast-cross c = omega (arith, (turn-knows (goal.at.overflow_cast-cross c).In-loop-i).small)

pub overflow_add-cross : goal.overflow_add-cross
overflow_add-cross c = omega (arith, (turn-knows (goal.at.overflow_add-cross c).In-loop-i).i-small)

pub offset_bounds-cross-i-in-loop-i : goal.offset_bounds-cross-i-in-loop-i
offset_bounds-cross-i-in-loop-i c = omega (arith, (turn-knows (goal.at.offset_bounds-cross-i-in-loop-i c).In-loop-i).i-small)

pub bounds-cross-i-in-loop-i : goal.bounds-cross-i-in-loop-i
bounds-cross-i-in-loop-i c = omega (arith, (turn-knows (goal.at.bounds-cross-i-in-loop-i c).In-loop-i).i-small)

pub loop-i-preserved : goal.loop-i-preserved
loop-i-preserved c =
    let inside = c.loop-i-test.true in
    (omega (arith, inside), λ jobs last cycles known. crossed_next known (c.loop-i.invariant.1 jobs last cycles known) inside _ refl)

pub returns : goal.returns
returns c =
    let all : c.loop-i.i ≡ c.args.intervals = omega (arith, c.loop-i.invariant.0, c.loop-i-test.false) in
    λ jobs last cycles known.
    let crossed = c.loop-i.invariant.1 jobs last cycles known in
    (crossed.size, rw all at crossed.before)
