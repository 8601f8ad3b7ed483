use mathlib.Core.Path.{◌≡◌, refl, ◌∙◌}
use Prim.Native.Nat.{◌*◌, ◌^◌, ◌<◌}
use lib.ListN.{get_or, length-set}
use Rattle.model.specs.Limits.{max_bounds}
use Rattle.workloads.proofs.StoredNumbers.{stored_more}
use native.Mathlib.Omega.{arith}
use Rattle.job_rooms.proofs.spares.capacities.Goals as goal
use Rattle.job_rooms.proofs.spares.capacities.Goals.{In-loop-i}

pub loop-i-init : goal.loop-i-init
loop-i-init c = (omega arith, c.requires.1, λ k below. absurd (omega arith))

-- what is stored fits 32 bits
fits : (c : In-loop-i)
    → get_or c.args.times.now c.loop-i.i 0 * c.args.top < 2 ^ 32
fits c = c.requires.2 c.loop-i.i c.loop-i-test.true

few : (c : In-loop-i) → c.loop-i.i < max_bounds
few c = omega (arith, c.requires.0, c.loop-i-test.true)

pub offset_bounds-times-i : goal.offset_bounds-times-i
offset_bounds-times-i c = omega (arith, few (goal.at.offset_bounds-times-i c).In-loop-i)

pub bounds-times-i : goal.bounds-times-i
bounds-times-i c = few (goal.at.bounds-times-i c).In-loop-i

pub overflow_mul-capacity : goal.overflow_mul-capacity
overflow_mul-capacity c = omega (arith, fits (goal.at.overflow_mul-capacity c).In-loop-i)

pub overflow_cast-capacity : goal.overflow_cast-capacity
overflow_cast-capacity c = omega (arith, fits (goal.at.overflow_cast-capacity c).In-loop-i)

pub offset_bounds-capacity-i : goal.offset_bounds-capacity-i
offset_bounds-capacity-i c = omega (arith, few (goal.at.offset_bounds-capacity-i c).In-loop-i)

pub bounds-capacity-i : goal.bounds-capacity-i
bounds-capacity-i c = few (goal.at.bounds-capacity-i c).In-loop-i

pub loop-i-preserved : goal.loop-i-preserved
loop-i-preserved c =
    let inv = c.loop-i.invariant in (
      omega (arith, c.loop-i-test.true),
      length-set c.loop-i.capacity _ _ ∙ inv.1,
      stored_more (λ k number. number ≡ get_or c.args.times.now k 0 * c.args.top)
          c.loop-i.capacity _ _ (omega (arith, few (goal.at.loop-i-preserved c).In-loop-i, inv.1)) inv.2 refl,
    )

pub returns : goal.returns
returns c = λ i low. c.loop-i.invariant.2 i (omega (arith, c.loop-i-test.false))
