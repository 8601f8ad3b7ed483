use mathlib.Core.Path.{◌≡◌, refl}
use Prim.Native.Nat.{ℕ, ◌+◌, ◌<◌}
use native.Mathlib.Omega.{arith}
use Rattle.std.proofs.lemmas.List.Edits.{length-between, get_or-between}
use Rattle.job_rooms.proofs.SpareSteps.{so_far_first, so_far_next, so_far_done}
use Rattle.job_rooms.proofs.spares.least_among.Goals as goal

pub loop-number-init : goal.loop-number-init
loop-number-init c =
    let a = c.args in
    let start : a.first + 1 + 0 ≡ a.first + 1 = omega arith in
    (omega arith, rw start (so_far_first _ _ _ refl))

pub loop-number-preserved : goal.loop-number-preserved
loop-number-preserved c =
    let inv = c.loop-number.invariant in
    let a = c.args in
    let k = c.loop-number.number-index in
    let next : a.first + 1 + (k + 1) ≡ a.first + 1 + k + 1 = omega arith in
    let below : a.first + 1 + k < a.last + 1 = omega (arith, length-between {X = ℕ}) in
    let same = get_or-between a.numbers.now (a.first + 1) (a.last + 1) k 0 below in (
      omega arith,
      rw (next, c.min-least.ensures, same) (so_far_next _ _ _ _ inv.1),
    )

pub returns : goal.returns
returns c = let inv = c.loop-number.invariant in so_far_done _ _ _ _ inv.1 _ (omega (arith, inv.0, length-between {X = ℕ}))
