use mathlib.Core.Path.{◌≡◌}
use Prim.Native.Nat.{ℕ, ◌<◌}
use Rattle.std.proofs.lemmas.List.{get_or-take, length-take}
use Rattle.laying.proofs.NextReleases.{earliest_none, earliest_next}
use native.Mathlib.Omega.{arith}
use Rattle.laying.proofs.laying.earliest.Goals as goal

pub loop-release-init : goal.loop-release-init
loop-release-init c = (omega arith, earliest_none _ _)

pub loop-release-preserved : goal.loop-release-preserved
loop-release-preserved c =
    let inv = c.loop-release.invariant in
    let below : c.loop-release.release-index < c.args.count = omega (arith, length-take {A = ℕ}) in
    let same = get_or-take c.args.count c.args.next.now c.loop-release.release-index 0 below in (
      omega arith,
      rw (c.min-least.ensures, same) (earliest_next _ _ _ _ inv.1),
    )

pub returns : goal.returns
returns c =
    let all : c.loop-release.release-index ≡ c.args.count = omega (arith, length-take {A = ℕ}) in
    rw all at c.loop-release.invariant.1
