use mathlib.Core.Path.{◌≡◌}
use Prim.Native.Nat.{ℕ, ◌<◌}
use Rattle.std.proofs.lemmas.List.{get_or-take, length-take}
use native.Mathlib.Omega.{arith}
use Rattle.prices.proofs.HeldShares.{highest_start, highest_next}
use Rattle.prices.proofs.smallest.highest_prices.Goals as goal

pub loop-i-init : goal.loop-i-init
loop-i-init c = (omega arith, highest_start c.requires.1)

pub set_at-requires : goal.set_at-requires
set_at-requires c = omega (arith, c.loop-i-test.true, c.requires.0, length-take {A = ℕ})

pub raise_members-requires : goal.raise_members-requires
raise_members-requires c = c.loop-i.invariant.1.size

pub loop-i-preserved : goal.loop-i-preserved
loop-i-preserved c =
    let a = c.args in
    let inside : c.loop-i.i < a.intervals = omega (arith, length-take {A = ℕ}) in
    let raised = c.raise_members.ensures in (
      omega (arith, inside),
      highest_next c.loop-i.invariant.1 (rw (c.set_at.ensures, get_or-take a.intervals a.prices.now c.loop-i.i 0 inside) at raised),
    )

pub returns : goal.returns
returns c =
    let all : c.loop-i.i ≡ c.args.intervals = omega (arith, length-take {A = ℕ}) in
    rw all at c.loop-i.invariant.1
