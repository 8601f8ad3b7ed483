use mathlib.Core.Path.{◌≡◌}
use Prim.Native.Nat.{ℕ, ◌+◌, ◌*◌, ◌≤◌}
use native.Mathlib.Omega.{arith}
use Rattle.model.specs.Sum.{sum}
use Rattle.model.specs.Plans.{shares_in}
use Rattle.model.proofs.Sum.{sum_next}
use Rattle.listing_text.proofs.plan.load_of.Goals as goal

-- after the last share
whole : (share : ℕ → ℕ) (load n count : ℕ) → load ≡ sum n share → n ≤ count → count ≤ n → load ≡ sum count share
whole share load n count is low high = let e : count ≡ n = omega arith in rw e is

pub loop-j-init : goal.loop-j-init
unfolding sum
loop-j-init c = omega arith

pub overflow_cast-load : goal.overflow_cast-load
overflow_cast-load c = let a = c.args in omega (arith, c.type_inv.shares (a.interval * a.jobs + c.loop-j.j))

pub overflow_add-load-in-loop-j : goal.overflow_add-load-in-loop-j
overflow_add-load-in-loop-j c = let a = c.args in omega (arith, c.type_inv.shares (a.interval * a.jobs + c.loop-j.j))

pub loop-j-preserved : goal.loop-j-preserved
loop-j-preserved c =
    let a = c.args in (
      omega (arith, sum_next c.loop-j.j (shares_in a.jobs a.shares.now a.interval)),
      omega arith,
      omega (arith, c.type_inv.shares (a.interval * a.jobs + c.loop-j.j)),
    )

pub returns : goal.returns
returns c = whole _ _ _ _ c.loop-j.invariant.0 (omega arith) (omega arith)
