-- `altered_jobs::with_margin` meets its contract: the product of a margin and cycles has room in 64 bits. Assumes nothing.
use mathlib.Core.Path.{refl}
use Prim.Native.Nat.{◌+◌, ◌*◌, ◌≤◌}
use native.Mathlib.Nat.{mul-le-mul, div-le_self}
use native.Mathlib.Omega.{arith}
use Rattle.model.specs.SiteParameters.{margin_on}
use Rattle.parameters.proofs.altered_jobs.with_margin.Goals as goal
use Rattle.parameters.proofs.altered_jobs.with_margin.Goals.{Start}

product : (c : Start) → c.args.margin * c.args.cycles ≤ 100_000_000_000
product c = mul-le-mul c.requires.1 c.requires.0

pub overflow_mul-result : goal.overflow_mul-result
overflow_mul-result c = omega (arith, product (goal.at.overflow_mul-result c).Start)

pub overflow_add-result : goal.overflow_add-result
overflow_add-result c = omega (arith, product (goal.at.overflow_add-result c).Start)

pub overflow_add-result-2 : goal.overflow_add-result-2
overflow_add-result-2 c =
    let a = c.args in
    omega (arith, product (goal.at.overflow_add-result-2 c).Start, c.requires, div-le_self (a.margin * a.cycles + 99) 100)

pub returns : goal.returns
unfolding margin_on
returns c = refl
