use mathlib.Core.Path.{◌≡◌}
use mathlib.Core.Logic.{◌⊎◌, inl, inr}
use Prim.Native.Nat.{ℕ, ◌<◌, ◌≤◌}
use native.Mathlib.Omega.{arith}
use borrow.Author.Count.{below_more}
use Rattle.model.specs.Limits.{max_intervals}
use Rattle.model.proofs.Numbers.{lt_or_le}
use Rattle.workloads.specs.Arrays.{numbers_in}
use Rattle.refilling.proofs.cells.first_uncrossed.Goals as goal
use Rattle.refilling.proofs.cells.first_uncrossed.Goals.{At-loop-b}

pub overflow_add-b : goal.overflow_add-b
overflow_add-b c = omega (arith, c.requires.1, c.requires.2)

pub loop-b-init : goal.loop-b-init
loop-b-init c = (omega arith, λ k below late none. omega arith)

-- the bound that is looked for is not passed
not-passed : (c : At-loop-b) (b : ℕ) → c.args.interval < b → numbers_in c.args.cross.now b ≡ 0 → c.loop-b.b ≤ b
not-passed c b late none = go (lt_or_le b c.loop-b.b)
  where
    go : (b < c.loop-b.b) ⊎ (c.loop-b.b ≤ b) → c.loop-b.b ≤ b
    go (inl passed) = absurd (c.loop-b.invariant.1 b passed late none)
    go (inr order) = order

inside : (c : At-loop-b) → c.loop-b.b ≤ max_intervals
inside c = let (b, late, few, none) = c.requires in omega (arith, not-passed c b late none)

pub offset_bounds-cross-b : goal.offset_bounds-cross-b
offset_bounds-cross-b c = omega (arith, inside (goal.at.offset_bounds-cross-b c).At-loop-b)

pub bounds-cross-b : goal.bounds-cross-b
bounds-cross-b c = omega (arith, inside (goal.at.bounds-cross-b c).At-loop-b)

pub overflow_add-b-in-loop-b : goal.overflow_add-b-in-loop-b
overflow_add-b-in-loop-b c = omega (arith, inside (goal.at.overflow_add-b-in-loop-b c).At-loop-b)

pub loop-b-smaller : goal.loop-b-smaller
loop-b-smaller c = omega (arith, inside (goal.at.loop-b-smaller c).At-loop-b)

pub loop-b-preserved : goal.loop-b-preserved
loop-b-preserved c =
    (omega (arith, c.loop-b.invariant.0), below_more _ c.loop-b.b c.loop-b.invariant.1 (λ late none. omega (arith, c.loop-b-test.true)))

pub returns : goal.returns
returns c =
    (c.loop-b.invariant.0, omega (arith, c.loop-b-test.false), not-passed (goal.at.returns c).At-loop-b)
