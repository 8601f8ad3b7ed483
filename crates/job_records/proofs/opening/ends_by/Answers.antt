-- `opening::ends_by` meets its contract: the bound that was found is the deadline, or none is (proofs/OpenRange.antt).
-- Assumes nothing.
use native.Mathlib.Omega.{arith}
use Rattle.job_records.proofs.OpenRange.{BoundsBefore, bounds_before, ends_at, ends_before}
use Rattle.job_records.proofs.opening.ends_by.Goals as goal
use Rattle.job_records.proofs.opening.ends_by.Goals.{After-bound_number-before}

pub bound_number-before-requires : goal.bound_number-before-requires
bound_number-before-requires c = c.requires.rising

-- the bounds before the deadline
split : (c : After-bound_number-before) → BoundsBefore c.args.bounds c.args.times.now c.args.deadline c.bound_number-before.result
split c = bounds_before _ _ _ c.requires _ c.bound_number-before.ensures

pub returns-then-before-bounds : goal.returns-then-before-bounds
returns-then-before-bounds c =
    rw c.interval_count.ensures (ends_before _ _ _ _ (split (goal.at.returns-then-before-bounds c).After-bound_number-before) c.requires (λ below same. omega arith))

pub offset_bounds-times-before : goal.offset_bounds-times-before
offset_bounds-times-before c = omega (arith, (split (goal.at.offset_bounds-times-before c).After-bound_number-before).within, c.requires.rising.few)

pub bounds-times-before : goal.bounds-times-before
bounds-times-before c = omega (arith, (split (goal.at.bounds-times-before c).After-bound_number-before).within, c.requires.rising.few)

pub returns-then-times-before : goal.returns-then-times-before
returns-then-times-before c =
    ends_at _ _ _ _ (split (goal.at.returns-then-times-before c).After-bound_number-before) c.requires (omega (arith, (split (goal.at.returns-then-times-before c).After-bound_number-before).within)) c.if-times-before.true

pub returns : goal.returns
returns c =
    rw c.interval_count-2.ensures (ends_before _ _ _ _ (split (goal.at.returns c).After-bound_number-before) c.requires (λ below same. c.if-times-before.false same))
