use mathlib.Core.Path.{sym, ◌∙◌}
use borrow.Author.Tests.{not-true, not-false}
use Rattle.workloads.proofs.SharesTable.{kept_refl, kept_trans}
use Rattle.refilling.proofs.rows.fill_row.Goals as goal

pub loop-shares-init : goal.loop-shares-init
loop-shares-init c = λ work loads opens before. (kept_refl _ _, before)

pub fill_next-row-requires : goal.fill_next-row-requires
fill_next-row-requires c =
    let known = c.requires in record { row_fill = (known.0, known.1, known.2, (c.loop-shares.invariant known.0 known.1 known.2 known.3).1); rest_value = sym c.is_empty.ensures ∙ not-true _ c.loop-shares-test.true-raw }

pub loop-shares-smaller : goal.loop-shares-smaller
loop-shares-smaller c = c.fill_next-row.ensures.rest_bound

pub loop-shares-preserved : goal.loop-shares-preserved
loop-shares-preserved c = λ work loads opens before.
    let (kept, filled) = c.loop-shares.invariant work loads opens before in
    let (kept_next, next) = c.fill_next-row.ensures.row_filled work loads opens filled in
    (kept_trans kept kept_next, next)

pub shape_of-shares : goal.shape_of-shares
shape_of-shares c =
    let known = c.requires in
    (c.loop-shares.invariant known.0 known.1 known.2 known.3).0.same_length

pub returns : goal.returns
returns c = record { row_filled = c.loop-shares.invariant; rest_value = sym c.is_empty.ensures ∙ not-false _ c.loop-shares-test.false-raw }
