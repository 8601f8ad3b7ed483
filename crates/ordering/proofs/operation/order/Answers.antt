-- `operation::order` meets its contract: one law for each way out (proofs/OrderAnswers.antt). Assumes nothing.
use mathlib.Core.Path.{sym, ◌∙◌, ap}
use native.Mathlib.Omega.{arith}
use Rattle.std.specs.Prelude.{is_ok}
use Rattle.std.proofs.lemmas.Result.{err_from_is_err_and}
use Rattle.job_records.proofs.SetsHave.{no-jobs}
use Rattle.ordering.proofs.JobsWithShares.{seen_sets}
use Rattle.ordering.proofs.OrderAnswers.{check_accepted, order_refused, order_orderable, order_small, order_short, order_written}
use Rattle.ordering.proofs.operation.order.Goals as goal

pub check_cells-requires : goal.check_cells-requires
check_cells-requires c = no-jobs

pub returns-in_err-check_cells : goal.returns-in_err-check_cells
returns-in_err-check_cells c =
    let told = err_from_is_err_and c.from_residual.result c.from_residual.ensures.1 in
    rw (told.1, told.2) (order_refused _ _ _ _ _ _ _ _ (sym c.in_err-check_cells.was ∙ c.check_cells.ensures.value))

pub overflow_cast-length : goal.overflow_cast-length
overflow_cast-length c =
    let accepted = check_accepted _ _ (sym c.in_ok-check_cells.was ∙ c.check_cells.ensures.value) in
    omega (arith, order_small _ _ _ _ _ _ _ accepted)

pub returns-then-ordered-length : goal.returns-then-ordered-length
returns-then-ordered-length c =
    let accepted = check_accepted _ _ (sym c.in_ok-check_cells.was ∙ c.check_cells.ensures.value) in
    rw c.at.ensures (order_short _ _ _ _ _ _ _ _ accepted c.if-ordered-length.true)

pub write_ordered-requires : goal.write_ordered-requires
write_ordered-requires c =
    let accepted = check_accepted _ _ (sym c.in_ok-check_cells.was ∙ c.check_cells.ensures.value) in
    let orderable = order_orderable _ _ _ _ _ _ _ accepted in
    (orderable, seen_sets _ orderable _ (c.check_cells.ensures.cells_seen (ap is_ok c.in_ok-check_cells.was)), c.if-ordered-length.false)

pub overflow_cast-result : goal.overflow_cast-result
overflow_cast-result c =
    let accepted = check_accepted _ _ (sym c.in_ok-check_cells.was ∙ c.check_cells.ensures.value) in
    omega (arith, order_small _ _ _ _ _ _ _ accepted)

pub returns : goal.returns
returns c =
    let accepted = check_accepted _ _ (sym c.in_ok-check_cells.was ∙ c.check_cells.ensures.value) in
    order_written _ _ _ _ _ _ _ _ accepted c.if-ordered-length.false _ c.write_ordered.ensures
