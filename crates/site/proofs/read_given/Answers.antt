-- `read_given` meets its contract, by the laws of proofs/ReadSites.antt. Assumes nothing.
use mathlib.Core.Path.{refl, sym}
use Rattle.std.proofs.lemmas.Result.{err_from_is_err_and}
use Rattle.model.proofs.Refusals.{returned_refused, refusal_returns, answer_returns}
use Rattle.level_tables.proofs.Read.{levels_read}
use Rattle.job_tables.proofs.Read.{jobs_decoded_refused, jobs_decoded, decoded_deadlines_padded, decoded_padded}
use Rattle.site.proofs.ReadSites.{levels_refused, jobs_refused, both_read}
use Rattle.site.proofs.read_given.Goals as goal

pub returns-in_err-table : goal.returns-in_err-table
returns-in_err-table c =
    let passed = err_from_is_err_and c.from_residual.result c.from_residual.ensures.1 in
    rw (passed.1, passed.2) (refusal_returns _ (levels_refused _ _ (returned_refused _ _ _ (sym c.in_err-table.ensures))))

pub returns-in_err-count : goal.returns-in_err-count
returns-in_err-count c =
    let passed = err_from_is_err_and c.from_residual-in_err-count.result c.from_residual-in_err-count.ensures.1 in
    rw (passed.1, passed.2)
    (refusal_returns _ (jobs_refused _ _ (levels_read _ _ (sym c.in_ok-table.ensures)) (jobs_decoded_refused _ _ _ _ _ c.decode_jobs.ensures _ c.in_err-count.was)))

pub returns : goal.returns
returns c =
    let decoded = c.in_ok-count.ensures in
    answer_returns _ (both_read _ _ (levels_read _ _ (sym c.in_ok-table.ensures)) (jobs_decoded _ _ _ _ _ decoded _ refl))
    (record {
      levels_are = refl;
      jobs_are = refl;
      deadlines_past = decoded_deadlines_padded _ _ _ _ _ decoded _ refl;
      cycles_past = decoded_padded _ _ _ _ _ decoded _ refl;
    })
