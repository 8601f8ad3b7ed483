-- `operation::touching` meets its contract, by the laws of proofs/TouchingOutcomes.antt. Assumes nothing.
use mathlib.Core.Path.{sym, ◌∙◌}
use mathlib.Core.Logic.{inl, inr}
use native.Mathlib.Omega.{arith}
use Rattle.std.proofs.lemmas.Result.{err_from_is_err_and}
use Rattle.model.specs.Marks.{read_marks}
use Rattle.model.proofs.Refusals.{returned_refused}
use Rattle.model.proofs.Jobs.{jobs_valid}
use Rattle.model.proofs.Marks.{marks_valid}
use Rattle.model.proofs.SiteParameters.{altered_are_valid}
use Rattle.job_tables.proofs.Read.{jobs_decoded_refused, jobs_decoded, decoded_deadlines_padded, decoded_padded}
use Rattle.mark_tables.proofs.MarksIn.{marks_read}
use Rattle.parameters.proofs.AlteredJobs.{refused_altering}
use Rattle.touching.proofs.TouchingOutcomes.{
  touching_wrong_span,
  touching_jobs_refused,
  touching_marks_refused,
  touching_parameters_refused,
  touching_both_read,
  refused_answers,
  refused_as,
  same-answers,
}
use Rattle.touching.proofs.operation.touching.Goals as goal

pub returns-then-end-start : goal.returns-then-end-start
returns-then-end-start c = rw c.at.ensures (refused_answers _ _ (touching_wrong_span _ _ _ _ _ _ _ _ (inl c.if-end-start.true)))

pub returns-then-end-gt-MAX_DEADLINE : goal.returns-then-end-gt-MAX_DEADLINE
returns-then-end-gt-MAX_DEADLINE c = rw c.at-then-end-gt-MAX_DEADLINE.ensures (refused_answers _ _ (touching_wrong_span _ _ _ _ _ _ _ _ (inr (omega arith))))

pub returns-in_err-count : goal.returns-in_err-count
returns-in_err-count c =
    let passed = err_from_is_err_and c.from_residual.result c.from_residual.ensures.1 in
    let by = jobs_decoded_refused _ _ _ _ _ c.decode_jobs.ensures _ c.in_err-count.was in
    rw (passed.1, passed.2) (refused_as by (touching_jobs_refused _ _ _ _ _ _ _ _ (omega arith) (omega arith) by.number by.place by.outcome_is))

pub returns-in_err-table : goal.returns-in_err-table
returns-in_err-table c =
    let passed = err_from_is_err_and c.from_residual-in_err-table.result c.from_residual-in_err-table.ensures.1 in
    let by = returned_refused _ (read_marks c.args.marks.now) _ (sym c.read_marks.ensures ∙ c.in_err-table.was) in
    rw (passed.1, passed.2)
    (refused_as by
    (touching_marks_refused _ _ _ _ _ _ _ _ (omega arith) (omega arith) _ by.number by.place
    (jobs_decoded _ _ _ _ _ c.decode_jobs.ensures _ c.in_ok-count.was) by.outcome_is))

pub alter_jobs-requires : goal.alter_jobs-requires
alter_jobs-requires c =
    let decoded = c.decode_jobs.ensures in
    let counted = c.in_ok-count.was in
    record {
      valid = jobs_valid _ _ (jobs_decoded _ _ _ _ _ decoded _ counted);
      deadlines_past = decoded_deadlines_padded _ _ _ _ _ decoded _ counted;
      cycles_past = decoded_padded _ _ _ _ _ decoded _ counted;
    }

pub returns-in_err-altered : goal.returns-in_err-altered
returns-in_err-altered c =
    let passed = err_from_is_err_and c.from_residual-in_err-altered.result c.from_residual-in_err-altered.ensures.1 in
    let by = refused_altering c.alter_jobs.ensures _ c.in_err-altered.was in
    rw (passed.1, passed.2)
    (refused_as by
    (touching_parameters_refused _ _ _ _ _ _ _ _ (omega arith) (omega arith) _ _
    (jobs_decoded _ _ _ _ _ c.decode_jobs.ensures _ c.in_ok-count.was) (marks_read _ _ (sym c.read_marks.ensures ∙ c.in_ok-table.was))
    by.number by.place by.outcome_is))

pub touching_altered-requires : goal.touching_altered-requires
touching_altered-requires c =
    let valid = jobs_valid _ _ (jobs_decoded _ _ _ _ _ c.decode_jobs.ensures _ c.in_ok-count.was) in (
      altered_are_valid.1 _ _ _ _ valid (c.alter_jobs.ensures.held _ c.in_ok-altered.was),
      marks_valid _ _ (marks_read _ _ (sym c.read_marks.ensures ∙ c.in_ok-table.was)),
    )

pub returns : goal.returns
returns c =
    same-answers
    (touching_both_read _ _ _ _ _ _ _ _ (omega arith) (omega arith) _ _
    (jobs_decoded _ _ _ _ _ c.decode_jobs.ensures _ c.in_ok-count.was) (marks_read _ _ (sym c.read_marks.ensures ∙ c.in_ok-table.was))
    _ (c.alter_jobs.ensures.held _ c.in_ok-altered.was))
    c.touching_altered.ensures
