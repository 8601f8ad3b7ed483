-- `operation::touching_bounds` meets its contract: the jobs and their bounds stand in the arrays that are lent and made
-- (proofs/TouchedArrays.antt), and the rest is what `list_touched` keeps.
-- Assumes nothing.
use mathlib.Core.Path.{refl, ap}
use native.Mathlib.Omega.{arith}
use Rattle.std.specs.Prelude.{is_ok}
use Rattle.std.proofs.lemmas.Result.{err_from_is_err_and}
use Rattle.job_tables.proofs.Read.{jobs_count}
use Rattle.job_records.proofs.SetsHave.{no-jobs}
use Rattle.touching.proofs.TouchingOutcomes.{refused_as, same-answers}
use Rattle.touching.proofs.TouchedArrays.{deadlines_high, times_rise, numbers_few, steps_refused, steps_passed}
use Rattle.touching.proofs.operation.touching_bounds.Goals as goal

pub bound_numbers-requires : goal.bound_numbers-requires
bound_numbers-requires c =
    let valid = c.requires.valid_jobs in
    let (bounds, held) = c.requires.by_index in
    (jobs_count _ _ _ _ valid, times_rise _ _ _ _ valid held, refl)

pub bound_numbers-requires-2 : goal.bound_numbers-requires-2
bound_numbers-requires-2 c =
    let valid = c.requires.valid_jobs in
    let (bounds, held) = c.requires.by_index in
    (jobs_count _ _ _ _ valid, times_rise _ _ _ _ valid held, refl)

pub open_sets-requires : goal.open_sets-requires
open_sets-requires c =
    let valid = c.requires.valid_jobs in
    let (bounds, held) = c.requires.by_index in
    let few = numbers_few _ _ _ _ valid held c.bound_numbers.ensures c.bound_numbers-2.ensures in
    record { jobs_le_max_jobs = (jobs_count _ _ _ _ valid, refl); by_index = few }

pub check_steps-requires : goal.check_steps-requires
check_steps-requires c =
    let valid = c.requires.valid_jobs in
    let (bounds, held) = c.requires.by_index in
    (jobs_count _ _ _ _ valid, (times_rise _ _ _ _ valid held).few, no-jobs)

pub returns-in_err-check_steps : goal.returns-in_err-check_steps
returns-in_err-check_steps c = λ bounds held.
    let passed = err_from_is_err_and c.from_residual.result c.from_residual.ensures.1 in
    let by =
    steps_refused _ _ _ _ c.requires.valid_jobs held
    c.bound_numbers.ensures c.bound_numbers-2.ensures c.open_sets.ensures
    _ _ c.check_steps.ensures.value _ _ _ _ c.in_err-check_steps.was in
    rw (passed.1, passed.2) (refused_as by by.outcome_is)

pub list_touched-requires : goal.list_touched-requires
list_touched-requires c =
    let valid = c.requires.valid_jobs in
    let (bounds, held) = c.requires.by_index in
    let few = (times_rise _ _ _ _ valid held).few in
    (jobs_count _ _ _ _ valid, omega (arith, c.interval_count.ensures), deadlines_high _ _ _ _ valid)

pub returns : goal.returns
returns c = λ bounds held.
    same-answers
    (steps_passed _ _ _ _ c.requires.valid_jobs held
    c.bound_numbers.ensures c.bound_numbers-2.ensures c.open_sets.ensures
    _ _ c.check_steps.ensures.value _ _ _ _ c.in_ok-check_steps.was (c.check_steps.ensures.cells_seen (ap is_ok c.in_ok-check_steps.was))
    _ c.interval_count.ensures)
    c.list_touched.ensures
