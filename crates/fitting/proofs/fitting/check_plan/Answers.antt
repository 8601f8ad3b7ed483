-- `fitting::check_plan` meets its contract. Each way out rests on the verdicts and tests that led there, by the laws of
-- proofs/FirstHalf.antt. Assumes nothing.
use mathlib.Core.Path.{ap}
use Rattle.std.specs.Prelude.{is_ok}
use Rattle.std.proofs.lemmas.Result.{err_from_is_err_and}
use Rattle.fitting.proofs.Verdicts.{refused_passes}
use Rattle.fitting.proofs.FirstHalf.{steps_refused, sums_refused, loads_decide}
use Rattle.fitting.proofs.fitting.check_plan.Goals as goal

pub check_steps-requires : goal.check_steps-requires
check_steps-requires c = (c.requires.1, c.requires.2.rising.few, c.requires.4)

pub returns-in_err-check_steps : goal.returns-in_err-check_steps
returns-in_err-check_steps c =
    let told = err_from_is_err_and c.from_residual.result c.from_residual.ensures.1 in
    record {
      value = λ processor jobs is-top jobs_counted tested held.
          rw (told.1, told.2)
          (steps_refused
          _ processor is-top _ _ _ _ _ _ _ c.requires.1 c.requires.2.rising.few jobs jobs_counted tested held
          _ c.check_steps.ensures.value _ c.in_err-check_steps.was);
      cells_seen = rw told.1 refused_passes;
    }

pub returns-then-summed-count : goal.returns-then-summed-count
returns-then-summed-count c =
    record {
      value = λ processor jobs is-top jobs_counted tested held. rw c.at.ensures
          (sums_refused
          _ processor is-top _ _ _ _ _ _ _ c.requires.1 c.requires.2.rising.few jobs jobs_counted tested held
          _ c.check_steps.ensures.value c.in_ok-check_steps.was c.if-summed-count.true);
      cells_seen = refused_passes;
    }

pub returns : goal.returns
returns c =
    record {
      value = λ processor jobs is-top jobs_counted tested held.
          loads_decide
          _ processor is-top _ _ _ _ _ _ _ c.requires.1 c.requires.2.rising.few jobs jobs_counted tested held
          _ c.check_steps.ensures.value c.in_ok-check_steps.was c.if-summed-count.false _ c.requires.3 _ c.check_loads.ensures;
      cells_seen = λ passes. c.check_steps.ensures.cells_seen (ap is_ok c.in_ok-check_steps.was);
    }
