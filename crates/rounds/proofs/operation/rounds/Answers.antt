-- `operation::rounds` meets its contract: a table that is not read is refused, and one that was read is laid out. Assumes
-- nothing.
use mathlib.Core.Path.{sym, ◌∙◌}
use Rattle.std.proofs.lemmas.Result.{err_from_is_err_and}
use Rattle.task_tables.proofs.TaskReading.{tasks_read}
use Rattle.rounds.proofs.RoundAnswers.{round_unread}
use Rattle.rounds.proofs.operation.rounds.Goals as goal

pub lay_out_tasks-requires : goal.lay_out_tasks-requires
lay_out_tasks-requires c = tasks_read _ _ (sym c.in_ok-count.was ∙ c.read_tasks.ensures)

pub returns-in_err-count : goal.returns-in_err-count
returns-in_err-count c =
    let passed = err_from_is_err_and c.from_residual.result c.from_residual.ensures.1 in
    rw (passed.1, passed.2) (round_unread _ _ _ (sym c.in_err-count.was ∙ c.read_tasks.ensures))
