-- `operation::lay_out_tasks` meets its contract: one law for each way out (proofs/RoundAnswers.antt). Assumes nothing.
use Rattle.std.specs.Prelude.{Some}
use Rattle.tasks.specs.Tasks.{task_entries}
use Rattle.task_tables.specs.FoundMultiples.{MultipleFound}
use Rattle.rounds.proofs.RoundAnswers.{round-read, empty_arrays, round_long, round_many, round_short, round_written}
use Rattle.rounds.proofs.operation.lay_out_tasks.Goals as goal
use Rattle.rounds.proofs.operation.lay_out_tasks.Goals.{In-Some}

found : (c : In-Some) → MultipleFound (task_entries c.args.tasks.now) (Some c.in-Some.multiple)
found c = rw c.in-Some.is at c.multiple_of.ensures

pub returns-in_default : goal.returns-in_default
returns-in_default c = round_long _ _ _ c.requires (rw c.in_default.is at c.multiple_of.ensures) c.at.ensures

pub lay_out-requires : goal.lay_out-requires
lay_out-requires c = record { round_read = round-read _ _ c.requires _ (found (goal.at.lay_out-requires c).In-Some); job_arrays = empty_arrays }

pub returns-in_default-lay_out : goal.returns-in_default-lay_out
returns-in_default-lay_out c =
    round_many _ _ _ c.requires _ (found (goal.at.returns-in_default-lay_out c).In-Some) (rw c.in_default-lay_out.is at c.lay_out.ensures) c.at-in_default-lay_out.ensures

pub returns-then-jobs-length : goal.returns-then-jobs-length
returns-then-jobs-length c =
    round_short _ _ _ c.requires _ (found (goal.at.returns-then-jobs-length c).In-Some) _ _ _ _
    (rw c.in-Some-lay_out.is at c.lay_out.ensures) c.if-jobs-length.true c.at-then-jobs-length.ensures

pub returns : goal.returns
returns c =
    round_written _ _ _ c.requires _ (found (goal.at.returns c).In-Some) _ _ _ _
    (rw c.in-Some-lay_out.is at c.lay_out.ensures) c.if-jobs-length.false _ c.write_jobs.ensures
