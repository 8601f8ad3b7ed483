use mathlib.Core.Path.{◌≡◌}
use native.Mathlib.Omega.{arith}
use lib.ListN.{length}
use Rattle.tasks.specs.declared.Task.{Task}
use Rattle.tasks.specs.Tasks.{task_at, task_entries}
use Rattle.task_tables.proofs.TaskReading.{count_entries, RoundTask, round_task}
use Rattle.laying.proofs.Releasing.{releasing_none, releasing_one, releasing_kept, releasing_next, releasing_listed}
use Rattle.laying.proofs.laying.release_at.Goals as goal
use Rattle.laying.proofs.laying.release_at.Goals.{In-loop-i, then-next-i, else-next-i}

pub loop-i-init : goal.loop-i-init
loop-i-init c = (omega arith, releasing_none _ _ _ _ _ _ _ c.requires.next_releases c.requires.job_arrays)

pub task_at-task-requires : goal.task_at-task-requires
task_at-task-requires c = record { task_bytes = c.requires.round_read.tasks_read.table; i_lt_count = c.loop-i-test.true }

-- the task of this turn
here : (c : In-loop-i) (task : Task) → task ≡ task_at c.args.bytes.now c.loop-i.i
    → RoundTask (task_entries c.args.bytes.now) c.loop-i.i task
here c task read = round_task c.args.bytes.now c.args.count c.args.multiple c.requires.round_read _ c.loop-i-test.true _ read

pub add_job-requires : goal.add_job-requires
add_job-requires c =
    record { tick_le_max_multiple = (omega (arith, c.requires.round_read.small, c.requires.tick_lt_multiple.0), (here (goal.at.add_job-requires c).In-loop-i _ c.task_at-task.ensures).deadline_small); job_arrays = c.loop-i.invariant.1.arrays }

pub overflow_add-next : goal.overflow_add-next
overflow_add-next c =
    omega (arith, c.requires.round_read.small, c.requires.tick_lt_multiple.0, (here (goal.at.overflow_add-next c).In-loop-i _ c.task_at-task.ensures).period_small)

pub overflow_add-jobs : goal.overflow_add-jobs
overflow_add-jobs c =
    omega (arith, c.loop-i.invariant.1.few)

pub loop-i-preserved : goal.loop-i-preserved
loop-i-preserved c =
    let inv = c.loop-i.invariant in
    let table = c.requires.round_read.tasks_read.table in
    let all = count_entries c.args.bytes.now c.args.count table in (
      omega arith,
      elim c.if-next-i.branch [
        | then-next-i w ↦
            let turn = here (goal.at.loop-i-preserved c).In-loop-i _ w.task_at-task.ensures in
            rw (w.next-is, w.releases-is, w.deadlines-is, w.cycles-is, w.jobs-is)
            (releasing_one _ _ _ _ _ _ _ _ _ _ _ _ inv.1 _ turn (omega (arith, table.few)) w.if-next-i.true _ _ _ w.add_job.ensures)
        | else-next-i w ↦
            rw (w.next-is, w.releases-is, w.deadlines-is, w.cycles-is, w.jobs-is)
            (releasing_kept _ _ _ _ _ _ _ _ _ _ _ _ inv.1 (omega arith) w.if-next-i.false)
      ],
    )

pub returns : goal.returns
returns c =
    let inv = c.loop-i.invariant in
    let all : c.loop-i.i ≡ length (task_entries c.args.bytes.now) =
    omega (arith, inv.0, count_entries c.args.bytes.now c.args.count c.requires.round_read.tasks_read.table) in record { next_releases_2 = releasing_next _ _ _ _ _ _ _ _ _ _ _ _ inv.1 all; job_arrays_2 = inv.1.arrays; listed_jobs = releasing_listed _ _ _ _ _ _ _ _ _ _ _ _ inv.1 all }
