use mathlib.Core.Path.{◌≡◌}
use Prim.Native.Nat.{◌<◌}
use lib.ListN.{length}
use Rattle.tasks.specs.Tasks.{task_of, task_entries}
use Rattle.task_tables.proofs.TaskReading.{count_entries, task_read}
use Rattle.task_tables.proofs.FoundMultiples.{multiple_none, multiple_next, multiple_found, multiple_above}
use native.Mathlib.Omega.{arith}
use Rattle.task_tables.proofs.multiple.multiple_of.Goals as goal
use Rattle.task_tables.proofs.multiple.multiple_of.Goals.{After-task_at-task}

pub loop-i-init : goal.loop-i-init
loop-i-init c = (omega arith, multiple_none _)

-- the task of this turn
here : (c : After-task_at-task)
    → (c.task_at-task.result ≡ task_of (task_entries c.args.bytes.now) c.loop-i.i) × (0 < c.task_at-task.result.period)
here c =
    task_read c.args.bytes.now c.args.count c.requires _ c.loop-i-test.true _ c.task_at-task.ensures

pub common_multiple-requires : goal.common_multiple-requires
common_multiple-requires c = (c.loop-i.invariant.1.positive, (here (goal.at.common_multiple-requires c).After-task_at-task).1)

pub returns-in_err-multiple : goal.returns-in_err-multiple
returns-in_err-multiple c =
    rw c.from_residual.ensures
    (multiple_above _ _ _ c.loop-i.invariant.1 c.requires.valid
    (omega (arith, c.loop-i-test.true, count_entries c.args.bytes.now c.args.count c.requires.table))
    (rw ((here (goal.at.returns-in_err-multiple c).After-task_at-task).0, c.in_err-multiple.was) at c.common_multiple.ensures))

pub loop-i-preserved : goal.loop-i-preserved
loop-i-preserved c = (
  omega arith,
  multiple_next _ _ _ c.loop-i.invariant.1 _
      (rw ((here (goal.at.loop-i-preserved c).After-task_at-task).0, c.in_ok-multiple.was) at c.common_multiple.ensures),
)

pub returns : goal.returns
returns c =
    let all : c.loop-i.i ≡ length (task_entries c.args.bytes.now) =
    omega (arith, c.loop-i.invariant.0, count_entries c.args.bytes.now c.args.count c.requires.table) in
    multiple_found _ c.requires.valid _ (rw all at c.loop-i.invariant.1)
