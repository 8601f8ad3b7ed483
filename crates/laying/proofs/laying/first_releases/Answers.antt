use native.Mathlib.Omega.{arith}
use mathlib.Core.Path.{◌≡◌, sym, ◌∙◌}
use lib.ListN.{length}
use Rattle.tasks.specs.Tasks.{task_entries}
use Rattle.task_tables.proofs.TaskReading.{count_entries, entry_at}
use Rattle.laying.proofs.NextReleases.{first_none, first_next, first_all}
use native.Mathlib.Omega.{arith}
use Rattle.laying.proofs.laying.first_releases.Goals as goal

pub loop-i-init : goal.loop-i-init
loop-i-init c = (omega arith, first_none _)

pub loop-i-preserved : goal.loop-i-preserved
loop-i-preserved c = (
  omega arith,
  first_next (task_entries c.args.bytes.now) _ _ _ c.loop-i.invariant.1 (omega (arith, c.requires.table.few))
      (c.task_at-task.ensures ∙ sym (entry_at c.args.bytes.now c.args.count c.requires.table _ c.loop-i-test.true)),
)

pub returns : goal.returns
returns c =
    let all : c.loop-i.i ≡ length (task_entries c.args.bytes.now) =
    omega (arith, count_entries c.args.bytes.now c.args.count c.requires.table) in
    first_all _ _ (rw all at c.loop-i.invariant.1)
