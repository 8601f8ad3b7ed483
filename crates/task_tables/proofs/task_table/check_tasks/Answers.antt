use mathlib.Core.Path.{◌≡◌, sym, ◌∙◌, ap}
use native.Mathlib.Omega.{arith}
use borrow.Author.Count.{below_none, below_more}
use Rattle.std.specs.Prelude.{Ok, Err}
use Rattle.model.specs.Refusals.{fault_of}
use Rattle.model.proofs.Refusals.{fault_none, entry_stops, entries_pass}
use Rattle.tasks.specs.Tasks.{task_entries, fault_of_task, task_fault}
use Rattle.task_tables.proofs.TaskReading.{count_entries, entry_at}
use Rattle.task_tables.proofs.task_table.check_tasks.Goals as goal
use Rattle.task_tables.proofs.task_table.check_tasks.Goals.{After-task_fault}

pub loop-i-init : goal.loop-i-init
loop-i-init c = (omega arith, below_none _)

-- what was found in this turn is the entry's fault
here : (c : After-task_fault)
    → c.task_fault.result ≡ fault_of (task_fault (task_entries c.args.bytes.now) c.loop-i.i)
here c =
    c.task_fault.ensures
    ∙ ap (λ task. fault_of (fault_of_task task)) (c.task_at.ensures ∙ sym (entry_at c.args.bytes.now c.args.count c.requires _ c.loop-i-test.true))

pub returns-in-Some : goal.returns-in-Some
returns-in-Some c =
    ap Err c.at.ensures
    ∙ entry_stops _ _ _ _ _ _ c.loop-i.invariant.1 c.loop-i-test.true (sym (here (goal.at.returns-in-Some c).After-task_fault) ∙ c.in-Some.is)

pub loop-i-preserved : goal.loop-i-preserved
loop-i-preserved c =
    (omega arith, below_more _ _ c.loop-i.invariant.1 (fault_none _ (sym (here (goal.at.loop-i-preserved c).After-task_fault) ∙ c.in_default.is)))

pub returns : goal.returns
returns c =
    ap Ok (sym (count_entries c.args.bytes.now c.args.count c.requires))
    ∙ entries_pass _ _ _ _ (λ k below. c.loop-i.invariant.1 k (omega arith))
