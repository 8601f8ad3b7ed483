-- `task_table::task_fault` meets its contract. Each way out rests on the tests that led there. Assumes nothing.
use mathlib.Core.Path.{◌≡◌, sym, ap}
use mathlib.Core.Bool.{true, false, cond}
use mathlib.Core.Logic.{◌⊎◌, inl, inr}
use native.Mathlib.Omega.{arith}
use Rattle.std.specs.Prelude.{Some}
use Rattle.model.specs.declared.refusal.Fault.TheVariants.{TaskTable}
use Rattle.model.specs.Refusals.{fault_of}
use Rattle.model.proofs.Numbers.{true_or_false}
use Rattle.tasks.specs.declared.Task.{Task}
use Rattle.tasks.specs.Tasks.{wrong_task, fault_of_task}
use Rattle.tasks.proofs.Tasks.{SoundTask, task_sound}
use Rattle.task_tables.proofs.task_table.task_fault.Goals as goal

-- a task that does not keep the limits has the one fault
faulty : (task : Task) → (SoundTask task → ⊥) → Some TaskTable ≡ fault_of (fault_of_task task)
unfolding fault_of_task
faulty task unsound = go (true_or_false (wrong_task task))
  where
    go : (wrong_task task ≡ true) ⊎ (wrong_task task ≡ false) → Some TaskTable ≡ fault_of (cond (wrong_task task) 28 0)
    go (inl wrong) = rw wrong
    go (inr right) = absurd (unsound ((task_sound task).0 (rw right)))

pub returns-then-task-lt1 : goal.returns-then-task-lt1
returns-then-task-lt1 c = faulty _ (λ sound. omega (arith, sound.some_deadline))

pub returns-then-task : goal.returns-then-task
returns-then-task c = faulty _ (λ sound. omega (arith, sound.within_period))

pub returns-then-task-2 : goal.returns-then-task-2
returns-then-task-2 c = faulty _ (λ sound. omega (arith, sound.within_period))

pub returns-then-task-lt1-2 : goal.returns-then-task-lt1-2
returns-then-task-lt1-2 c = faulty _ (λ sound. omega (arith, sound.cycles_low))

pub returns-then-task-gt-MAX_CYCLES : goal.returns-then-task-gt-MAX_CYCLES
returns-then-task-gt-MAX_CYCLES c = faulty _ (λ sound. omega (arith, sound.cycles_high))

pub returns : goal.returns
returns c =
    ap fault_of
    (sym ((task_sound _).1 (record {
      some_deadline = omega arith;
      within_period = omega arith;
      cycles_low = omega arith;
      cycles_high = omega arith;
    })))
