-- `jobs::job_fault` meets its contract. Each way out rests on the tests that led there. Assumes nothing.
use mathlib.Core.Path.{◌≡◌, sym, ap}
use mathlib.Core.Bool.{true}
use Prim.Native.Nat.{◌<◌, ◌≤◌}
use native.Mathlib.Omega.{arith}
use borrow.Author.Tests.{lt-ltb, le-ltb, lt-leb, le-leb}
use Rattle.std.specs.Prelude.{Some}
use Rattle.model.specs.declared.Job.{Job}
use Rattle.model.specs.declared.refusal.Fault.TheVariants.{JobWindow, JobCycles}
use Rattle.model.specs.Limits.{max_deadline}
use Rattle.model.specs.Jobs.{wrong_window, wrong_cycles, fault_of_job}
use Rattle.model.specs.Refusals.{fault_of}
use Rattle.model.proofs.Jobs.{job_sound}
use Rattle.job_tables.proofs.jobs.job_fault.Goals as goal

module _ (job : Job) where
  window-fault : wrong_window job ≡ true → Some JobWindow ≡ fault_of (fault_of_job job)
  unfolding fault_of_job
  window-fault wrong = rw wrong

  cycles-fault : job.deadline ≤ max_deadline → job.release < job.deadline → wrong_cycles job ≡ true → Some JobCycles ≡ fault_of (fault_of_job job)
  unfolding fault_of_job
  cycles-fault high before wrong = rw (le-ltb _ _ high, lt-leb _ _ before, wrong)

pub returns-then-job-gt-MAX_DEADLINE : goal.returns-then-job-gt-MAX_DEADLINE
returns-then-job-gt-MAX_DEADLINE c = window-fault _ (rw (lt-ltb _ _ c.if-job-gt-MAX_DEADLINE.true))

pub returns-then-job : goal.returns-then-job
returns-then-job c = window-fault _ (rw (le-ltb _ _ c.if-job-gt-MAX_DEADLINE.false, le-leb _ _ c.if-job.true))

pub returns-then-job-lt1 : goal.returns-then-job-lt1
returns-then-job-lt1 c = cycles-fault _ (omega arith) (omega arith) (rw (lt-leb _ _ c.if-job-lt1.true))

pub returns-then-job-gt-MAX_CYCLES : goal.returns-then-job-gt-MAX_CYCLES
returns-then-job-gt-MAX_CYCLES c =
    cycles-fault _ (omega arith) (omega arith) (rw (le-leb _ _ c.if-job-lt1.false, lt-leb _ _ c.if-job-gt-MAX_CYCLES.true))

pub returns : goal.returns
returns c =
    ap fault_of (sym ((job_sound _).1 (record {
      release_before_deadline = omega arith;
      deadline_high = omega arith;
      cycles_low = omega arith;
      cycles_high = omega arith;
    })))
