-- `fitting::fit` meets its contract: the records are the jobs of the arrays, and what was found of them is what `check_plan`
-- asks. Assumes nothing.
use mathlib.Core.Path.{◌≡◌}
use mathlib.Core.List.{List}
use Prim.Native.Nat.{ℕ}
use lib.ListN.{length}
use Rattle.model.specs.declared.Job.{Job}
use Rattle.job_tables.specs.Tables.{jobs_in}
use Rattle.job_tables.proofs.Read.{length_jobs_in, job-in}
use Rattle.job_records.specs.TestedJobs.{HoldsCycles}
use Rattle.fitting.proofs.fitting.fit.Goals as goal

-- the cycles of jobs that stand in arrays
held : (count : ℕ) (releases deadlines cycles : List ℕ) → HoldsCycles (jobs_in count releases deadlines cycles) cycles
held count releases deadlines cycles = record {
  at = λ j below. rw (job-in count releases deadlines cycles j (rw (length_jobs_in count releases deadlines cycles) at below));
}

pub returns : goal.returns
returns c =
    let a = c.args in
    let jobs : List Job = jobs_in a.count a.releases.now a.deadlines.now a.cycles.now in
    let counted : length jobs ≡ a.count = length_jobs_in a.count a.releases.now a.deadlines.now a.cycles.now in
    let tested = rw (c.job_records-jobs.ensures, c.add_plan.ensures.0) at c.lend_jobs-summed.ensures in
    record {
      judged = λ processor is-top. c.check_plan.ensures.value processor jobs is-top counted tested (held a.count a.releases.now a.deadlines.now a.cycles.now);
      opened = rw counted tested.opened;
      added = c.add_plan.ensures.1;
      seen = c.check_plan.ensures.cells_seen;
    }
