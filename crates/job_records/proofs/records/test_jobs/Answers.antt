-- `records::test_jobs` meets its contract, by the laws of the pass (proofs/TestedJobs.antt). Assumes nothing.
use native.Mathlib.Omega.{arith}
use Rattle.job_records.proofs.TestedJobs.{tests_none, tests_more}
use Rattle.job_records.proofs.records.test_jobs.Goals as goal

pub loop-j-init : goal.loop-j-init
loop-j-init c = (omega arith, tests_none _ _ _ _ c.requires.2)

pub loop-j-preserved : goal.loop-j-preserved
loop-j-preserved c = (omega arith, tests_more _ _ _ _ c.loop-j.invariant.1 c.test_job-summed.ensures)
