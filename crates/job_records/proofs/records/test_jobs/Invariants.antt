-- `records::test_jobs` meets its contract. The loop's invariant: what the pass has found after the records passed.
-- Assumes nothing.
use Rattle.std.proofs.Common.{length, ◌≤◌}
use Rattle.job_records.specs.TestedJobs.{TestedBelow}
use Rattle.job_records.proofs.records.test_jobs.Given as goal

abbrev pub invariant-loop-j : goal.invariant-loop-j
invariant-loop-j l = (l.j ≤ length l.jobs) × TestedBelow l.jobs l.j l.times l.bounds l.sums l.sets l.summed
