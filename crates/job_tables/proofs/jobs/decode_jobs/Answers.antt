-- `jobs::decode_jobs` meets its contract. Each way out rests on the tests that led there and on what the callees ensure, by
-- the laws of proofs/DecodedJobs.antt. Assumes nothing.
use native.Mathlib.Omega.{arith}
use Rattle.job_tables.proofs.DecodedJobs.{decoded_refused, jobs_short, jobs_many, jobs_cut, jobs_decoded_whole}
use Rattle.job_tables.proofs.jobs.decode_jobs.Goals as goal

pub returns-then-bytes-lt2 : goal.returns-then-bytes-lt2
returns-then-bytes-lt2 c = rw c.at.ensures (decoded_refused 6 0 (jobs_short _ (omega arith)))

pub returns-then-count-gt-MAX_JOBS : goal.returns-then-count-gt-MAX_JOBS
returns-then-count-gt-MAX_JOBS c = rw c.at-then-count-gt-MAX_JOBS.ensures (decoded_refused 7 0 (jobs_many _ (omega arith) (omega arith)))

pub returns-then-bytes-count : goal.returns-then-bytes-count
returns-then-bytes-count c = rw c.at-then-bytes-count.ensures (decoded_refused 8 0 (jobs_cut _ (omega arith) (omega arith) (λ e. omega arith)))

pub returns : goal.returns
returns c =
    jobs_decoded_whole
    _ _ _ _ _ _
    c.number16-count.ensures.0 (omega arith)
    c.column32.ensures c.column32-2.ensures c.column32-3.ensures c.check_jobs.ensures
    (omega arith) (omega arith)
