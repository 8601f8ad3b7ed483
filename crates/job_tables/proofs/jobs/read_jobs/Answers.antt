-- `jobs::read_jobs` meets its contract: what `decode_jobs` has decoded is the answer. Assumes nothing.
use Rattle.std.proofs.lemmas.Result.{err_from_is_err_and}
use Rattle.job_tables.proofs.DecodedJobs.{decoded_table}
use Rattle.job_tables.proofs.jobs.read_jobs.Goals as goal

pub returns : goal.returns
returns c = c.decode_jobs.ensures.held _ c.in_ok-count.was

pub returns-in_err-count : goal.returns-in_err-count
returns-in_err-count c =
    let passed = err_from_is_err_and c.from_residual.result c.from_residual.ensures.1 in
    rw (passed.1, passed.2) (decoded_table c.decode_jobs.ensures _ c.in_err-count.was)
