-- Reading back, for any function that meets the contract of `read_jobs`: the law of the model on the definitions, put
-- through the answer's arrays.
-- Assumes nothing.
use mathlib.Core.Path.{sym, ◌∙◌, ap}
use Rattle.model.proofs.Jobs.{jobs_read_back}
use Rattle.reading.proofs.Encodings.{bytes_of_jobs}
use Rattle.job_tables.specs.Tables.{job_table}
use Rattle.job_tables.specs.ReadingBack.{JobsComeBack}
use Rattle.job_tables.proofs.Read.{jobs_read}

pub jobs_come_back : JobsComeBack
jobs_come_back read meets =
    record {
      encoded_read = λ jobs valid bytes encoded.
          meets bytes
          ∙ ap job_table ((jobs_read_back bytes.now jobs (rw encoded (bytes_of_jobs jobs))).1 (valid, encoded));
      read_encoded = λ bytes small table answered.
          (jobs_read_back bytes.now _ small).0 (jobs_read bytes.now table (sym (meets bytes) ∙ answered));
    }
