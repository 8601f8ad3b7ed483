-- Reading back, for any function that meets the contract of `read_marks`: the law of the model on the definitions, put
-- through the answer's arrays.
-- Assumes nothing.
use mathlib.Core.Path.{sym, ◌∙◌, ap}
use Rattle.model.proofs.Marks.{marks_read_back}
use Rattle.reading.proofs.Encodings.{bytes_of_marks}
use Rattle.mark_tables.specs.Tables.{mark_table}
use Rattle.mark_tables.specs.ReadingBack.{MarksComeBack}
use Rattle.mark_tables.proofs.MarksIn.{marks_read}

pub marks_come_back : MarksComeBack
marks_come_back read meets =
    record {
      encoded_read = λ marks valid fits bytes encoded.
          meets bytes
          ∙ ap mark_table ((marks_read_back bytes.now marks (rw encoded (bytes_of_marks marks))).1 (valid, fits, encoded));
      read_encoded = λ bytes small table answered.
          (marks_read_back bytes.now _ small).0 (marks_read bytes.now table (sym (meets bytes) ∙ answered));
    }
