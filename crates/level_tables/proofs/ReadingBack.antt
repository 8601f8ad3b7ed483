-- Reading back, for any function that meets the contract of `read_levels`: the law of the model on the definitions, put
-- through the answer's arrays.
-- Assumes nothing.
use mathlib.Core.Path.{sym, ◌∙◌, ap}
use Rattle.model.proofs.LevelTables.{levels_read_back}
use Rattle.reading.proofs.Encodings.{bytes_of_levels}
use Rattle.level_tables.specs.Tables.{level_table}
use Rattle.level_tables.specs.ReadingBack.{LevelsComeBack}
use Rattle.level_tables.proofs.Read.{levels_read}

pub levels_come_back : LevelsComeBack
levels_come_back read meets =
    record {
      encoded_read = λ levels valid fits bytes encoded.
          meets bytes
          ∙ ap level_table ((levels_read_back bytes.now levels (rw encoded (bytes_of_levels levels))).1 (valid, fits, encoded));
      read_encoded = λ bytes small table answered.
          (levels_read_back bytes.now _ small).0 (levels_read bytes.now table (sym (meets bytes) ∙ answered));
    }
