-- Encodings of tables (document 01, "Tables in bytes"; document 02, Change 6). Proved in proofs/Encodings.antt.
use Rattle.std.specs.Prelude.{ℕ, List}
use Rattle.model.specs.declared.Level.{Level}
use Rattle.model.specs.declared.Job.{Job}
use Rattle.model.specs.Bytes.{IsBytes}
use Rattle.model.specs.LevelTables.{encode_levels}
use Rattle.model.specs.Jobs.{encode_jobs}
use Rattle.model.specs.Marks.{encode_marks}

-- Every encoding is a list of bytes, so that it can be lent to a reader.
abbrev pub EncodingsAreBytes : Type 0
EncodingsAreBytes =
    ((levels : List Level) → IsBytes (encode_levels levels))
    × ((jobs : List Job) → IsBytes (encode_jobs jobs))
    × ((marks : List ℕ) → IsBytes (encode_marks marks))
