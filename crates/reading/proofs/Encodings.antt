-- An encoding is a list of bytes, whatever the entries are.
-- Assumes nothing.
use mathlib.Core.List.{List, [], ◌∷◌, ◌++◌}
use Prim.Native.Nat.{ℕ, zero, suc, ◌/◌}
use native.Mathlib.Omega.{arith}
use lib.ListN.{length}
use Rattle.model.specs.declared.Level.{Level}
use Rattle.model.specs.declared.Job.{Job}
use Rattle.model.specs.Bytes.{IsBytes, bytes_of, bytes16, bytes32}
use Rattle.model.specs.Entries.{encode_each}
use Rattle.model.specs.LevelTables.{encode_levels}
use Rattle.model.specs.Jobs.{encode_jobs}
use Rattle.model.specs.Marks.{encode_marks}
use Rattle.reading.specs.Encodings.{EncodingsAreBytes}

bytes_of_number : (width n : ℕ) → IsBytes (bytes_of width n)
unfolding bytes_of
bytes_of_number zero n place = omega arith
bytes_of_number (suc width) n zero = omega arith
bytes_of_number (suc width) n (suc place) = bytes_of_number width (n / 256) place

bytes_after : (before rest : List ℕ) → IsBytes before → IsBytes rest → IsBytes (before ++ rest)
bytes_after [] rest first second place = second place
bytes_after (x ∷ before) rest first second zero = first 0
bytes_after (x ∷ before) rest first second (suc place) = bytes_after before rest (λ i. first (suc i)) second place

bytes_of_each : {A : Type 0} (encode : A → List ℕ) → ((x : A) → IsBytes (encode x)) → (entries : List A) → IsBytes (encode_each encode entries)
unfolding encode_each
bytes_of_each encode each [] place = omega arith
bytes_of_each encode each (x ∷ entries) place = bytes_after (encode x) _ (each x) (bytes_of_each encode each entries) place

-- a count, then a part of each entry, then the rest of each entry
bytes_of_table : {A : Type 0} (first second : A → List ℕ) → ((x : A) → IsBytes (first x)) → ((x : A) → IsBytes (second x))
    → (entries : List A) → IsBytes (bytes16 (length entries) ++ (encode_each first entries ++ encode_each second entries))
bytes_of_table first second firsts seconds entries =
    bytes_after (bytes16 (length entries)) (encode_each first entries ++ encode_each second entries) (bytes_of_number 2 (length entries))
    (bytes_after (encode_each first entries) (encode_each second entries)
    (bytes_of_each first firsts entries) (bytes_of_each second seconds entries))

pub bytes_of_levels : (levels : List Level) → IsBytes (encode_levels levels)
unfolding encode_levels
bytes_of_levels =
    bytes_of_table (λ level. bytes16 level.frequency) (λ level. bytes16 level.voltage)
    (λ level. bytes_of_number 2 level.frequency) (λ level. bytes_of_number 2 level.voltage)

pub bytes_of_jobs : (jobs : List Job) → IsBytes (encode_jobs jobs)
unfolding encode_jobs
bytes_of_jobs =
    bytes_of_table (λ job. bytes32 job.release ++ bytes32 job.deadline) (λ job. bytes32 job.cycles)
    (λ job. bytes_after (bytes32 job.release) (bytes32 job.deadline) (bytes_of_number 4 job.release) (bytes_of_number 4 job.deadline))
    (λ job. bytes_of_number 4 job.cycles)

pub bytes_of_marks : (marks : List ℕ) → IsBytes (encode_marks marks)
unfolding encode_marks
bytes_of_marks marks =
    bytes_after (bytes16 (length marks)) (encode_each bytes32 marks) (bytes_of_number 2 (length marks))
    (bytes_of_each bytes32 (λ mark. bytes_of_number 4 mark) marks)

pub encodings_are_bytes : EncodingsAreBytes
encodings_are_bytes = (bytes_of_levels, bytes_of_jobs, bytes_of_marks)
