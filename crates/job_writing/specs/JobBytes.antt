-- The two parts of a job table in bytes, from the arrays that the jobs stand in (document 01, "Tables in bytes"): windows
-- (release, deadline), 32 bits each; cycles, 32 bits each.
use Rattle.std.specs.Prelude.{ℕ, List, ◌++◌, get_or}
use Rattle.model.specs.Bytes.{bytes32}
use Rattle.model.specs.Entries.{list_of, encode_each}

-- The windows of the first `count` jobs.
abbrev pub window_bytes : (count : ℕ) → (releases deadlines : List ℕ) → List ℕ
window_bytes count releases deadlines = encode_each (λ j. bytes32 (get_or releases j 0) ++ bytes32 (get_or deadlines j 0)) (list_of count (λ j. j))

abbrev pub job_cycle_bytes : (count : ℕ) → (cycles : List ℕ) → List ℕ
job_cycle_bytes count cycles = encode_each bytes32 (list_of count (λ j. get_or cycles j 0))
