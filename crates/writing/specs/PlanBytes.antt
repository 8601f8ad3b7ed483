-- A plan in bytes (document 01, "Tables in bytes"): N and step count S, 16 bits each; cells, 16 bits each; cycles, 32 bits each.
use Rattle.std.specs.Prelude.{ℕ, ◌+◌, ◌*◌, List, ◌++◌, length}
use Rattle.std.proofs.lemmas.List.Edits.{sets}
use Rattle.model.specs.Bytes.{bytes16, bytes32}
use Rattle.model.specs.Entries.{encode_each}
use Rattle.model.specs.Steps.{Step, cell_of}

abbrev pub cell_bytes : List Step → List ℕ
cell_bytes steps = encode_each (λ step. bytes16 (cell_of step.interval step.job)) steps

abbrev pub cycle_bytes : List Step → List ℕ
cycle_bytes steps = encode_each (λ step. bytes32 step.cycles) steps

unfoldable pub encode_plan : (intervals : ℕ) → List Step → List ℕ
encode_plan intervals steps = bytes16 intervals ++ (bytes16 (length steps) ++ (cell_bytes steps ++ cycle_bytes steps))

-- The bytes of a plan of `count` steps after some steps are written, the first of them as step number `first`.
unfoldable pub with_steps : (count first : ℕ) → List Step → (plan : List ℕ) → List ℕ
with_steps count first steps plan =
    sets (sets plan (4 + 2 * first) (cell_bytes steps)) (4 + 2 * count + 4 * first) (cycle_bytes steps)
