-- A job table that is written part by part: its windows, its cycles, and the whole table.
-- Assumes nothing.
use mathlib.Core.Path.{◌≡◌, refl, ap}
use mathlib.Core.List.{List, ◌++◌, append_assoc}
use Prim.Native.Nat.{ℕ, zero, suc, ◌+◌, ◌*◌, ◌<◌, ◌≤◌}
use native.Mathlib.Omega.{arith}
use lib.ListN.{length, take, drop, get_or, length-append, length-take}
use lib.Seq.{sets, get_or-take}
use Rattle.model.specs.declared.Job.{Job}
use Rattle.model.specs.Bytes.{bytes16, bytes32}
use Rattle.model.specs.Entries.{list_of, encode_each}
use Rattle.model.specs.Jobs.{encode_jobs}
use Rattle.model.proofs.Bytes.{length_bytes_of}
use Rattle.model.proofs.Entries.{length_list_of, length_encode_each}
use Rattle.model.proofs.Jobs.{length_encode_jobs}
use Rattle.job_tables.specs.Tables.{jobs_in}
use Rattle.job_tables.proofs.Read.{length_jobs_in}
use Rattle.job_writing.specs.JobBytes.{window_bytes, job_cycle_bytes}
use Rattle.writing.proofs.Stores.{sets_after, sets_front}
use Rattle.writing.proofs.NumberStores.{numbers_none, length_numbers, numbers_next, numbers_whole, listed_by_place}

-- a window in bytes, and its size
abbrev window : (releases deadlines : List ℕ) → ℕ → List ℕ
window releases deadlines j = bytes32 (get_or releases j 0) ++ bytes32 (get_or deadlines j 0)

length_window : (releases deadlines : List ℕ) (j : ℕ) → length (window releases deadlines j) ≡ 8
length_window releases deadlines j = simp (length-append, length_bytes_of)

-- a release and the deadline after it are a window
window_put : (releases deadlines out first second : List ℕ) (j : ℕ)
    → first ≡ sets out (2 + 8 * j) (bytes32 (get_or releases j 0)) → second ≡ sets first (6 + 8 * j) (bytes32 (get_or deadlines j 0))
    → second ≡ sets out (2 + 8 * j) (window releases deadlines j)
window_put releases deadlines out first second j one two =
    rw (two, one) (sets_after out (2 + 8 * j) (6 + 8 * j) (bytes32 (get_or releases j 0)) (bytes32 (get_or deadlines j 0)) (omega (arith, length_bytes_of 4 (get_or releases j 0))))

-- the first windows are written
module _ (releases deadlines before : List ℕ) where
  abbrev pub WindowsPut : (j : ℕ) → List ℕ → Type 0
  WindowsPut j out = out ≡ sets before 2 (window_bytes j releases deadlines)

  pub windows_none : WindowsPut 0 before
  windows_none = numbers_none (window releases deadlines) 8 (length_window releases deadlines) 2 (λ j. j) before

  pub windows_long : (j : ℕ) (out : List ℕ) → WindowsPut j out → length out ≡ length before
  windows_long = length_numbers (window releases deadlines) 8 (length_window releases deadlines) 2 (λ j. j) before

  pub windows_next : (j : ℕ) (out first second : List ℕ) → WindowsPut j out
      → first ≡ sets out (2 + 8 * j) (bytes32 (get_or releases j 0)) → second ≡ sets first (6 + 8 * j) (bytes32 (get_or deadlines j 0))
      → WindowsPut (j + 1) second
  windows_next j out first second put one two =
      numbers_next (window releases deadlines) 8 (length_window releases deadlines) 2 (λ j. j) before j out second put
      (window_put releases deadlines out first second j one two)

  pub windows_whole : (j count : ℕ) (out : List ℕ) → WindowsPut j out → j ≤ count → count ≤ j → WindowsPut count out
  windows_whole = numbers_whole (window releases deadlines) 8 (length_window releases deadlines) 2 (λ j. j) before

-- elements with the same bytes, one by one
same_bytes : {A B : Type 0} (encode : A → List ℕ) (other : B → List ℕ) (n : ℕ) (f : ℕ → A) (g : ℕ → B)
    → ((i : ℕ) → i < n → encode (f i) ≡ other (g i)) → encode_each encode (list_of n f) ≡ encode_each other (list_of n g)
unfolding encode_each list_of
same_bytes encode other zero f g same = refl
same_bytes encode other (suc n) f g same =
    rw (same 0 (omega arith), same_bytes encode other n (λ i. f (suc i)) (λ i. g (suc i)) (λ i below. same (suc i) (omega arith)))

-- the cycles that are written are those of the first jobs
pub cycles_are : (cycles : List ℕ) (count : ℕ) → count ≤ length cycles → encode_each bytes32 (take count cycles) ≡ job_cycle_bytes count cycles
cycles_are cycles count long =
    ap (encode_each bytes32)
    (listed_by_place (take count cycles) count _ (omega (arith, length-take count cycles)) (λ i below. get_or-take count cycles i 0 below))

module _ (count : ℕ) (releases deadlines cycles : List ℕ) where
  length_windows : length (window_bytes count releases deadlines) ≡ 8 * count
  length_windows = rw (length_encode_each (window releases deadlines) 8 (length_window releases deadlines), length_list_of)

  -- the parts of the table are those of its jobs
  table_parts : encode_jobs (jobs_in count releases deadlines cycles) ≡ bytes16 count ++ (window_bytes count releases deadlines ++ job_cycle_bytes count cycles)
  unfolding encode_jobs jobs_in
  table_parts =
      let jobs : ℕ → Job = λ j. record { release = get_or releases j 0; deadline = get_or deadlines j 0; cycles = get_or cycles j 0 } in
      rw (
        length_list_of,
        same_bytes (λ (job : Job). bytes32 job.release ++ bytes32 job.deadline) (window releases deadlines) count jobs (λ j. j) (λ j below. refl),
        same_bytes (λ (job : Job). bytes32 job.cycles) bytes32 count jobs (λ j. get_or cycles j 0) (λ j below. refl),
      )

  length_table : length (encode_jobs (jobs_in count releases deadlines cycles)) ≡ 2 + 12 * count
  length_table = rw (length_encode_jobs, length_jobs_in)

  -- the count, the windows and the cycles one after another
  pub whole_job_table : (before first second after : List ℕ) → 2 + 12 * count ≤ length before
      → first ≡ sets before 0 (bytes16 count) → second ≡ sets first 2 (window_bytes count releases deadlines)
      → after ≡ sets second (2 + 8 * count) (job_cycle_bytes count cycles)
      → after ≡ encode_jobs (jobs_in count releases deadlines cycles) ++ drop (2 + 12 * count) before
  whole_job_table before first second after room one two three =
      let counted : List ℕ = bytes16 count ++ window_bytes count releases deadlines in
      let long : length counted ≡ 2 + 8 * count = simp (length-append, length_bytes_of) (omega (arith, length_windows)) in
      rw (
        three,
        two,
        one,
        sets_after before 0 2 (bytes16 count) (window_bytes count releases deadlines) (omega (arith, length_bytes_of 2 count)),
        sets_after before 0 (2 + 8 * count) counted (job_cycle_bytes count cycles) (omega arith),
        append_assoc (bytes16 count) (window_bytes count releases deadlines) (job_cycle_bytes count cycles),
        ← table_parts,
      )
      (sets_front before (encode_jobs (jobs_in count releases deadlines cycles)) (2 + 12 * count) length_table room)
