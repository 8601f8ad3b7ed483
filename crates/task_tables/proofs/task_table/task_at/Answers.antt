-- `task_table::task_at` meets its contract: its four numbers stand where the definition has them. Assumes nothing.
use mathlib.Core.Path.{◌≡◌}
use mathlib.Core.List.{List}
use Prim.Native.Nat.{ℕ, ◌+◌, ◌*◌}
use Rattle.model.specs.Bytes.{number32}
use Rattle.tasks.specs.Tasks.{task_count, task_at}
use Rattle.task_tables.proofs.task_table.task_at.Goals as goal

-- the four numbers of a task
task-of : (bytes : List ℕ) (count i : ℕ) → count ≡ task_count bytes → {phase period deadline cycles : ℕ}
    → phase ≡ number32 bytes (2 + 8 * i) → period ≡ number32 bytes (2 + 8 * i + 4)
    → deadline ≡ number32 bytes (2 + 8 * count + 8 * i) → cycles ≡ number32 bytes (2 + 8 * count + 8 * i + 4)
    → record { phase = phase; period = period; deadline = deadline; cycles = cycles } ≡ task_at bytes i
unfolding task_at
task-of bytes count i counted one two three four = rw (one, two, three, four, counted)

pub returns : goal.returns
returns c =
    task-of c.args.bytes.now c.args.count c.args.i c.requires.task_bytes.counted
    c.number32.ensures c.number32-2.ensures c.number32-3.ensures c.number32-4.ensures
