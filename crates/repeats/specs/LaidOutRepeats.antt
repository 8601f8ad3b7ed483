-- Tasks laid out over several multiples of their periods (document 02, Change 1).
use Rattle.std.specs.Prelude.{ℕ, ◌*◌, ◌≡◌, List}
use Rattle.tasks.specs.declared.Task.{Task}
use Rattle.tasks.specs.Tasks.{ValidTasks}
use Rattle.tasks.specs.Multiples.{CommonMultiple}
use Rattle.tasks.specs.LaidOut.{lay_out}
use Rattle.repeats.specs.Repeats.{repeat_jobs}

-- Laid out over r × H ticks, H a common multiple of the periods, tasks release exactly the jobs of r repeats of the first H
-- ticks, in the same order. Proved in proofs/LaidOutRepeats.antt.
abbrev pub LaidOutRepeats : Type 0
LaidOutRepeats =
    (tasks : List Task) → ValidTasks tasks → (H : ℕ) → CommonMultiple tasks H
    → (r : ℕ) → lay_out tasks (r * H) ≡ repeat_jobs H r (lay_out tasks H)
