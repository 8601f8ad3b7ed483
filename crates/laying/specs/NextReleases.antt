-- The next release of each task, and the earliest of these.
use Rattle.std.specs.Prelude.{ℕ, ◌<◌, ◌≤◌, ◌≡◌, true, false, List, length, get_or}
use Rattle.tasks.specs.declared.Task.{Task}
use Rattle.tasks.specs.Tasks.{max_tasks, task_of}
use Rattle.tasks.specs.LaidOut.{releases_at}

-- The first release of a task at or after a tick.
pub record NextRelease (task : Task) (tick next : ℕ) : Type 0 where
  pub not_before : tick ≤ next
  pub released : releases_at task next ≡ true
  pub none_between : (t : ℕ) → tick ≤ t → t < next → releases_at task t ≡ false

-- That of every task, in an array.
pub record NextReleases (tasks : List Task) (tick : ℕ) (next : List ℕ) : Type 0 where
  pub room : length next ≡ max_tasks
  pub each : (i : ℕ) → i < length tasks → NextRelease (task_of tasks i) tick (get_or next i 0)

-- The earliest of the first `count` next releases and of the end: none is before it, and no later tick has that.
pub record Earliest (next : List ℕ) (count end least : ℕ) : Type 0 where
  pub by_end : least ≤ end
  pub by_releases : (i : ℕ) → i < count → least ≤ get_or next i 0
  pub greatest : (n : ℕ) → n ≤ end → ((i : ℕ) → i < count → n ≤ get_or next i 0) → n ≤ least
