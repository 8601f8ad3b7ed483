-- What the functions that fill the jobs' own windows at a band ask and promise. They are lent the windows of a workload, or less:
-- what they ask holds of some such workload, with some prices, and what they promise holds of each.
use Rattle.std.specs.Prelude.{ℕ, ◌*◌, ◌<◌, ◌≤◌, ◌≡◌, List, set}
use Rattle.workloads.specs.Workloads.{Workload}
use Rattle.workloads.specs.Placement.{Open}
use Rattle.workloads.specs.Arrays.{numbers_in, problem_in, lent_jobs, lent_windows, KeptPast}
use Rattle.paths.specs.declared.Turn.{Turn}
use Rattle.paths.specs.FilledTargets.{PlacingTables}
use Rattle.filling.specs.Filling.{FillingTables}

-- A job is being placed, and is open in each interval from start up to, not including, end.
pub record CanFillRange (work : Workload) (table room holders : List ℕ) (prices lefts : ℕ → ℕ) (band : ℕ) (turn : Turn) (start end : ℕ) : Type 0 where
  pub tables : PlacingTables work table room holders prices lefts turn.job turn.left band
  pub is_open_true : (i : ℕ) → start ≤ i → i < end → Open (problem_in work) i turn.job

abbrev pub RangeFill : (table room holders : List ℕ) → Turn → (start end : ℕ) → Type 0
RangeFill table room holders turn start end =
    (work : Workload) × (band : ℕ) × (prices : ℕ → ℕ) × (lefts : ℕ → ℕ)
    × CanFillRange (lent_jobs work turn.jobs) table room holders prices lefts band turn start end

-- All but `rest` of its cycles are placed.
abbrev pub RangeFilled : (before room-before holders-before table room holders : List ℕ) → Turn → (start end rest : ℕ) → Type 0
RangeFilled before room-before holders-before table room holders turn start end rest =
    (work : Workload) (band : ℕ) (prices lefts : ℕ → ℕ)
    → CanFillRange (lent_jobs work turn.jobs) before room-before holders-before prices lefts band turn start end
    → KeptPast (work.intervals * turn.jobs) before table
    × PlacingTables (lent_jobs work turn.jobs) table room holders prices lefts turn.job rest band

-- It is a job's turn between two jobs, and an array has what is left of each.
pub record CanFillJob (work : Workload) (table room holders left : List ℕ) (prices : ℕ → ℕ) (band : ℕ) (turn : Turn) : Type 0 where
  pub job_below : turn.job < work.jobs
  pub left_is : numbers_in left turn.job ≡ turn.left
  pub tables : FillingTables work table room holders left prices band 0

abbrev pub TurnFill : (first last table room holders : List ℕ) → Turn → Type 0
TurnFill first last table room holders turn =
    (work : Workload) × (band : ℕ) × (prices : ℕ → ℕ) × (left : List ℕ)
    × CanFillJob (lent_windows work turn.jobs first last) table room holders left prices band turn

-- With what is left of the job then, it is the next one's turn.
abbrev pub TurnFilled : (first last before room-before holders-before table room holders : List ℕ) → Turn → (rest : ℕ) → Type 0
TurnFilled first last before room-before holders-before table room holders turn rest =
    (work : Workload) (band : ℕ) (prices : ℕ → ℕ) (left : List ℕ)
    → CanFillJob (lent_windows work turn.jobs first last) before room-before holders-before left prices band turn
    → KeptPast (work.intervals * turn.jobs) before table
    × FillingTables (lent_windows work turn.jobs first last) table room holders (set left turn.job rest) prices band 0

-- Jobs can be placed at a band.
abbrev pub WindowsPass : (jobs : ℕ) → (first last table room holders left : List ℕ) → Type 0
WindowsPass jobs first last table room holders left =
    (work : Workload) × (band : ℕ) × (prices : ℕ → ℕ) × FillingTables (lent_windows work jobs first last) table room holders left prices band 0

-- They still can: what was put into the windows is a right start for what goes along paths at this band. More is not promised, so
-- that a function that puts nothing there would meet it too: least energy rests on the paths alone (`WindowsRaised` of the planner), and filled
-- windows only save searches.
abbrev pub WindowsPassed : (jobs : ℕ) → (first last before room-before holders-before left-before table room holders left : List ℕ) → Type 0
WindowsPassed jobs first last before room-before holders-before left-before table room holders left =
    (work : Workload) (band : ℕ) (prices : ℕ → ℕ)
    → FillingTables (lent_windows work jobs first last) before room-before holders-before left-before prices band 0
    → KeptPast (work.intervals * jobs) before table × FillingTables (lent_windows work jobs first last) table room holders left prices band 0
