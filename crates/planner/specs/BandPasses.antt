-- What the functions that place jobs along paths at a band ask and promise. They are lent the windows of a workload: what they ask
-- holds of some such workload, and what they promise holds of each.
use Rattle.std.specs.Prelude.{ℕ, ◌+◌, ◌*◌, ◌<◌, ◌≡◌, List, length, set}
use Rattle.model.specs.Limits.{max_intervals}
use Rattle.model.specs.Plans.{shares_in}
use Rattle.workloads.specs.Workloads.{Workload}
use Rattle.workloads.specs.RangesFit.{RangesFit}
use Rattle.workloads.specs.Arrays.{numbers_in, problem_in, lent_windows, KeptPast}
use Rattle.searching.specs.Reached.{Closed}
use Rattle.paths.specs.declared.Turn.{Turn}
use Rattle.paths.specs.FilledTargets.{PlacingTables}
use Rattle.filling.specs.Filling.{FillingTables}
use Rattle.planner.specs.declared.moving.Rest.{Rest}

-- All but what is left of a job's cycles are placed; where some are left, the search from it is closed.
pub record JobMoved (work : Workload) (before table room holders : List ℕ) (prices lefts : ℕ → ℕ) (job band : ℕ) (rest : Rest) : Type 0 where
  pub kept : KeptPast (work.intervals * work.jobs) before table
  pub tables : PlacingTables work table room holders prices lefts job rest.left band
  pub closed : 0 < rest.left → Closed (problem_in work) (shares_in work.jobs table) job band rest.start rest.end

-- To a function that is not lent the prices: with some prices, a job is being placed, and with any such it is moved.
abbrev pub WindowsPlace : (first last table room holders : List ℕ) → Turn → Type 0
WindowsPlace first last table room holders turn =
    (work : Workload) × (band : ℕ) × (prices : ℕ → ℕ) × (lefts : ℕ → ℕ)
    × PlacingTables (lent_windows work turn.jobs first last) table room holders prices lefts turn.job turn.left band

abbrev pub WindowsPlaced : (first last before room-before holders-before table room holders : List ℕ) → Turn → Rest → Type 0
WindowsPlaced first last before room-before holders-before table room holders turn rest =
    (work : Workload) (band : ℕ) (prices lefts : ℕ → ℕ)
    → PlacingTables (lent_windows work turn.jobs first last) before room-before holders-before prices lefts turn.job turn.left band
    → JobMoved (lent_windows work turn.jobs first last) before table room holders prices lefts turn.job band rest

-- The pass along paths has come to job number `count`.
pub record CanRaise (work : Workload) (table room holders prices left : List ℕ) (band count : ℕ) : Type 0 where
  pub fit : RangesFit (problem_in work)
  pub prices_length : length prices ≡ max_intervals
  pub tables : FillingTables work table room holders left (numbers_in prices) band count

-- It is a job's turn in the pass, and an array has what is left of each.
pub record CanRaiseJob (work : Workload) (table room holders prices left : List ℕ) (band : ℕ) (turn : Turn) : Type 0 where
  pub job_below : turn.job < work.jobs
  pub left_is : numbers_in left turn.job ≡ turn.left
  pub can : CanRaise work table room holders prices left band turn.job

abbrev pub TurnRaise : (first last table room holders prices : List ℕ) → (band : ℕ) → Turn → Type 0
TurnRaise first last table room holders prices band turn =
    (work : Workload) × (left : List ℕ) × CanRaiseJob (lent_windows work turn.jobs first last) table room holders prices left band turn

-- With what is left of the job then, it is the next one's turn.
abbrev pub TurnRaised : (first last before room-before holders-before prices-before table room holders prices : List ℕ) → (band : ℕ) → Turn → (rest : ℕ) → Type 0
TurnRaised first last before room-before holders-before prices-before table room holders prices band turn rest =
    (work : Workload) (left : List ℕ)
    → CanRaiseJob (lent_windows work turn.jobs first last) before room-before holders-before prices-before left band turn
    → KeptPast (work.intervals * turn.jobs) before table
    × CanRaise (lent_windows work turn.jobs first last) table room holders prices (set left turn.job rest) band (turn.job + 1)

-- The pass can go over all jobs, and it has.
abbrev pub WindowsRaise : (jobs : ℕ) → (first last table room holders prices left : List ℕ) → (band : ℕ) → Type 0
WindowsRaise jobs first last table room holders prices left band =
    (work : Workload) × CanRaise (lent_windows work jobs first last) table room holders prices left band 0

abbrev pub WindowsRaised : (jobs : ℕ) → (first last before room-before holders-before prices-before left-before table room holders prices left : List ℕ)
    → (band count : ℕ) → Type 0
WindowsRaised jobs first last before room-before holders-before prices-before left-before table room holders prices left band count =
    (work : Workload) → CanRaise (lent_windows work jobs first last) before room-before holders-before prices-before left-before band 0
    → KeptPast (work.intervals * jobs) before table
    × CanRaise (lent_windows work jobs first last) table room holders prices left band count
