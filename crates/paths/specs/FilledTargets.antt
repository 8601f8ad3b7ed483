-- Placing a job, of shares, room and sets of jobs in plain arrays, and filling a target along its path.
use Rattle.std.specs.Prelude.{ℕ, suc, ◌-◌, ◌*◌, ◌<◌, ◌≤◌, List, length}
use Rattle.model.specs.Plans.{shares_in}
use Rattle.workloads.specs.Workloads.{Workload}
use Rattle.workloads.specs.Arrays.{numbers_in, problem_in, SoundWorkload, RoomAt, Holding, lent_windows, KeptPast}
use Rattle.searching.specs.Reaching.{SearchState, Reaching, HasRoom}
use Rattle.paths.specs.declared.Turn.{Turn}
use Rattle.paths.specs.Placing.{Placing}

-- The shares in their table, and beside it for each interval the room at a frequency and the set of the jobs with a share there.
pub record StoredShares (work : Workload) (table room holders : List ℕ) (frequency : ℕ) : Type 0 where
  pub sound : SoundWorkload work
  pub table-length : work.intervals * work.jobs ≤ length table
  pub room_at : RoomAt (problem_in work) (shares_in work.jobs table) frequency room
  pub holding : Holding (problem_in work) (shares_in work.jobs table) holders

-- While a job is placed at a band.
pub record PlacingTables (work : Workload) (table room holders : List ℕ) (prices lefts : ℕ → ℕ) (job left band : ℕ) : Type 0 where
  pub stored : StoredShares work table room holders (numbers_in work.frequency (suc band))
  pub placing : Placing (problem_in work) (shares_in work.jobs table) prices lefts job left band

-- To a function that is not lent the prices: with some prices, a job is being placed, and a target with room is reached.
pub record CanFill (work : Workload) (table room holders : List ℕ) (found : SearchState) (band left : ℕ) : Type 0 where
  pub lacks : 0 < left
  pub has_room : HasRoom (problem_in work) (shares_in work.jobs table) band found
  pub prices : ℕ → ℕ
  pub lefts : ℕ → ℕ
  pub job : ℕ
  pub tables : PlacingTables work table room holders prices lefts job left band
  pub reaching : Reaching (problem_in work) (shares_in work.jobs table) job found

-- With any such prices, `amount` of the cycles left are placed.
pub record Filled (work : Workload) (before after room holders : List ℕ) (found : SearchState) (band left amount : ℕ) : Type 0 where
  pub some : 0 < amount
  pub most : amount ≤ left
  pub stored : StoredShares work after room holders (numbers_in work.frequency (suc band))
  pub kept : KeptPast (work.intervals * work.jobs) before after
  pub placing : (prices lefts : ℕ → ℕ) (job : ℕ)
      → Placing (problem_in work) (shares_in work.jobs before) prices lefts job left band
      → Reaching (problem_in work) (shares_in work.jobs before) job found
      → Placing (problem_in work) (shares_in work.jobs after) prices lefts job (left - amount) band

-- To a function that is lent the windows of a workload alone: a target can be filled, of some such workload, and it is, of each.
abbrev pub WindowsFill : (first last table room holders : List ℕ) → SearchState → Turn → Type 0
WindowsFill first last table room holders found turn =
    (work : Workload) × (band : ℕ) × CanFill (lent_windows work turn.jobs first last) table room holders found band turn.left

abbrev pub WindowsFilled : (first last before room-before holders-before after room holders : List ℕ) → SearchState → Turn → (amount : ℕ) → Type 0
WindowsFilled first last before room-before holders-before after room holders found turn amount =
    (work : Workload) (band : ℕ) → CanFill (lent_windows work turn.jobs first last) before room-before holders-before found band turn.left
    → Filled (lent_windows work turn.jobs first last) before after room holders found band turn.left amount
