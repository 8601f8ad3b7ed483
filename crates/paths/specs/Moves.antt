-- Moving cycles along a path, in plain arrays.
use Rattle.std.specs.Prelude.{ℕ, suc, ◌+◌, ◌-◌, ◌*◌, ◌<◌, ◌≤◌, ◌≡◌, List, length, get_or, set, eqb}
use Rattle.model.specs.Limits.{max_jobs, max_intervals}
use Rattle.model.specs.Sum.{only_if}
use Rattle.model.specs.Plans.{Shares, shares_in}
use Rattle.job_sets.specs.IntervalSets.{Removed}
use Rattle.workloads.specs.Workloads.{Workload}
use Rattle.workloads.specs.Placement.{Problem, load_of}
use Rattle.workloads.specs.Arrays.{numbers_in, problem_in, SoundWorkload, Holding, lent_windows, KeptPast}
use Rattle.searching.specs.Reaching.{SearchState, Reaching, with_windows}
use Rattle.paths.specs.Paths.{SomeOpen, Routed, Passes}
use Rattle.paths.specs.Placing.{Placing}

-- One number of a table grown by an amount, and one less by it.
abbrev pub put_at : List ℕ → (place amount : ℕ) → List ℕ
put_at table place amount = set table place (get_or table place 0 + amount)

abbrev pub taken_at : List ℕ → (place amount : ℕ) → List ℕ
taken_at table place amount = set table place (get_or table place 0 - amount)

-- The sets of the jobs with a share, where the share of a job in an interval falls by an amount: it leaves the set where no share
-- is left.
pub record Lessened (before after : List ℕ) (interval job share amount : ℕ) : Type 0 where
  pub leaves : share ≡ amount → Removed before after interval job
  pub stays : (share ≡ amount → ⊥) → after ≡ before

-- `amount` cycles can go along the path from the target back to the job being placed.
abbrev pub PathPasses : Workload → (table : List ℕ) → SearchState → (amount : ℕ) → Type 0
PathPasses work table found amount =
    Passes (problem_in work) (shares_in work.jobs table) found.count (numbers_in found.reached) (numbers_in found.source) amount found.target

-- The route holds the numbers of the reached jobs on that path.
abbrev pub HoldsPath : Workload → SearchState → (route : List ℕ) → Type 0
HoldsPath work found route =
    Routed (problem_in work) found.count (numbers_in found.reached) (numbers_in found.source) found.target (numbers_in route)

-- To a function that is lent the windows alone: some reached job is open in an interval, of some such problem.
pub record CanFind (first last reached : List ℕ) (interval : ℕ) : Type 0 where
  pub problem : Problem
  pub jobs : ℕ
  pub count : ℕ
  pub count_most : count ≤ max_jobs
  pub jobs_below : (s : ℕ) → s < count → numbers_in reached s < max_jobs
  pub interval_below : interval < max_intervals
  pub some_open : SomeOpen (with_windows problem jobs first last) count (numbers_in reached) interval

-- The path from a reached target can be walked.
pub record CanWalk (work : Workload) (table : List ℕ) (found : SearchState) : Type 0 where
  pub jobs_most : work.jobs ≤ max_jobs
  pub intervals_most : work.intervals ≤ max_intervals
  pub table-length : work.intervals * work.jobs ≤ length table
  pub job : ℕ
  pub reaching : Reaching (problem_in work) (shares_in work.jobs table) job found
  pub from : found.start ≤ found.target
  pub to : found.target < found.end

-- While a job is placed at a band, a reached target has room for `amount` cycles.
pub record ToMove (p : Problem) (shares : Shares) (prices lefts : ℕ → ℕ) (job left band : ℕ) (found : SearchState) (amount : ℕ) : Type 0 where
  pub placing : Placing p shares prices lefts job left band
  pub reaching : Reaching p shares job found
  pub from : found.start ≤ found.target
  pub to : found.target < found.end
  pub some : 0 < amount
  pub room : load_of p shares found.target + amount ≤ p.size found.target * p.frequency (suc band)

-- The amount is placed: only the load of the target has changed.
pub record Moved (p : Problem) (before after : Shares) (prices lefts : ℕ → ℕ) (job left band : ℕ) (target amount : ℕ) : Type 0 where
  pub placing : (rest : ℕ) → left ≡ rest + amount → Placing p after prices lefts job rest band
  pub loads : (i : ℕ) → i < p.intervals → load_of p after i ≡ load_of p before i + only_if (eqb i target) amount

-- To a function that is not lent the prices: with some prices, a job is placed and the path passes the amount.
pub record CanMove (work : Workload) (table holders route : List ℕ) (found : SearchState) (amount : ℕ) : Type 0 where
  pub sound : SoundWorkload work
  pub table-length : work.intervals * work.jobs ≤ length table
  pub holding : Holding (problem_in work) (shares_in work.jobs table) holders
  pub passes : PathPasses work table found amount
  pub routed : HoldsPath work found route
  pub prices : ℕ → ℕ
  pub lefts : ℕ → ℕ
  pub job : ℕ
  pub left : ℕ
  pub band : ℕ
  pub to_move : ToMove (problem_in work) (shares_in work.jobs table) prices lefts job left band found amount

-- With any such prices the amount is placed.
abbrev pub Moves : Workload → (before after : List ℕ) → SearchState → (amount : ℕ) → Type 0
Moves work before after found amount =
    (prices lefts : ℕ → ℕ) (job left band : ℕ) → ToMove (problem_in work) (shares_in work.jobs before) prices lefts job left band found amount
    → Moved (problem_in work) (shares_in work.jobs before) (shares_in work.jobs after) prices lefts job left band found.target amount

-- To functions that are lent the windows of a workload alone: the path can be walked, of some such workload, and `amount`
-- cycles can go along it and the route holds it, of each.
abbrev pub WindowsWalk : (jobs : ℕ) → (first last table : List ℕ) → SearchState → Type 0
WindowsWalk jobs first last table found = (work : Workload) × CanWalk (lent_windows work jobs first last) table found

abbrev pub WindowsPass : (jobs : ℕ) → (first last table route : List ℕ) → SearchState → (amount : ℕ) → Type 0
WindowsPass jobs first last table route found amount =
    (work : Workload) → CanWalk (lent_windows work jobs first last) table found
    → PathPasses (lent_windows work jobs first last) table found amount × HoldsPath (lent_windows work jobs first last) found route

-- To a function that is lent a route and no windows: `amount` cycles can be moved, of some workload, and they are, of each.
abbrev pub RouteMove : (jobs : ℕ) → (table holders route : List ℕ) → SearchState → (amount : ℕ) → Type 0
RouteMove jobs table holders route found amount =
    (work : Workload) × (first : List ℕ) × (last : List ℕ) × CanMove (lent_windows work jobs first last) table holders route found amount

-- What a move leaves.
pub record MovedTables (work : Workload) (before after holders : List ℕ) (found : SearchState) (amount : ℕ) : Type 0 where
  pub kept : KeptPast (work.intervals * work.jobs) before after
  pub holding : Holding (problem_in work) (shares_in work.jobs after) holders
  pub moves : Moves work before after found amount

abbrev pub RouteMoved : (jobs : ℕ) → (before holders-before route after holders : List ℕ) → SearchState → (amount : ℕ) → Type 0
RouteMoved jobs before holders-before route after holders found amount =
    (work : Workload) (first last : List ℕ) → CanMove (lent_windows work jobs first last) before holders-before route found amount
    → MovedTables (lent_windows work jobs first last) before after holders found amount
