-- Filling loads anew, in plain arrays: between two intervals, and in one.
use Rattle.std.specs.Prelude.{ℕ, suc, ◌*◌, ◌<◌, ◌≤◌, ◌≡◌, true, false, ◌⊎◌, ◌↔◌, List, length}
use Rattle.model.specs.Limits.{max_jobs, max_bounds}
use Rattle.model.specs.Plans.{shares_in}
use Rattle.job_sets.specs.declared.JobSet.{JobSet}
use Rattle.job_sets.specs.JobSets.{is_member, no_jobs}
use Rattle.job_sets.specs.IntervalSets.{set_in}
use Rattle.workloads.specs.Workloads.{Workload}
use Rattle.workloads.specs.Placement.{Open}
use Rattle.workloads.specs.Arrays.{numbers_in, problem_in, SoundWorkload, Holding, KeptPast}
use Rattle.loads.specs.Loads.{Fillable}
use Rattle.loads.specs.Refilled.{Refilling, Refilled}
use Rattle.refilling.specs.declared.rows.Row.{Row}

-- A workload with other jobs: their number, the intervals, where each ends, and their cycles.
abbrev pub lent_cycles : Workload → (jobs intervals : ℕ) → (last cycles : List ℕ) → Workload
lent_cycles work jobs intervals last cycles =
    record {
      jobs = jobs;
      intervals = intervals;
      bands = work.bands;
      first = work.first;
      last = last;
      cycles = cycles;
      size = work.size;
      frequency = work.frequency;
    }

-- The same without the cycles.
abbrev pub lent_lasts : Workload → (jobs intervals : ℕ) → (last : List ℕ) → Workload
lent_lasts work jobs intervals last = lent_cycles work jobs intervals last work.cycles

-- For each interval a set has the jobs that are open there, and no other.
pub record OpenSets (work : Workload) (sets : List ℕ) : Type 0 where
  pub open_are : (i j : ℕ) → i < work.intervals → (is_member (set_in sets i) j ≡ true) ↔ ((j < work.jobs) × Open (problem_in work) i j)

-- Some cells are filled: those before job `count` in interval i.
pub record RefillTables (work : Workload) (loads : ℕ → ℕ) (table holders left cross : List ℕ) (i count : ℕ) : Type 0 where
  pub sound : SoundWorkload work
  pub fillable : Fillable (problem_in work) loads
  pub room : work.intervals * work.jobs ≤ length table
  pub holding : Holding (problem_in work) (shares_in work.jobs table) holders
  pub left_length : length left ≡ max_jobs
  pub cross_length : length cross ≡ max_bounds
  pub refilling : Refilling (problem_in work) loads (shares_in work.jobs table) (numbers_in left) (numbers_in cross) i count

-- Nothing must cross the bound `uncrossed`, which is not before `low`, and for each bound `next` has a later one that nothing must cross.
pub record Uncrossed (intervals low uncrossed : ℕ) (cross next : List ℕ) : Type 0 where
  pub late : low ≤ uncrossed
  pub inside : uncrossed ≤ intervals
  pub none : numbers_in cross uncrossed ≡ 0
  pub next_length : length next ≡ max_bounds
  pub next_late : (b : ℕ) → b < intervals → b < numbers_in next b
  pub next_inside : (b : ℕ) → b < intervals → numbers_in next b ≤ intervals
  pub next_none : (b : ℕ) → b < intervals → numbers_in cross (numbers_in next b) ≡ 0

-- Nothing is left of the members of a set.
abbrev pub Finished : (jobs : ℕ) → (left : List ℕ) → JobSet → Type 0
Finished jobs left set = (q : ℕ) → q < jobs → is_member set q ≡ true → numbers_in left q ≡ 0

-- Before an interval: those before it are filled.
pub record BetweenRows (work : Workload) (loads : ℕ → ℕ) (table holders left cross next : List ℕ) (i uncrossed : ℕ) (finished : JobSet) : Type 0 where
  pub tables : RefillTables work loads table holders left cross i 0
  pub uncrossed_are : Uncrossed work.intervals i uncrossed cross next
  pub are_finished : Finished work.jobs left finished

-- In an interval: the jobs before `count` are passed, and of the others only those in `rest` can take cycles there.
pub record InRow (work : Workload) (loads : ℕ → ℕ) (table holders left cross next : List ℕ) (i : ℕ) (row : Row) : Type 0 where
  pub inside : i < work.intervals
  pub count : ℕ
  pub count_most : count ≤ work.jobs
  pub tables : RefillTables work loads table holders left cross i count
  pub uncrossed_are : Uncrossed work.intervals (suc i) row.uncrossed cross next
  pub are_finished : Finished work.jobs left row.finished
  pub rest_are : (q : ℕ) → is_member row.rest q ≡ true → (count ≤ q) × (q < work.jobs) × Open (problem_in work) i q × (numbers_in work.last q ≤ row.uncrossed)
  pub others : (q : ℕ) → count ≤ q → q < work.jobs → Open (problem_in work) i q → is_member row.rest q ≡ false
      → (numbers_in left q ≡ 0) ⊎ (row.uncrossed < numbers_in work.last q)

-- What a function asks and promises that is lent where the jobs end, and the sets of the open jobs: the first holds of some workload,
-- the second of each.
abbrev pub RowFill : (jobs intervals : ℕ) → (last sets table holders left cross next : List ℕ) → (i : ℕ) → Row → Type 0
RowFill jobs intervals last sets table holders left cross next i row =
    (work : Workload) × (loads : ℕ → ℕ) × OpenSets (lent_lasts work jobs intervals last) sets
    × InRow (lent_lasts work jobs intervals last) loads table holders left cross next i row

abbrev pub RowFilled : (jobs intervals : ℕ) → (last sets before holders-before left-before cross-before next_before table holders left cross next : List ℕ)
    → (i : ℕ) → (row_before row : Row) → Type 0
RowFilled jobs intervals last sets before holders-before left-before cross-before next_before table holders left cross next i row_before row =
    (work : Workload) (loads : ℕ → ℕ) → OpenSets (lent_lasts work jobs intervals last) sets
    → InRow (lent_lasts work jobs intervals last) loads before holders-before left-before cross-before next_before i row_before
    → KeptPast (intervals * jobs) before table × InRow (lent_lasts work jobs intervals last) loads table holders left cross next i row

abbrev pub RowsFill : (jobs intervals : ℕ) → (last sets table holders left cross next : List ℕ) → (i uncrossed : ℕ) → JobSet → Type 0
RowsFill jobs intervals last sets table holders left cross next i uncrossed finished =
    (work : Workload) × (loads : ℕ → ℕ) × OpenSets (lent_lasts work jobs intervals last) sets
    × BetweenRows (lent_lasts work jobs intervals last) loads table holders left cross next i uncrossed finished

abbrev pub RowsFilled : (jobs intervals : ℕ) → (last sets before holders-before left-before cross-before next_before table holders left cross next : List ℕ)
    → (i-before uncrossed_before : ℕ) → (finished-before : JobSet) → (i uncrossed : ℕ) → (finished : JobSet) → Type 0
RowsFilled jobs intervals last sets before holders-before left-before cross-before next_before table holders left cross next i-before uncrossed_before finished-before i uncrossed finished =
    (work : Workload) (loads : ℕ → ℕ) → OpenSets (lent_lasts work jobs intervals last) sets
    → BetweenRows (lent_lasts work jobs intervals last) loads before holders-before left-before cross-before next_before i-before uncrossed_before finished-before
    → KeptPast (intervals * jobs) before table × BetweenRows (lent_lasts work jobs intervals last) loads table holders left cross next i uncrossed finished

-- Of a workload that can be filled from an interval on, the interval can be.
abbrev pub RowStarted : (sets next : List ℕ) → (intervals i uncrossed : ℕ) → (finished : JobSet) → Row → Type 0
RowStarted sets next intervals i uncrossed finished row =
    (work : Workload) (loads : ℕ → ℕ) (jobs : ℕ) (last table holders left cross : List ℕ) → OpenSets (lent_lasts work jobs intervals last) sets
    → BetweenRows (lent_lasts work jobs intervals last) loads table holders left cross next i uncrossed finished
    → InRow (lent_lasts work jobs intervals last) loads table holders left cross next i row

-- All intervals are filled.
abbrev pub AllFilled : (jobs intervals : ℕ) → (last sets before holders-before left cross next table holders : List ℕ) → Type 0
AllFilled jobs intervals last sets before holders-before left cross next table holders =
    (work : Workload) (loads : ℕ → ℕ) → OpenSets (lent_lasts work jobs intervals last) sets
    → BetweenRows (lent_lasts work jobs intervals last) loads before holders-before left cross next 0 intervals no_jobs
    → KeptPast (intervals * jobs) before table
    × Holding (problem_in (lent_lasts work jobs intervals last)) (shares_in jobs table) holders
    × Refilled (problem_in (lent_lasts work jobs intervals last)) loads (shares_in jobs table)
