-- A site that was read stands in the arrays that planning makes of it. With the lengths of its intervals, arrays in which a site
-- stands hold what is to be placed for it.
-- Assumes nothing.
use mathlib.Core.Path.{◌≡◌, refl, sym, ◌∙◌, ap, subst}
use mathlib.Core.Logic.{◌⊎◌, inl, inr}
use mathlib.Core.List.{List, [], ◌∷◌}
use Prim.Native.Nat.{ℕ, zero, suc, ◌+◌, ◌-◌, ◌<◌, ◌≤◌}
use native.Mathlib.Numerals.{add-one}
use native.Mathlib.Omega.{arith}
use lib.ListN.{length, get_or, take}
use Rattle.model.specs.declared.Job.{Job}
use Rattle.model.specs.Limits.{max_jobs, max_intervals, max_points, max_deadline}
use Rattle.model.specs.Jobs.{job_of, no_job}
use Rattle.model.specs.Points.{Point, idling_point}
use Rattle.model.specs.Bands.{frequency_of, Curve}
use Rattle.model.specs.Processors.{all_points, working_of}
use Rattle.model.specs.Intervals.{bound_at, interval_count, length_of, OpenRange}
use Rattle.model.specs.Sites.{Site, ValidSite}
use Rattle.model.proofs.Numbers.{lt_or_le}
use Rattle.model.proofs.Working.{working_curve}
use Rattle.reading.specs.Column.{column_of}
use Rattle.reading.proofs.Column.{length_column, column_at, column_past, column_cong}
use Rattle.job_tables.proofs.Read.{job-in}
use Rattle.levels.specs.declared.points.PointTable.{PointTable}
use Rattle.levels.specs.PointTables.{points_of, SmallPoints}
use Rattle.levels.proofs.SmallPoints.{working_small, working_held}
use Rattle.intervals.specs.Times.{SmallBounds, number_of}
use Rattle.intervals.specs.OpenSets.{open_sets}
use Rattle.intervals.proofs.OpenRanges as ranges
use Rattle.site.specs.declared.SiteTable.{SiteTable}
use Rattle.site.specs.SiteTables.{HoldsSite}
use Rattle.site.proofs.HeldSites.{held_jobs_counted}
use Rattle.windows.specs.WindowTests.{TestArrays}
use Rattle.workloads.specs.Workloads.{Workload}
use Rattle.workloads.specs.Placement.{SoundProblem}
use Rattle.workloads.specs.SiteProblem.{problem_of}
use Rattle.workloads.specs.Arrays.{numbers_in, problem_in, workload_with, SoundWorkload}
use Rattle.workloads.proofs.SiteProblem.{problem_sound}
use Rattle.workloads.proofs.SitePrices.{problem_same}
use Rattle.planning.specs.SiteArrays.{InArrays}

-- past the end of a list stands the default
get_d_past : {A : Type 0} (l : List A) (i : ℕ) (d : A) → length l ≤ i → get_or l i d ≡ d
get_d_past [] i d past = refl
get_d_past (x ∷ l) zero d past = absurd (omega arith)
get_d_past (x ∷ l) (suc i) d past = get_d_past l i d (omega arith)

-- an array filled with the first values of a function that is 0 past them
column_is : (size count : ℕ) (f g : ℕ → ℕ) → count ≤ size → ((i : ℕ) → i < count → f i ≡ g i) → ((i : ℕ) → count ≤ i → g i ≡ 0)
    → (i : ℕ) → get_or (column_of size count f) i 0 ≡ g i
column_is size count f g fits agree zeros i = go (lt_or_le i count) (lt_or_le i size)
  where
    go : (i < count) ⊎ (count ≤ i) → (i < size) ⊎ (size ≤ i) → get_or (column_of size count f) i 0 ≡ g i
    go (inl below) inside = column_at size f count i (omega arith) below ∙ agree i below
    go (inr past) (inl inside) = column_past size f count i inside past ∙ sym (zeros i past)
    go (inr past) (inr outside) = get_d_past (column_of size count f) i 0 (omega (arith, length_column size f count)) ∙ sym (zeros i past)

-- A sound workload that holds what is to be placed for a site: each job is open in the intervals from its first up to,
-- not including, its last.
pub record SiteWorkload (site : Site) (work : Workload) : Type 0 where
  pub sound : SoundWorkload work
  pub problem : problem_in work
      ≡ problem_of (working_of site.processor) site.jobs site.bounds (numbers_in work.first) (numbers_in work.last)
  pub ranges : (j : ℕ) → j < length site.jobs
      → OpenRange site.jobs site.bounds j (numbers_in work.first j) (numbers_in work.last j)

-- a site that was read, and the numbers of its jobs' bounds
module _ {site : Site} {table : SiteTable} {releases deadlines cycles times first last : List ℕ}
    (valid : ValidSite site) (holds : HoldsSite site table releases deadlines cycles times)
    (first-are : first ≡ column_of max_jobs table.jobs (λ j. number_of table.bounds times (get_or releases j 0)))
    (last-are : last ≡ column_of max_jobs table.jobs (λ j. number_of table.bounds times (get_or deadlines j 0))) where
  own_cycles : (j : ℕ) → j < table.jobs → get_or cycles j 0 ≡ (job_of site.jobs j).cycles
  own_cycles j below = rw (← holds.jobs_are, job-in table.jobs releases deadlines cycles j below)

  -- no number is past the last interval
  pub numbers_few : (j : ℕ) → j < table.jobs → (get_or first j 0 ≤ max_intervals) × (get_or last j 0 ≤ max_intervals)
  numbers_few =
      ranges.numbers_few valid.bounds valid.jobs valid.few_bounds holds.bounds_are
      table.jobs releases deadlines cycles holds.jobs_are first-are last-are

  -- it stands in the arrays
  pub site_in_arrays : {sets : List ℕ} → sets ≡ open_sets table.jobs first last → InArrays site table cycles times first last sets
  site_in_arrays open_are = record {
    valid = valid;
    working_are = holds.working_are;
    jobs_counted = held_jobs_counted valid holds;
    cycles_are = holds.zeros_past ∙ column_cong max_jobs table.jobs _ _ own_cycles;
    bounds_are = holds.bounds_are;
    ranges = ranges.range_at valid.bounds valid.jobs valid.few_bounds holds.bounds_are
        table.jobs releases deadlines cycles holds.jobs_are first-are last-are;
    open_are = rw open_are
        (ranges.open_in_arrays valid.bounds valid.jobs valid.few_bounds holds.bounds_are
        table.jobs releases deadlines cycles holds.jobs_are first-are last-are);
  }

-- a site that stands in arrays
module _ {site : Site} {table : SiteTable} {cycles times first last sets : List ℕ}
    (held : InArrays site table cycles times first last sets) where
  abbrev ws : List Point
  ws = working_of site.processor

  -- the working points
  pub points_held : points_of table.working ≡ ws
  points_held = rw held.working_are (working_held site.processor held.valid.processor)

  pub points_small : SmallPoints table.working
  points_small = rw held.working_are (working_small site.processor held.valid.processor)

  curve : Curve ws
  curve = working_curve (all_points site.processor) held.valid.processor.rising

  points_counted : table.working.count ≡ length ws
  points_counted = ap (λ (t : PointTable). t.count) held.working_are

  -- there are bands
  pub points_some : 2 ≤ table.working.count
  points_some = omega (arith, points_counted, curve.some)

  pub held_times : SmallBounds table.bounds times
  held_times = ranges.bounds_small held.valid.bounds held.valid.jobs held.valid.few_bounds held.bounds_are

  pub held_ends : take table.bounds times ≡ site.bounds
  held_ends = ranges.bounds_held held.valid.bounds held.valid.jobs held.valid.few_bounds held.bounds_are

  pub time_at : (i : ℕ) → i < length site.bounds → get_or times i 0 ≡ bound_at site.bounds i
  time_at = ranges.time_at held.valid.bounds held.valid.jobs held.valid.few_bounds held.bounds_are

  pub intervals_counted : table.bounds - 1 ≡ interval_count site.bounds
  intervals_counted = ap (λ (n : ℕ). n - 1) held.bounds_are.counted

  -- its jobs' cycles
  pub cycles_length : length cycles ≡ max_jobs
  cycles_length = ap length held.cycles_are ∙ length_column max_jobs _ table.jobs

  cycles-at : (j : ℕ) → numbers_in cycles j ≡ (job_of site.jobs j).cycles
  cycles-at j =
      ap (λ (array : List ℕ). get_or array j 0) held.cycles_are
      ∙ column_is max_jobs table.jobs _ (λ j. (job_of site.jobs j).cycles) (omega (arith, held.jobs_counted, held.valid.jobs.few))
      (λ j below. refl)
      (λ j past. ap (λ (job : Job). job.cycles) (get_d_past site.jobs j no_job (omega (arith, held.jobs_counted)))) j

  -- they hold what the window test asks for
  pub test_arrays : (intervals : ℕ) → intervals ≡ table.bounds - 1 → TestArrays site.jobs site.bounds times cycles sets intervals
  test_arrays intervals are = record {
    valid = held.valid.jobs;
    bounds-of = held.valid.bounds;
    few = held.valid.few_bounds;
    counted = are ∙ intervals_counted;
    times_are = time_at;
    cycles_are = λ j below. cycles-at j;
    open_are = held.open_are;
  }

  -- with the lengths of its intervals
  module _ (intervals : ℕ) (size : List ℕ) (intervals_are : intervals ≡ table.bounds - 1)
      (size-are : size ≡ column_of max_intervals intervals (λ i. get_or times (i + 1) 0 - get_or times i 0)) where
    abbrev work : Workload
    work =
        workload_with cycles table.jobs intervals (table.working.count - 1) first last size table.working.frequencies

    counted_all : intervals ≡ interval_count site.bounds
    counted_all = intervals_are ∙ intervals_counted

    size_at : (i : ℕ) → numbers_in size i ≡ length_of site.bounds i
    unfolding length_of
    size_at i =
        rw size-are
        (column_is max_intervals intervals _ (length_of site.bounds) (omega (arith, intervals_are, held_times.rising.few))
        (λ i below. rw (time_at (i + 1) (omega (arith, counted_all)), time_at i (omega (arith, counted_all)), add-one i))
        (λ i past. rw (get_d_past site.bounds (suc i) 0 (omega (arith, counted_all))) (omega arith)) i)

    frequency_at : (k : ℕ) → numbers_in table.working.frequencies k ≡ frequency_of ws k
    frequency_at k =
        ap (λ (t : PointTable). get_or t.frequencies k 0) held.working_are
        ∙ column_is max_points (length ws) _ (frequency_of ws) (omega (arith, points_counted, points_small.few))
        (λ i below. refl)
        (λ i past. ap (λ (p : Point). p.frequency) (get_d_past ws i (idling_point 0) past)) k

    problem_at : problem_in work ≡ problem_of ws site.jobs site.bounds (numbers_in first) (numbers_in last)
    problem_at =
        problem_same work ws site.jobs site.bounds held.jobs_counted counted_all
        (ap (λ (n : ℕ). n - 1) points_counted) cycles-at size_at frequency_at

    length_high : (i : ℕ) → i < intervals → length_of site.bounds i ≤ max_deadline
    unfolding length_of
    length_high i below =
        let inside : suc i < length site.bounds = omega (arith, counted_all) in
        omega (arith, held_times.last (suc i) (omega (arith, held.bounds_are.counted)), time_at (suc i) inside)

    workload_sound : SoundWorkload work
    workload_sound =
        record {
          sound = subst SoundProblem (sym problem_at) (problem_sound curve held.valid.bounds held.ranges);
          jobs_most = omega (arith, held.jobs_counted, held.valid.jobs.few);
          intervals_most = omega (arith, intervals_are, held_times.rising.few);
          bands_most = omega (arith, points_small.few);
          cycles_most = λ j below. rw (cycles-at j) (held.valid.jobs.cycles_high j (omega (arith, held.jobs_counted)));
          size_most = λ i below. rw (size_at i) (length_high i below);
          frequency_most = λ k below.
              rw (frequency_at k) (rw points_held at points_small.frequency_high k (omega (arith, points_some)));
        }

    -- the arrays hold what is to be placed
    pub site_workload : SiteWorkload site work
    site_workload = record { sound = workload_sound; problem = problem_at; ranges = held.ranges }
