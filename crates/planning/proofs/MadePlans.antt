-- What is made of a site's workload is a plan as planning promises it, and there is room to write it.
-- Assumes nothing.
use mathlib.Core.Path.{◌≡◌}
use mathlib.Core.List.{List, ◌++◌}
use Prim.Native.Nat.{ℕ, suc, ◌+◌, ◌-◌, ◌*◌, ◌^◌, ◌<◌, ◌≤◌}
use native.Mathlib.Nat.{mul-le-mul_left}
use native.Mathlib.Omega.{arith}
use lib.Dec.{ltb}
use lib.ListN.{length, get_or, take, drop, length-take}
use lib.Seq.{take_at, drop_at, get_or-take}
use Rattle.model.specs.declared.Job.{Job}
use Rattle.model.specs.Points.{Point}
use Rattle.model.specs.Processors.{working_of, top_of}
use Rattle.model.specs.Sum.{sum, only_if}
use Rattle.model.specs.Intervals.{bound_at, interval_count, open_pairs}
use Rattle.model.specs.Sites.{Site, ValidSite}
use Rattle.model.specs.Planning.{step_limit}
use Rattle.model.specs.Demands.{LongEnough}
use Rattle.model.specs.Plans.{Gives, load, shares_in}
use Rattle.model.specs.Prices.{PriceList, FittingPrices}
use Rattle.model.proofs.StepLimit.{within_limit}
use Rattle.levels.specs.PointTables.{points_of}
use Rattle.site.specs.declared.SiteTable.{SiteTable}
use Rattle.energy.specs.Figures.{figure_of_loads}
use Rattle.writing.specs.StepList.{steps_of}
use Rattle.price_writing.specs.PriceListBytes.{encode_prices}
use Rattle.writing.proofs.CellOrder.{step_total}
use Rattle.writing.proofs.WrittenPlan.{plan_of, few_steps}
use Rattle.price_writing.proofs.WrittenPrices.{length_price_list}
use Rattle.writing.proofs.EncodedPlan.{length_plan}
use Rattle.workloads.specs.Workloads.{Workload}
use Rattle.workloads.specs.Arrays.{numbers_in, problem_in, KeptPast}
use Rattle.workloads.specs.Placement.{SmallestPriced}
use Rattle.planner.specs.PlacedTables.{PlacedTables}
use Rattle.rooms.proofs.RoomSizes.{limit_few}
use Rattle.planning.specs.SiteArrays.{InArrays}
use Rattle.planning.specs.MadePlans.{MadePlan}
use Rattle.planning.proofs.SiteArrays.{SiteWorkload, points_held, held_times, held_ends, time_at}
use Rattle.planning.proofs.Placeable.{jobs_counted, intervals_counted, workload_gives, smallest_prices_fit, smallest_prices_least}
use Rattle.planning.proofs.WrittenSite.{plan_planned}

module _ {site : Site} {table : SiteTable} {cycles times first last sets : List ℕ}
    (held : InArrays site table cycles times first last sets) where
  ends_held : (i : ℕ) → i < interval_count site.bounds
      → (get_or times (suc i) 0 ≡ bound_at site.bounds (suc i)) × (get_or times (suc i) 0 < 2 ^ 32)
  ends_held i below = (
    time_at held (suc i) (omega arith),
    omega (arith, (held_times held).last (suc i) (omega (arith, held.bounds_are.counted))),
  )

-- there is room for the shares and the prices
pub rooms : {site : Site} {work : Workload} {plan_room price_room share_room : ℕ} → ValidSite site → SiteWorkload site work
    → LongEnough site plan_room price_room share_room → (work.intervals * work.jobs ≤ share_room) × (2 + 5 * work.intervals ≤ price_room)
rooms valid made long =
    rw (jobs_counted valid made, intervals_counted valid made) (omega (arith, long.share-room), long.price-room)

module _ {site : Site} {work : Workload} (valid : ValidSite site) (made : SiteWorkload site work)
    (table loads bands : List ℕ) (tables : PlacedTables work table loads bands) where
  abbrev ws : List Point
  ws = working_of site.processor

  abbrev jobs : List Job
  jobs = site.jobs

  jobs_are : work.jobs ≡ length jobs
  jobs_are = jobs_counted valid made

  intervals_are : work.intervals ≡ interval_count site.bounds
  intervals_are = intervals_counted valid made

  gives : Gives (top_of site.processor) jobs site.bounds (shares_in (length jobs) table)
  gives = rw jobs_are at (workload_gives valid made tables)

  -- where few cells have a share, the steps are within the limit
  pub steps_few : sum work.intervals (λ i. sum work.jobs (λ j. only_if (ltb 0 (shares_in work.jobs table i j)) 1)) ≤ work.jobs + work.intervals - 1
      → length (steps_of work.jobs work.intervals (shares_in work.jobs table)) ≤ step_limit site
  steps_few short =
      let steps : ℕ = length (steps_of work.jobs work.intervals (shares_in work.jobs table)) in
      let cells : steps ≤ length jobs + interval_count site.bounds - 1 =
      omega (arith, step_total work.jobs work.intervals (shares_in work.jobs table), jobs_are, intervals_are) in
      let pairs : steps ≤ open_pairs site.bounds jobs =
      rw (jobs_are, intervals_are) (few_steps jobs site.bounds (shares_in (length jobs) table) gives.shut) in
      within_limit site steps cells pairs

  loaded : (i : ℕ) → i < interval_count site.bounds → get_or loads i 0 ≡ load jobs (shares_in (length jobs) table) i
  unfolding load
  loaded i below = rw jobs_are at (tables.stored.loads_are i (omega (arith, intervals_are)))

  module _ (numbers : List ℕ) (smallest : SmallestPriced (problem_in work) (shares_in work.jobs table) (numbers_in numbers)) where
    -- as band numbers prices count from 1
    abbrev counted : PriceList
    counted i = suc (get_or numbers i 0)

    fitting : FittingPrices ws jobs site.bounds (shares_in (length jobs) table) counted
    fitting = rw jobs_are at (smallest_prices_fit valid made smallest)

    least : (others : PriceList) → FittingPrices ws jobs site.bounds (shares_in (length jobs) table) others
        → (i : ℕ) → i < interval_count site.bounds → counted i ≤ others i
    least = rw jobs_are at (smallest_prices_least valid made smallest)

    byte : (i : ℕ) → i < interval_count site.bounds → counted i < 256
    byte i below = omega (arith, made.sound.bands_most, smallest.priced.band i (omega (arith, intervals_are)))

    module _ {site-table : SiteTable} {cycles times first last sets : List ℕ}
        (held : InArrays site site-table cycles times first last sets) (steps energy : ℕ)
        (plan₀ prices₀ shares₀ plan prices : List ℕ) (kept : KeptPast (work.intervals * work.jobs) shares₀ table)
        (short : sum work.intervals (λ i. sum work.jobs (λ j. only_if (ltb 0 (shares_in work.jobs table i j)) 1)) ≤ work.jobs + work.intervals - 1)
        (steps_are : steps ≡ length (steps_of work.jobs work.intervals (shares_in work.jobs table)))
        (plan_is : plan ≡ plan_of work.jobs work.intervals (shares_in work.jobs table) ++ drop (4 + 6 * steps) plan₀)
        (prices_are : prices ≡ encode_prices work.intervals (λ i. get_or times (suc i) 0) counted
        ++ drop (2 + 5 * work.intervals) prices₀)
        (energy-is : energy ≡ figure_of_loads (points_of site-table.working) (take site-table.bounds times) loads) where
      plan_size : length (plan_of work.jobs work.intervals (shares_in work.jobs table)) ≡ 4 + 6 * steps
      plan_size = rw steps_are (length_plan work.intervals (steps_of work.jobs work.intervals (shares_in work.jobs table)))

      plan_first : take (4 + 6 * steps) plan ≡ plan_of (length jobs) (interval_count site.bounds) (shares_in (length jobs) table)
      plan_first = rw (plan_is, take_at _ (drop (4 + 6 * steps) plan₀) (4 + 6 * steps) plan_size, jobs_are, intervals_are)

      list_size : length (encode_prices work.intervals (λ i. get_or times (suc i) 0) counted) ≡ 2 + 5 * work.intervals
      list_size = length_price_list work.intervals (λ i. get_or times (suc i) 0) counted

      list_first : take (2 + 5 * work.intervals) prices
          ≡ encode_prices (interval_count site.bounds) (λ i. get_or times (suc i) 0) counted
      list_first =
          rw (prices_are, take_at _ (drop (2 + 5 * work.intervals) prices₀) (2 + 5 * work.intervals) list_size, intervals_are)

      size : work.intervals * work.jobs ≡ length jobs * work.intervals
      size = rw jobs_are (omega arith)

      figure_is : energy ≡ figure_of_loads ws site.bounds loads
      figure_is = rw (points_held held, held_ends held) at energy-is

      pub made_plan : MadePlan site work.intervals steps energy
          (record { plan = plan₀; prices = prices₀; shares = shares₀ }) (record { plan = plan; prices = prices; shares = table })
      made_plan = record {
        written = record {
          planned =
              rw (plan_first, list_first, intervals_are)
              (plan_planned site valid (shares_in (length jobs) table) gives counted byte
              fitting least (λ i. get_or times (suc i) 0) (ends_held held) loads loaded steps energy
              (take (length jobs * interval_count site.bounds) table) (rw (jobs_are, intervals_are) at steps_are) within
              figure_is table_size table_at);
          plan-kept =
              rw plan_is
              (drop_at (plan_of work.jobs work.intervals (shares_in work.jobs table)) (drop (4 + 6 * steps) plan₀) (4 + 6 * steps) plan_size);
          prices-kept =
              rw prices_are
              (drop_at (encode_prices work.intervals (λ i. get_or times (suc i) 0) counted) (drop (2 + 5 * work.intervals) prices₀) (2 + 5 * work.intervals) list_size);
          shares-kept = rw size at kept.same_rest;
        };
        intervals_fit = omega (arith, made.sound.intervals_most);
        steps_fit = omega (arith, within, limit_few valid);
      }
        where
          within : steps ≤ step_limit site
          within = rw steps_are (steps_few short)

          table_size : length (take (length jobs * interval_count site.bounds) table) ≡ length jobs * interval_count site.bounds
          table_size =
              let room : length jobs * interval_count site.bounds ≤ length table = rw (size, intervals_are) at tables.stored.table-length in
              omega (arith, length-take (length jobs * interval_count site.bounds) table)

          table_at : (i j : ℕ) → i < interval_count site.bounds → j < length jobs
              → get_or (take (length jobs * interval_count site.bounds) table) (i * length jobs + j) 0 ≡ shares_in (length jobs) table i j
          table_at i j below inside =
              let row : length jobs * suc i ≤ length jobs * interval_count site.bounds = mul-le-mul_left (length jobs) below in
              let within : i * length jobs + j < length jobs * interval_count site.bounds = omega arith in
              get_or-take (length jobs * interval_count site.bounds) table (i * length jobs + j) 0 within
