-- Laws of a site's workload: without an overfull window it can be placed; once all jobs are placed the shares are a plan
-- that gives each job its cycles, and their prices fit; and the smallest prices are the smallest that fit.
-- Assumes nothing.
use mathlib.Core.Path.{◌≡◌, sym, ap, subst}
use mathlib.Core.List.{List}
use mathlib.Core.Option.{none}
use Prim.Native.Nat.{ℕ, suc, ◌<◌, ◌≤◌}
use lib.ListN.{length}
use Rattle.model.specs.declared.Job.{Job}
use Rattle.model.specs.Points.{Point}
use Rattle.model.specs.Bands.{band_count, frequency_of, Curve}
use Rattle.model.specs.Processors.{all_points, working_of, top_of}
use Rattle.model.specs.Intervals.{interval_count}
use Rattle.model.specs.Sites.{Site, ValidSite}
use Rattle.model.specs.Windows.{earliest_overfull}
use Rattle.model.specs.Plans.{Shares, Gives, shares_in}
use Rattle.model.specs.Prices.{PriceList, FittingPrices}
use Rattle.model.proofs.Working.{working_curve, working_top}
use Rattle.model.proofs.Windows.{earliest_overfull_none}
use Rattle.workloads.specs.Workloads.{Workload}
use Rattle.workloads.specs.Placement.{Problem, Placed, SmallestPriced}
use Rattle.workloads.specs.RangesFit.{RangesFit}
use Rattle.workloads.specs.SiteProblem.{problem_of}
use Rattle.workloads.specs.Arrays.{numbers_in, problem_in}
use Rattle.workloads.proofs.SiteProblem.{placed_gives}
use Rattle.workloads.proofs.SitePrices.{ranges-fit, smallest_fit, smallest_least}
use Rattle.prices.specs.RisingPrices.{CanPrice}
use Rattle.planner.specs.PlacedTables.{PlacedTables}
use Rattle.planning.proofs.SiteArrays.{SiteWorkload}

module _ {site : Site} {work : Workload} (valid : ValidSite site) (made : SiteWorkload site work) where
  abbrev ws : List Point
  ws = working_of site.processor

  abbrev jobs : List Job
  jobs = site.jobs

  curve : Curve ws
  curve = working_curve (all_points site.processor) valid.processor.rising

  -- the last working point has the top frequency
  pub top_point : frequency_of ws (band_count ws) ≡ top_of site.processor
  top_point = working_top site.processor.idle_power site.processor.levels valid.processor.rising

  pub jobs_counted : work.jobs ≡ length jobs
  jobs_counted = ap (λ (p : Problem). p.jobs) made.problem

  pub intervals_counted : work.intervals ≡ interval_count site.bounds
  intervals_counted = ap (λ (p : Problem). p.intervals) made.problem

  -- without an overfull window no range is overfull
  pub workload_fits : earliest_overfull (top_of site.processor) jobs ≡ none → RangesFit (problem_in work)
  workload_fits fits =
      subst RangesFit (sym made.problem)
      (ranges-fit curve valid.bounds made.ranges top_point
      (earliest_overfull_none (top_of site.processor) jobs valid.jobs.release_before_deadline fits))

  module _ {table loads prices : List ℕ} (tables : PlacedTables work table loads prices) where
    site_placed : Placed (problem_of ws jobs site.bounds (numbers_in work.first) (numbers_in work.last))
        (shares_in work.jobs table) (numbers_in prices)
    site_placed =
        subst (λ (p : Problem). Placed p (shares_in work.jobs table) (numbers_in prices)) made.problem tables.placed

    -- the shares give each job its cycles
    pub workload_gives : Gives (top_of site.processor) jobs site.bounds (shares_in work.jobs table)
    workload_gives = placed_gives curve valid.bounds made.ranges site_placed top_point

    -- the smallest prices can be found
    pub workload_can_price : CanPrice work table loads
    workload_can_price =
        record { sound = made.sound; stored = tables.stored; fitting = numbers_in prices; priced = tables.placed.priced }

  module _ {shares : Shares} {prices : ℕ → ℕ} (smallest : SmallestPriced (problem_in work) shares prices) where
    site_smallest : SmallestPriced (problem_of ws jobs site.bounds (numbers_in work.first) (numbers_in work.last)) shares prices
    site_smallest = subst (λ (p : Problem). SmallestPriced p shares prices) made.problem smallest

    -- the smallest prices fit, counted from 1
    pub smallest_prices_fit : FittingPrices ws jobs site.bounds shares (λ i. suc (prices i))
    smallest_prices_fit = smallest_fit curve valid.bounds made.ranges site_smallest

    -- no prices that fit are smaller anywhere
    pub smallest_prices_least : (others : PriceList) → FittingPrices ws jobs site.bounds shares others
        → (i : ℕ) → i < interval_count site.bounds → suc (prices i) ≤ others i
    smallest_prices_least = smallest_least curve valid.bounds made.ranges site_smallest
