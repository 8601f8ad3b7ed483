-- Two plans for a site that load each interval alike: the prices that fit one fit the other.
-- Assumes nothing.
use mathlib.Core.Path.{◌≡◌, refl}
use mathlib.Core.Bool.{true}
use mathlib.Core.List.{List}
use Prim.Native.Nat.{ℕ, ◌-◌, ◌*◌, ◌<◌, ◌≤◌}
use native.Mathlib.Omega.{arith}
use lib.ListN.{length}
use Rattle.model.specs.declared.Job.{Job}
use Rattle.model.specs.Jobs.{job_of}
use Rattle.model.specs.Points.{Point}
use Rattle.model.specs.Bands.{band_count, frequency_of, Curve}
use Rattle.model.specs.Processors.{all_points, working_of, top_of}
use Rattle.model.specs.Intervals.{interval_count, length_of, is_open, OpenRange}
use Rattle.model.specs.Sites.{Site, ValidSite}
use Rattle.model.specs.Plans.{Shares, Gives, load}
use Rattle.model.specs.Prices.{PriceList, FittingPrices}
use Rattle.model.proofs.Tests.{never_false}
use Rattle.model.proofs.Intervals.{open_range}
use Rattle.model.proofs.Working.{working_curve, working_top}
use Rattle.model.proofs.SameShares.{prices_same}
use Rattle.workloads.specs.Placement.{Problem, OnlyOpen, Placed}
use Rattle.workloads.specs.SiteProblem.{problem_of}
use Rattle.workloads.proofs.SiteProblem.{problem_sound, open_iff, priced_fit}
use Rattle.workloads.proofs.SitePrices.{counted, fitting_priced}
use Rattle.loads.specs.Loads.{Serving}
use Rattle.loads.proofs.Loads.{choose, same_loads_same_prices}

module _ {site : Site} (valid : ValidSite site) where
  abbrev jobs : List Job
  jobs = site.jobs

  abbrev bounds : List ℕ
  bounds = site.bounds

  abbrev ws : List Point
  ws = working_of site.processor

  curve : Curve ws
  curve = working_curve (all_points site.processor) valid.processor.rising

  -- the last working point has the top frequency
  top_point : frequency_of ws (band_count ws) ≡ top_of site.processor
  top_point = working_top site.processor.idle_power site.processor.levels valid.processor.rising

  -- where each job's stretch of intervals begins, and where it ends
  begins : (first : ℕ → ℕ) × ((j : ℕ) → j < length jobs → (hi : ℕ) × OpenRange jobs bounds j (first j) hi)
  begins =
      choose (λ j lo. (hi : ℕ) × OpenRange jobs bounds j lo hi) (length jobs)
      (λ j below. let (lo, hi, range) = open_range valid.bounds j below (valid.jobs.release_before_deadline j below) in (lo, (hi, range)))

  ranges : (first last : ℕ → ℕ) × ((j : ℕ) → j < length jobs → OpenRange jobs bounds j (first j) (last j))
  ranges =
      let (first, found) = begins in
      let (last, range) = choose (λ j hi. OpenRange jobs bounds j (first j) hi) (length jobs) found in
      (first, last, range)

  -- what is to be placed
  abbrev problem : Problem
  problem = problem_of ws jobs bounds ranges.0 ranges.1

  module _ {shares : Shares} (gives : Gives (top_of site.processor) jobs bounds shares) where
    only_open : OnlyOpen problem shares
    only_open i j inside below share =
        let opened : is_open bounds (job_of jobs j) i ≡ true =
        never_false (is_open bounds (job_of jobs j) i) (λ e. omega (arith, gives.shut i j inside below e)) in
        (open_iff curve valid.bounds ranges.2 i j inside below).0 opened

    serving : Serving problem shares
    serving = record { shut = only_open; whole = gives.whole }

    most : (i : ℕ) → i < interval_count bounds → load jobs shares i ≤ length_of bounds i * frequency_of ws (band_count ws)
    most i inside = rw top_point (gives.fits i inside)

  pub same_loads_fit : {one two : Shares} → Gives (top_of site.processor) jobs bounds one → Gives (top_of site.processor) jobs bounds two
      → ((i : ℕ) → i < interval_count bounds → load jobs two i ≡ load jobs one i)
      → {prices : PriceList} → FittingPrices ws jobs bounds one prices → FittingPrices ws jobs bounds two prices
  unfolding load
  same_loads_fit {one} {two} gives others same {prices} fitting =
      let priced = fitting_priced curve valid.bounds ranges.2 (only_open gives) (most gives) fitting in
      let placed : Placed problem one (λ i. prices i - 1) = record { priced = priced; whole = gives.whole } in
      let again = same_loads_same_prices (problem_sound curve valid.bounds ranges.2) placed (serving others) same in
      prices_same jobs bounds two two (λ i j inside below. refl) (counted curve valid.bounds ranges.2 (only_open gives) (most gives) fitting)
      (priced_fit curve valid.bounds ranges.2 again.priced)
