-- Two boards with the same working frequencies are alike in everything but energies.
-- Assumes nothing.
use mathlib.Core.Path.{◌≡◌, refl, sym, ◌∙◌, ap, ap₂, fun_ext}
use mathlib.Core.List.{List, map}
use mathlib.Core.Option.{Option, none, some}
use Prim.Native.Nat.{ℕ, zero, suc, ◌-◌, ◌*◌}
use lib.ListN.{length, length-map, get_or, get_or-map}
use lib.Dec.{leb}
use Rattle.model.specs.Outcome.{Outcome}
use Rattle.model.specs.Sum.{product}
use Rattle.model.specs.Search.{first_below}
use Rattle.model.specs.Points.{Point, idling_point, RisingPoints}
use Rattle.model.specs.Bands.{band_count, frequency_of, gap, scale}
use Rattle.model.specs.Processors.{Processor, all_points, working_of, top_of}
use Rattle.model.specs.Setting.{band_of, setting_of, setting_for}
use Rattle.model.specs.Prices.{fits_load}
use Rattle.model.specs.Sites.{Site}
use Rattle.model.specs.Plans.{Shares}
use Rattle.model.specs.Energy.{band_cycles, band_total}
use Rattle.model.specs.Windows.{Window, earliest_overfull}
use Rattle.model.specs.Checking.{job_sum_fault, load_fault, fitting, entry_fault, price_fault, cheaper_fault, pricing, fits_for, check_for}
use Rattle.model.specs.Planning.{PlanOutcome, unless_overfull, step_limit, plan_for}
use Rattle.model.specs.Boards.{working_frequencies, on_board, with_figure_of, Alike, BoardsAreAlike}
use Rattle.model.proofs.Sum.{sum_cong, product_cong}
use Rattle.model.proofs.Working.{working_top}
use Rattle.model.proofs.FittingHalf.{after_fitting}
use Rattle.model.proofs.PricingHalf.{after_pricing}

abbrev frequency : Point → ℕ
frequency point = point.frequency

-- The frequencies decide gaps, bands and settings, and which prices fit a load.
module _ (ws others : List Point) (same : map frequency ws ≡ map frequency others) where
  same_length : length others ≡ length ws
  same_length = sym (length-map others frequency) ∙ ap length (sym same) ∙ length-map ws frequency

  same_count : band_count others ≡ band_count ws
  same_count = ap (λ (n : ℕ). n - 1) same_length

  same_frequency : (k : ℕ) → frequency_of others k ≡ frequency_of ws k
  same_frequency k =
      sym (get_or-map frequency others k (idling_point 0)) ∙ ap (λ (l : List ℕ). get_or l k 0) (sym same)
      ∙ get_or-map frequency ws k (idling_point 0)

  same_gap : (k : ℕ) → gap others k ≡ gap ws k
  unfolding gap
  same_gap k = ap₂ (λ (high low : ℕ). high - low) (same_frequency (suc k)) (same_frequency k)

  same_scale : scale others ≡ scale ws
  unfolding scale
  same_scale = ap (λ (n : ℕ). product n (gap others)) same_count ∙ product_cong (band_count ws) (λ k below. same_gap k)

  same_band : (length load : ℕ) → band_of others length load ≡ band_of ws length load
  unfolding band_of
  same_band length load =
      ap₂ (λ (n : ℕ) (f : ℕ → ℕ). first_below n (λ k. leb load (length * f (suc k)))) same_count (fun_ext same_frequency)

  same-setting : (length load : ℕ) → setting_of others length load ≡ setting_of ws length load
  unfolding setting_of
  same-setting length zero = refl
  same-setting length (suc cycles) = rw (same_band length (suc cycles), same_frequency, same_gap)

  same_fit : (length load number : ℕ) → fits_load others length load number ≡ fits_load ws length load number
  unfolding fits_load
  same_fit length zero number = refl
  same_fit length (suc cycles) number = rw (same_band length (suc cycles), same_frequency, same_count)

  same_cycles : (length load k : ℕ) → band_cycles others length load k ≡ band_cycles ws length load k
  unfolding band_cycles
  same_cycles length load k = rw (same_gap, same_frequency)

module _ (processor other : Processor) (rising : RisingPoints (all_points processor)) (other-rising : RisingPoints (all_points other))
    (same : working_frequencies processor ≡ working_frequencies other) where
  frequencies : map frequency (working_of processor) ≡ map frequency (working_of other)
  frequencies = same

  same_top : top_of other ≡ top_of processor
  same_top =
      sym (working_top other.idle_power other.levels other-rising)
      ∙ ap (frequency_of (working_of other)) (same_count (working_of processor) (working_of other) frequencies)
      ∙ same_frequency (working_of processor) (working_of other) frequencies _
      ∙ working_top processor.idle_power processor.levels rising

  module _ (site : Site) (plan : List ℕ) where
    same_sums : job_sum_fault (on_board other site) plan ≡ job_sum_fault (on_board processor site) plan
    unfolding job_sum_fault
    same_sums = refl

    same_loads : load_fault (on_board other site) plan ≡ load_fault (on_board processor site) plan
    unfolding load_fault
    same_loads = fun_ext λ i. rw same_top

    same_fitting : {A : Type 0} (next : Outcome A) → fitting (on_board other site) plan next ≡ fitting (on_board processor site) plan next
    unfolding fitting
    same_fitting next = rw (same_sums, same_loads)

    same_fits : fits_for (on_board other site) plan ≡ with_figure_of (on_board other site) plan (fits_for (on_board processor site) plan)
    unfolding fits_for
    same_fits = rw (after_fitting, same_fitting)

    module _ (prices : List ℕ) where
      same_entries : entry_fault (on_board other site) plan prices ≡ entry_fault (on_board processor site) plan prices
      unfolding entry_fault
      same_entries = fun_ext λ i. rw (same_count (working_of processor) (working_of other) frequencies)

      same-prices : price_fault (on_board other site) plan prices ≡ price_fault (on_board processor site) plan prices
      unfolding price_fault
      same-prices = fun_ext λ i. rw (same_fit (working_of processor) (working_of other) frequencies)

      same_steps : cheaper_fault (on_board other site) plan prices ≡ cheaper_fault (on_board processor site) plan prices
      unfolding cheaper_fault
      same_steps = refl

      same_pricing : {A : Type 0} (next : Outcome A) → pricing (on_board other site) plan prices next ≡ pricing (on_board processor site) plan prices next
      unfolding pricing
      same_pricing next = rw (same_entries, same-prices, same_steps)

      same_check : check_for (on_board other site) plan prices
          ≡ with_figure_of (on_board other site) plan (check_for (on_board processor site) plan prices)
      unfolding check_for
      same_check = rw (after_fitting, after_pricing, same_fitting, same_pricing)

  -- 11, with its window and spare, before what comes next
  module _ (site : Site) (next : PlanOutcome) where
    same-overfull : (window : Option Window) → unless_overfull (on_board other site) window next ≡ unless_overfull (on_board processor site) window next
    same-overfull none = refl
    same-overfull (some window) = rw same_top

    same_window : unless_overfull (on_board other site) (earliest_overfull (top_of other) site.jobs) next
        ≡ unless_overfull (on_board processor site) (earliest_overfull (top_of processor) site.jobs) next
    same_window =
        same-overfull (earliest_overfull (top_of other) site.jobs)
        ∙ ap (λ (top : ℕ). unless_overfull (on_board processor site) (earliest_overfull top site.jobs) next) same_top

  same_plans : (site : Site) (plan_room price_room share_room : ℕ)
      → plan_for (on_board other site) plan_room price_room share_room ≡ plan_for (on_board processor site) plan_room price_room share_room
  unfolding step_limit plan_for
  same_plans site plan_room price_room share_room = same_window site _

  same_total : (site : Site) (shares : Shares) (k : ℕ)
      → band_total (working_of other) site.jobs site.bounds shares k ≡ band_total (working_of processor) site.jobs site.bounds shares k
  unfolding band_total
  same_total site shares k = sum_cong _ (λ i below. same_cycles (working_of processor) (working_of other) frequencies _ _ k)

  same_settings : (length load : ℕ) → setting_for other length load ≡ setting_for processor length load
  same_settings length load = rw (same_top, same-setting (working_of processor) (working_of other) frequencies)

  alike : Alike processor other
  alike =
      record {
        tops = same_top;
        gaps = same_gap (working_of processor) (working_of other) frequencies;
        scales = same_scale (working_of processor) (working_of other) frequencies;
        bands = same_total;
        settings = same_settings;
        spares = λ tables start end. rw same_top;
        plans = same_plans;
        fits = same_fits;
        checks = same_check;
      }

pub boards_are_alike : BoardsAreAlike
boards_are_alike = alike
