-- The second half of the check, 21 to 24: for a plan, it passes exactly when the bytes are a price list over the bounds
-- and its prices fit the plan.
-- Assumes nothing.
use mathlib.Core.Path.{◌≡◌, ◌∙◌}
use mathlib.Core.Logic.{◌↔◌}
use mathlib.Core.List.{List}
use Prim.Native.Nat.{ℕ, ◌<◌}
use native.Mathlib.Omega.{arith}
use Rattle.model.specs.Outcome.{Outcome, answer, and_then}
use Rattle.model.specs.Processors.{working_of}
use Rattle.model.specs.Intervals.{interval_count}
use Rattle.model.specs.Sites.{Site}
use Rattle.model.specs.Prices.{FittingPrices}
use Rattle.model.specs.Steps.{step_count, step_at, shares_of}
use Rattle.model.specs.PriceBytes.{prices_of}
use Rattle.model.specs.Checking.{wrong_price_length, entry_fault, price_fault, cheaper_fault, pricing}
use Rattle.model.specs.Accepted.{IsPlan, IsPriceList}
use Rattle.model.proofs.Outcome.{answered_past, by_entry_answered, by_entry_passes, after_test, after-entries}
use Rattle.model.proofs.Steps.{share_found, share_of_step}
use Rattle.model.proofs.Faults.{price-length, entry-fault, price-fault, cheaper-fault}

module _ (site : Site) (plan prices : List ℕ) where
  -- no fault at any entry, any price and any step: the prices fit
  prices_fit : ((i : ℕ) → i < interval_count site.bounds → entry_fault site plan prices i ≡ 0)
      → ((i : ℕ) → i < interval_count site.bounds → price_fault site plan prices i ≡ 0)
      → ((s : ℕ) → s < step_count plan → cheaper_fault site plan prices s ≡ 0)
      → FittingPrices (working_of site.processor) site.jobs site.bounds (shares_of plan) (prices_of prices)
  prices_fit entries fits cheapest =
      record {
        number = λ i interval. ((entry-fault site plan prices i).sound.0 (entries i interval)).1;
        fits = λ i interval. (price-fault site plan prices i).sound.0 (fits i interval);
        cheapest = λ i other j interval next job more is_open_true.
            let (s, below, there, its) = share_found plan i j more in
            rw there at ((cheaper-fault site plan prices s).sound.0 (cheapest s below) other next (rw its is_open_true));
      }

  -- an answer says that the second half passed
  pub pricing_answered : {A : Type 0} {a : A} (next : Outcome A) → pricing site plan prices next ≡ answer a
      → (IsPriceList site.bounds prices × FittingPrices (working_of site.processor) site.jobs site.bounds (shares_of plan) (prices_of prices)) × (next ≡ answer a)
  unfolding pricing
  pricing_answered next e =
      let (lengths, e) = answered_past (wrong_price_length site plan prices) 21 _ e in
      let (entries, e) = by_entry_answered _ _ (interval_count site.bounds) e in
      let (fits, e) = by_entry_answered _ _ (interval_count site.bounds) e in
      let (cheapest, e) = by_entry_answered _ _ (step_count plan) e in
      let (intervals, size) = (price-length site plan prices).0 lengths in
      let is_price_list : IsPriceList site.bounds prices =
      record {
        size = size;
        intervals = intervals;
        ends = λ i interval. ((entry-fault site plan prices i).sound.0 (entries i interval)).0;
      } in
      ((is_price_list, prices_fit entries fits cheapest), e)

  module _
      (is-plan : IsPlan site.jobs site.bounds plan) (is_price_list : IsPriceList site.bounds prices)
      (fitting : FittingPrices (working_of site.processor) site.jobs site.bounds (shares_of plan) (prices_of prices))
    where
      -- prices that fit a plan have no fault at any entry, any price and any step
      entries_faultless : (i : ℕ) → i < interval_count site.bounds → entry_fault site plan prices i ≡ 0
      entries_faultless i interval =
          (entry-fault site plan prices i).sound.1 (is_price_list.ends i interval, fitting.number i interval)

      prices_faultless : (i : ℕ) → i < interval_count site.bounds → price_fault site plan prices i ≡ 0
      prices_faultless i interval = (price-fault site plan prices i).sound.1 (fitting.fits i interval)

      none_cheaper : (s : ℕ) → s < step_count plan → cheaper_fault site plan prices s ≡ 0
      none_cheaper s below =
          (cheaper-fault site plan prices s).sound.1
          (λ i interval. fitting.cheapest (step_at plan s).interval i (step_at plan s).job
          (is-plan.step_interval s below) interval (is-plan.step_job s below)
          (omega (arith, share_of_step plan is-plan.cells_differ s below, is-plan.step_some s below)))

      -- such prices pass, and what comes next decides
      pub pricing_passes : {A : Type 0} (next : Outcome A) → pricing site plan prices next ≡ next
      unfolding pricing
      pricing_passes next =
          rw ((price-length site plan prices).1 (is_price_list.intervals, is_price_list.size))
          (by_entry_passes _ _ (interval_count site.bounds) entries_faultless
          ∙ by_entry_passes _ _ (interval_count site.bounds) prices_faultless
          ∙ by_entry_passes _ _ (step_count plan) none_cheaper)

  -- The second half: for a plan, it passes exactly for a price list whose prices fit.
  pub pricing_half : {A : Type 0} (next : Outcome A) (a : A) → IsPlan site.jobs site.bounds plan
      → (pricing site plan prices next ≡ answer a)
      ↔ ((IsPriceList site.bounds prices × FittingPrices (working_of site.processor) site.jobs site.bounds (shares_of plan) (prices_of prices)) × (next ≡ answer a))
  pricing_half next a is-plan = (pricing_answered next, λ h. pricing_passes is-plan h.0.0 h.0.1 next ∙ h.1)

  -- what is done after the second half is done after what comes next
  pub after_pricing : {A B : Type 0} (then : A → Outcome B) (next : Outcome A)
      → and_then (pricing site plan prices next) then ≡ pricing site plan prices (and_then next then)
  unfolding pricing
  after_pricing then next = simp (after_test, after-entries)
