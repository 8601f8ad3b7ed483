-- The plan that is made of a site's workload: written in bytes it is accepted by the check with its energy figure, its
-- prices are the smallest, and the rest of the buffers is kept.
-- Assumes nothing.
use mathlib.Core.Path.{◌≡◌, refl, sym, ◌∙◌}
use mathlib.Core.List.{List}
use Prim.Native.Nat.{ℕ, suc, ◌+◌, ◌*◌, ◌^◌, ◌<◌, ◌≤◌}
use native.Mathlib.Omega.{arith}
use lib.ListN.{length, get_or}
use Rattle.model.specs.declared.Job.{Job}
use Rattle.model.specs.Limits.{max_intervals}
use Rattle.model.specs.Points.{Point}
use Rattle.model.specs.Processors.{working_of, top_of}
use Rattle.model.specs.Intervals.{bound_at, interval_count}
use Rattle.model.specs.Sites.{Site, ValidSite}
use Rattle.model.specs.Plans.{Shares, Gives, load}
use Rattle.model.specs.Prices.{PriceList, FittingPrices}
use Rattle.model.specs.Steps.{step_count, shares_of}
use Rattle.model.specs.PriceBytes.{prices_of}
use Rattle.model.specs.Checking.{figure_of}
use Rattle.model.specs.Accepted.{Accepted}
use Rattle.model.specs.Planning.{step_limit, Planned}
use Rattle.model.proofs.Sum.{sum_term}
use Rattle.model.proofs.SameShares.{load_same, gives_same, prices_same}
use Rattle.model.proofs.Accepted.{check_accepts}
use Rattle.energy.specs.Figures.{figure_of_loads}
use Rattle.energy.proofs.Figures.{figure_of_plan}
use Rattle.writing.specs.StepList.{steps_of}
use Rattle.price_writing.specs.PriceListBytes.{encode_prices}
use Rattle.writing.proofs.WrittenPlan.{plan_of, written_plan, written_shares, written_count, written_length}
use Rattle.price_writing.proofs.WrittenPrices.{length_price_list, written_prices, written_price_list}

module _ (site : Site) (valid : ValidSite site) where
  abbrev jobs : List Job
  jobs = site.jobs

  abbrev bounds : List ℕ
  bounds = site.bounds

  abbrev ws : List Point
  ws = working_of site.processor

  abbrev N : ℕ
  N = interval_count bounds

  intervals_few : N ≤ max_intervals
  intervals_few = omega (arith, valid.few_bounds)

  few : length jobs ≤ 64
  few = valid.jobs.few

  -- shares that give each job its cycles fit 32 bits
  share_fits : (shares : Shares) → Gives (top_of site.processor) jobs bounds shares
      → (i j : ℕ) → i < N → j < length jobs → shares i j < 2 ^ 32
  share_fits shares gives i j below inside =
      omega (arith, sum_term (N) (λ k. shares k j) i below, gives.whole j inside, valid.jobs.cycles_high j inside)

  module _ (shares : Shares) (gives : Gives (top_of site.processor) jobs bounds shares)
      (prices : PriceList) (byte : (i : ℕ) → i < N → prices i < 256) (fitting : FittingPrices ws jobs bounds shares prices)
      (least : (others : PriceList) → FittingPrices ws jobs bounds shares others → (i : ℕ) → i < N → prices i ≤ others i)
      (ends : ℕ → ℕ) (are-ends : (i : ℕ) → i < N → (ends i ≡ bound_at bounds (suc i)) × (ends i < 2 ^ 32))
      (loads : List ℕ) (loaded : (i : ℕ) → i < N → get_or loads i 0 ≡ load jobs shares i) where
    abbrev plan : List ℕ
    plan = plan_of (length jobs) (N) shares

    abbrev list : List ℕ
    list = encode_prices (N) ends prices

    fit : (i j : ℕ) → i < N → j < length jobs → shares i j < 2 ^ 32
    fit = share_fits shares gives

    same : (i j : ℕ) → i < N → j < length jobs → shares_of plan i j ≡ shares i j
    same = written_shares (length jobs) (N) shares few intervals_few fit

    read_prices : (i : ℕ) → i < N → prices_of list i ≡ prices i
    read_prices i below = written_prices (N) ends prices intervals_few i below (byte i below)

    accepted : Accepted site plan list
    accepted =
        record {
          is-plan = written_plan jobs bounds shares gives.shut few intervals_few fit;
          gives = gives_same jobs bounds shares (shares_of plan) same gives;
          is_price_list = written_price_list bounds ends prices intervals_few are-ends;
          fitting = prices_same jobs bounds shares (shares_of plan) same read_prices fitting;
        }

    figure : figure_of_loads ws bounds loads ≡ figure_of site plan
    figure =
        figure_of_plan ws jobs bounds loads (shares_of plan)
        (λ i below. loaded i below ∙ sym (load_same jobs bounds shares (shares_of plan) same i below))

    pub plan_planned : (steps energy : ℕ) (table : List ℕ) → steps ≡ length (steps_of (length jobs) N shares) → steps ≤ step_limit site
        → energy ≡ figure_of_loads ws bounds loads → length table ≡ length jobs * N
        → ((i j : ℕ) → i < N → j < length jobs → get_or table (i * length jobs + j) 0 ≡ shares i j)
        → Planned site N steps energy plan list table
    plan_planned steps energy table steps_are few-are energy-is sized held =
        let counted : step_count plan ≡ steps = written_count (length jobs) N shares few intervals_few fit ∙ sym steps_are in
        record {
          interval-count = refl;
          plan_size = rw (← counted) (written_length (length jobs) N shares few intervals_few fit);
          step_count_is = counted;
          few = few-are;
          price_size = length_price_list N ends prices;
          accepted = (check_accepts site plan list energy).1 (accepted, energy-is ∙ figure);
          smallest = λ others e i below.
              let (other, _) = (check_accepts site plan others energy).0 e in
              let fits : FittingPrices ws jobs bounds shares (prices_of others) =
              prices_same jobs bounds (shares_of plan) shares (λ i j below inside. sym (same i j below inside)) (λ i below. refl) other.fitting in
              rw (read_prices i below) (least (prices_of others) fits i below);
          share-count = sized;
          same_shares = λ i j below inside. held i j below inside ∙ sym (same i j below inside);
        }
