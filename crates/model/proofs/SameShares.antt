-- What is asked of shares and prices only looks at the jobs and the intervals that there are, and the energy of shares at the loads.
-- Assumes nothing.
use mathlib.Core.Path.{◌≡◌, ◌∙◌, ap}
use mathlib.Core.List.{List}
use Prim.Native.Nat.{ℕ, ◌*◌, ◌/◌, ◌<◌}
use native.Mathlib.Omega.{arith}
use lib.ListN.{length}
use Rattle.model.specs.declared.Job.{Job}
use Rattle.model.specs.Sum.{sum}
use Rattle.model.specs.Points.{Point}
use Rattle.model.specs.Intervals.{interval_count, length_of}
use Rattle.model.specs.Plans.{Shares, Gives, load}
use Rattle.model.specs.Bands.{band_count, rise, gap}
use Rattle.model.specs.Energy.{interval_energy, exact_energy, band_total, energy_figure}
use Rattle.model.specs.Prices.{PriceList, FittingPrices}
use Rattle.model.proofs.Sum.{sum_cong}

module _ (jobs : List Job) (bounds : List ℕ) (a b : Shares)
    (same : (i : ℕ) → i < interval_count bounds → load jobs b i ≡ load jobs a i) where
  pub exact_loads : (ws : List Point) → exact_energy ws jobs bounds b ≡ exact_energy ws jobs bounds a
  unfolding exact_energy
  exact_loads ws = sum_cong (interval_count bounds) (λ i below. ap (interval_energy ws (length_of bounds i)) (same i below))

  band_loads : (ws : List Point) (k : ℕ) → band_total ws jobs bounds b k ≡ band_total ws jobs bounds a k
  unfolding band_total
  band_loads ws k = sum_cong (interval_count bounds) (λ i below. rw (same i below))

  pub figure_loads : (ws : List Point) → energy_figure ws jobs bounds b ≡ energy_figure ws jobs bounds a
  unfolding energy_figure
  figure_loads ws =
      let bands : sum (band_count ws) (λ k. band_total ws jobs bounds b k * rise ws k / gap ws k)
      ≡ sum (band_count ws) (λ k. band_total ws jobs bounds a k * rise ws k / gap ws k) =
      sum_cong (band_count ws) (λ k below. ap (λ (cycles : ℕ). cycles * rise ws k / gap ws k) (band_loads ws k)) in
      rw bands

module _ (jobs : List Job) (bounds : List ℕ) (a b : Shares)
    (same : (i j : ℕ) → i < interval_count bounds → j < length jobs → b i j ≡ a i j) where
  pub load_same : (i : ℕ) → i < interval_count bounds → load jobs b i ≡ load jobs a i
  unfolding load
  load_same i below = sum_cong (length jobs) (λ j inside. same i j below inside)

  pub gives_same : {top : ℕ} → Gives top jobs bounds a → Gives top jobs bounds b
  gives_same gives =
      record {
        whole = λ j inside. sum_cong (interval_count bounds) (λ i below. same i j below inside) ∙ gives.whole j inside;
        shut = λ i j below inside closed. same i j below inside ∙ gives.shut i j below inside closed;
        fits = λ i below. rw (load_same i below) (gives.fits i below);
      }

  pub prices_same : {ws : List Point} {p q : PriceList} → ((i : ℕ) → i < interval_count bounds → q i ≡ p i)
      → FittingPrices ws jobs bounds a p → FittingPrices ws jobs bounds b q
  prices_same {ws} {p} {q} equal fitting =
      record {
        number = λ i below. rw (equal i below) (fitting.number i below);
        fits = λ i below. rw (equal i below, load_same i below) (fitting.fits i below);
        cheapest = λ i other j below there inside share opened.
            let more : 0 < a i j = omega (arith, same i j below inside) in
            omega (arith, equal i below, equal other there, fitting.cheapest i other j below there inside more opened);
      }

  pub exact_same : (ws : List Point) → exact_energy ws jobs bounds b ≡ exact_energy ws jobs bounds a
  exact_same = exact_loads jobs bounds a b load_same

  pub figure_same : (ws : List Point) → energy_figure ws jobs bounds b ≡ energy_figure ws jobs bounds a
  figure_same = figure_loads jobs bounds a b load_same
