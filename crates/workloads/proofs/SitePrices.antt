-- Laws that take what is placed and priced to a site's own terms: arrays that hold what is to be placed for a site; no
-- overfull window means that no range is overfull; and the smallest prices, counted from 1, are the smallest that fit.
-- Assumes nothing.
use mathlib.Core.Path.{◌≡◌, fun_ext, sym, ◌∙◌}
use mathlib.Core.Bool.{false}
use mathlib.Core.Logic.{◌⊎◌, inl, inr}
use mathlib.Core.List.{List}
use Prim.Native.Nat.{ℕ, suc, ◌+◌, ◌-◌, ◌*◌, ◌<◌, ◌≤◌}
use native.Mathlib.Omega.{arith}
use lib.ListN.{length}
use lib.Dec.{leb}
use borrow.Author.Tests.{leb-true}
use Rattle.model.specs.declared.Job.{Job}
use Rattle.model.specs.Sum.{sum, only_if}
use Rattle.model.specs.Jobs.{job_of}
use Rattle.model.specs.Points.{Point}
use Rattle.model.specs.Bands.{band_count, frequency_of, Curve}
use Rattle.model.specs.Intervals.{Bounds, interval_count, length_of, OpenRange}
use Rattle.model.specs.Windows.{is_overfull}
use Rattle.model.specs.Plans.{Shares, load}
use Rattle.model.specs.Prices.{PriceList, FittingPrices}
use Rattle.model.proofs.Numbers.{lt_or_le, true≢false, both_true}
use Rattle.model.proofs.Intervals.{length_positive}
use Rattle.model.proofs.LeastEnergy.{fitting_is_between}
use Rattle.workloads.specs.Workloads.{Workload}
use Rattle.workloads.specs.Placement.{OnlyOpen, Priced, SmallestPriced}
use Rattle.workloads.specs.RangesFit.{is_within, RangesFit}
use Rattle.workloads.specs.SiteProblem.{problem_of}
use Rattle.workloads.specs.Arrays.{numbers_in, problem_in}
use Rattle.workloads.proofs.Capacity.{load_most}
use Rattle.workloads.proofs.SiteProblem.{problem_sound, open_iff, priced_fit, window_overfull}

-- arrays with a site's numbers, zeros past them, hold what is to be placed for it
pub problem_same : (work : Workload) (ws : List Point) (jobs : List Job) (bounds : List ℕ)
    → work.jobs ≡ length jobs → work.intervals ≡ interval_count bounds → work.bands ≡ band_count ws
    → ((j : ℕ) → numbers_in work.cycles j ≡ (job_of jobs j).cycles)
    → ((i : ℕ) → numbers_in work.size i ≡ length_of bounds i)
    → ((k : ℕ) → numbers_in work.frequency k ≡ frequency_of ws k)
    → problem_in work ≡ problem_of ws jobs bounds (numbers_in work.first) (numbers_in work.last)
problem_same work ws jobs bounds job-count interval-count band-count cycles size frequency =
    λ k.
    record {
      jobs = job-count k;
      intervals = interval-count k;
      bands = band-count k;
      first = numbers_in work.first;
      last = numbers_in work.last;
      cycles = fun_ext cycles k;
      size = fun_ext size k;
      frequency = fun_ext frequency k;
    }

module _ {ws : List Point} {jobs : List Job} {bounds : List ℕ} {first last : ℕ → ℕ}
    (curve : Curve ws) (B : Bounds jobs bounds) (ranges : (j : ℕ) → j < length jobs → OpenRange jobs bounds j (first j) (last j)) where
  -- without an overfull window no range is overfull
  pub ranges-fit : {top : ℕ} → frequency_of ws (band_count ws) ≡ top → ((start end : ℕ) → is_overfull top jobs start end ≡ false)
      → RangesFit (problem_of ws jobs bounds first last)
  ranges-fit is-top fits start end order inside = go (lt_or_le (sum (end - start) (λ d. length_of bounds (start + d)) * frequency_of ws (band_count ws)) _)
    where
      go : (sum (end - start) (λ d. length_of bounds (start + d)) * frequency_of ws (band_count ws)
          < sum (length jobs) (λ j. only_if (is_within (problem_of ws jobs bounds first last) start end j) (job_of jobs j).cycles))
          ⊎ (sum (length jobs) (λ j. only_if (is_within (problem_of ws jobs bounds first last) start end j) (job_of jobs j).cycles)
          ≤ sum (end - start) (λ d. length_of bounds (start + d)) * frequency_of ws (band_count ws))
          → sum (length jobs) (λ j. only_if (is_within (problem_of ws jobs bounds first last) start end j) (job_of jobs j).cycles)
          ≤ sum (end - start) (λ d. length_of bounds (start + d)) * frequency_of ws (band_count ws)
      go (inl more) = absurd (true≢false (sym (window_overfull curve B ranges is-top order inside more) ∙ fits _ _))
      go (inr enough) = enough

  -- prices that fit are, counted from 0, fitting for what is placed
  module _ {shares : Shares} (shut : OnlyOpen (problem_of ws jobs bounds first last) shares)
      (most : (i : ℕ) → i < interval_count bounds → load jobs shares i ≤ length_of bounds i * frequency_of ws (band_count ws))
      {prices : PriceList} (fitting : FittingPrices ws jobs bounds shares prices) where
    pub counted : (i : ℕ) → i < interval_count bounds → prices i ≡ suc (prices i - 1)
    counted i inside =
        let some = leb-true 1 (prices i) (both_true (leb 1 (prices i)) (leb (prices i) (band_count ws)) (fitting.number i inside)).0 in
        omega arith

    between : (i : ℕ) → i < interval_count bounds
        → (prices i - 1 < band_count ws)
        × (length_of bounds i * frequency_of ws (prices i - 1) ≤ load jobs shares i)
        × (load jobs shares i ≤ length_of bounds i * frequency_of ws (suc (prices i - 1)))
    between i inside =
        (fitting_is_between ws curve (length_of bounds i) (load jobs shares i) (length_positive B i inside) (most i inside) (prices i - 1)).0
        (rw (← counted i inside, fitting.number i inside, fitting.fits i inside))

    pub fitting_priced : Priced (problem_of ws jobs bounds first last) shares (λ i. prices i - 1)
    unfolding load
    fitting_priced =
        record {
          shut = shut;
          band = λ i inside. (between i inside).0;
          low = λ i inside. (between i inside).1;
          high = λ i inside. (between i inside).2;
          cheapest = λ i other j inside next below share is_open_true.
              let order = fitting.cheapest i other j inside next below share ((open_iff curve B ranges other j next below).1 is_open_true) in
              omega arith;
        }

  module _ {shares : Shares} {prices : ℕ → ℕ} (smallest : SmallestPriced (problem_of ws jobs bounds first last) shares prices) where
    -- the smallest prices fit, counted from 1
    pub smallest_fit : FittingPrices ws jobs bounds shares (λ i. suc (prices i))
    smallest_fit = priced_fit curve B ranges smallest.priced

    most : (i : ℕ) → i < interval_count bounds → load jobs shares i ≤ length_of bounds i * frequency_of ws (band_count ws)
    unfolding load
    most = load_most (problem_sound curve B ranges) smallest.priced

    -- no prices that fit are smaller anywhere
    pub smallest_least : (others : PriceList) → FittingPrices ws jobs bounds shares others → (i : ℕ) → i < interval_count bounds → suc (prices i) ≤ others i
    smallest_least others fitting i inside =
        let priced = fitting_priced smallest.priced.shut most fitting in
        omega (arith, smallest.smallest (λ i. others i - 1) priced i inside, counted smallest.priced.shut most fitting i inside)
