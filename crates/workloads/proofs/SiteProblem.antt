-- Laws of what is to be placed for a site: it is sound; once all jobs are placed the shares are a plan that gives each job
-- its cycles, and their prices, counted from 1, fit; and a range that holds too little is an overfull window.
-- Assumes nothing.
use mathlib.Core.Path.{◌≡◌, sym, ◌∙◌}
use mathlib.Core.Bool.{true, false, ◌&&◌}
use mathlib.Core.Logic.{◌⊎◌, inl, inr, ◌↔◌}
use mathlib.Core.List.{List}
use Prim.Native.Nat.{ℕ, suc, ◌+◌, ◌-◌, ◌*◌, ◌<◌, ◌≤◌}
use native.Mathlib.Nat.{eq-zero-or-pos}
use native.Mathlib.Omega.{arith}
use lib.ListN.{length}
use lib.Dec.{leb}
use borrow.Author.Tests.{leb-true}
use Rattle.model.specs.declared.Job.{Job}
use Rattle.model.specs.Sum.{sum, only_if}
use Rattle.model.specs.Jobs.{job_of}
use Rattle.model.specs.Points.{Point}
use Rattle.model.specs.Bands.{band_count, frequency_of, Curve}
use Rattle.model.specs.Intervals.{Bounds, bound_at, interval_count, length_of, is_open, OpenRange}
use Rattle.model.specs.Windows.{is_inside, cycles_inside, is_overfull}
use Rattle.model.specs.Plans.{Shares, load, Gives}
use Rattle.model.specs.Prices.{FittingPrices, is_band_number, fits_load}
use Rattle.model.proofs.Numbers.{true≢false, both_true}
use Rattle.model.proofs.Sum.{sum_mono}
use Rattle.model.proofs.SumMore.{only_if_mono}
use Rattle.model.proofs.Intervals.{length_positive, lengths_add, bounds_mono}
use Rattle.model.proofs.Windows.{inside_iff, overfull_iff}
use Rattle.model.proofs.LeastEnergy.{fitting_is_between}
use Rattle.workloads.specs.Placement.{SoundProblem, Open, Priced, Placed}
use Rattle.workloads.specs.RangesFit.{is_within}
use Rattle.workloads.specs.SiteProblem.{problem_of}
use Rattle.workloads.proofs.Capacity.{load_most}

module _ {ws : List Point} {jobs : List Job} {bounds : List ℕ} {first last : ℕ → ℕ}
    (curve : Curve ws) (B : Bounds jobs bounds) (ranges : (j : ℕ) → j < length jobs → OpenRange jobs bounds j (first j) (last j)) where
  pub problem_sound : SoundProblem (problem_of ws jobs bounds first last)
  problem_sound =
      record {
        window = λ j below. (ranges j below).nonempty;
        inside = λ j below. (ranges j below).within;
        some_band = omega (arith, curve.some);
        start = curve.start;
        rises = curve.frequency_rises;
      }

  -- open in one sense is open in the other
  pub open_iff : (i j : ℕ) → i < interval_count bounds → j < length jobs
      → (is_open bounds (job_of jobs j) i ≡ true) ↔ Open (problem_of ws jobs bounds first last) i j
  open_iff i j inside below =
      let range = (ranges j below).exactly i inside in (
        λ e. let h = range.0 e in record { from = h.0; to = h.1 },
        λ o. range.1 (o.from, o.to),
      )

  module _ {shares : Shares} {prices : ℕ → ℕ} (priced : Priced (problem_of ws jobs bounds first last) shares prices) where
    most : (i : ℕ) → i < interval_count bounds → load jobs shares i ≤ length_of bounds i * frequency_of ws (band_count ws)
    unfolding load
    most i inside = load_most problem_sound priced i inside

    between : (i : ℕ) → i < interval_count bounds
        → (is_band_number ws (suc (prices i)) && fits_load ws (length_of bounds i) (load jobs shares i) (suc (prices i))) ≡ true
    unfolding load
    between i inside =
        (fitting_is_between ws curve (length_of bounds i) (load jobs shares i) (length_positive B i inside) (most i inside) (prices i)).1
        (priced.band i inside, priced.low i inside, priced.high i inside)

    -- the prices fit, counted from 1
    pub priced_fit : FittingPrices ws jobs bounds shares (λ i. suc (prices i))
    priced_fit =
        record {
          number = λ i inside. (both_true (is_band_number ws (suc (prices i))) _ (between i inside)).0;
          fits = λ i inside. (both_true (is_band_number ws (suc (prices i))) _ (between i inside)).1;
          cheapest = λ i other j inside next below share is_open_true.
              omega (arith, priced.cheapest i other j inside next below share ((open_iff other j next below).0 is_open_true));
        }

  -- all jobs have their cycles
  pub placed_gives : {shares : Shares} {prices : ℕ → ℕ} → Placed (problem_of ws jobs bounds first last) shares prices
      → {top : ℕ} → frequency_of ws (band_count ws) ≡ top → Gives top jobs bounds shares
  placed_gives {shares} placed is-top =
      record {
        whole = placed.whole;
        shut = λ i j inside below is-shut. go i j inside below is-shut (eq-zero-or-pos (shares i j));
        fits = λ i inside. rw (← is-top) (most placed.priced i inside);
      }
    where
      go : (i j : ℕ) → i < interval_count bounds → j < length jobs → is_open bounds (job_of jobs j) i ≡ false
          → (shares i j ≡ 0) ⊎ (0 < shares i j) → shares i j ≡ 0
      go i j inside below is-shut (inl nothing) = nothing
      go i j inside below is-shut (inr share) =
          absurd (true≢false (sym ((open_iff i j inside below).1 (placed.priced.shut i j inside below share)) ∙ is-shut))

  -- a job whose window lies in a range of intervals lies inside the window between their bounds
  within_inside : (start end j : ℕ) → end ≤ interval_count bounds → j < length jobs
      → is_within (problem_of ws jobs bounds first last) start end j ≡ true
      → is_inside (bound_at bounds start) (bound_at bounds end) (job_of jobs j) ≡ true
  within_inside start end j inside below e =
      let (from, to) = both_true (leb start (first j)) (leb (last j) end) e in
      let range = ranges j below in
      let some = range.nonempty in
      let within = range.within in
      let low = bounds_mono B start (first j) (leb-true _ _ from) (omega arith) in
      let high = bounds_mono B (last j) end (leb-true _ _ to) (omega arith) in
      (inside_iff (bound_at bounds start) (bound_at bounds end) (job_of jobs j)).1 (omega (arith, range.starts), omega (arith, range.ends))

  -- a range that holds less than the jobs inside need is an overfull window
  pub window_overfull : {top : ℕ} → frequency_of ws (band_count ws) ≡ top → {start end : ℕ} → start ≤ end → end ≤ interval_count bounds
      → sum (end - start) (λ d. length_of bounds (start + d)) * frequency_of ws (band_count ws)
      < sum (length jobs) (λ j. only_if (is_within (problem_of ws jobs bounds first last) start end j) (job_of jobs j).cycles)
      → is_overfull top jobs (bound_at bounds start) (bound_at bounds end) ≡ true
  unfolding cycles_inside
  window_overfull {top} is-top {start} {end} order inside more =
      let e : start + (end - start) ≡ end = omega arith in
      let reach : bound_at bounds start + sum (end - start) (λ d. length_of bounds (start + d)) ≡ bound_at bounds end =
      rw e at (lengths_add B start (end - start) (omega arith)) in
      let size : bound_at bounds end - bound_at bounds start ≡ sum (end - start) (λ d. length_of bounds (start + d)) = omega arith in
      let cycles : sum (length jobs) (λ j. only_if (is_within (problem_of ws jobs bounds first last) start end j) (job_of jobs j).cycles)
      ≤ cycles_inside jobs (bound_at bounds start) (bound_at bounds end) =
      sum_mono (length jobs) (λ j below. only_if_mono _ _ (job_of jobs j).cycles (within_inside start end j inside below)) in
      (overfull_iff top jobs (bound_at bounds start) (bound_at bounds end)).1 (rw (size, ← is-top) (omega arith))
