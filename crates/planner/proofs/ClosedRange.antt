-- Laws of a search that found no target: every reached interval is full at the band and every job with a share there has its
-- whole window there, so all their prices can be raised past the band.
-- Assumes nothing.
use mathlib.Core.Path.{◌≡◌}
use mathlib.Core.Logic.{◌⊎◌, inl, inr}
use Prim.Native.Nat.{ℕ, suc, ◌*◌, ◌<◌, ◌≤◌, max}
use native.Mathlib.Omega.{arith}
use Rattle.model.specs.Plans.{Shares}
use Rattle.model.proofs.Numbers.{lt_or_le}
use Rattle.workloads.specs.Placement.{Problem, SoundProblem, Open, load_of}
use Rattle.workloads.proofs.Capacity.{capacity_mono}
use Rattle.searching.specs.Reached.{Closed}
use Rattle.searching.proofs.ReachedRange.{reached_open}
use Rattle.paths.specs.Placing.{Placing}
use Rattle.prices.specs.RisingPrices.{Raised}
use Rattle.prices.proofs.RaisedPrices.{raised_case, raised_up}

-- a job with a share in the range has its whole window there
pub window_closed : {p : Problem} {shares : Shares} {job band start end : ℕ} → Closed p shares job band start end
    → {i j : ℕ} → start ≤ i → i < end → j < p.jobs → 0 < shares i j → (start ≤ p.first j) × (p.last j ≤ end)
window_closed closed {i} {j} from to below share =
    let (s, listed, its) = (closed.scanned i from to).listed j below share in
    (rw its at (closed.now.from_start s listed), rw its at (closed.now.to_end s listed))

module _ {p : Problem} (sound : SoundProblem p) {shares : Shares} {prices lefts : ℕ → ℕ} {job left band start end : ℕ}
    (placing : Placing p shares prices lefts job left band) (closed : Closed p shares job band start end)
    (more : suc band < p.bands) {after : ℕ → ℕ} (raised : Raised start end (suc band) prices after) where
  raised_band : (i : ℕ) → i < p.intervals → after i < p.bands
  raised_band i inside = go (raised_case raised i)
    where
      go : (after i ≡ prices i) ⊎ ((start ≤ i) × (i < end) × (after i ≡ max (prices i) (suc band))) → after i < p.bands
      go (inl same) = omega (arith, placing.priced.band i inside)
      go (inr (from, to, up)) = omega (arith, placing.priced.band i inside)

  raised_low : (i : ℕ) → i < p.intervals → p.size i * p.frequency (after i) ≤ load_of p shares i
  raised_low i inside = go (raised_case raised i)
    where
      go : (after i ≡ prices i) ⊎ ((start ≤ i) × (i < end) × (after i ≡ max (prices i) (suc band)))
          → p.size i * p.frequency (after i) ≤ load_of p shares i
      go (inl same) = rw same (placing.priced.low i inside)
      go (inr (from, to, up)) = which (lt_or_le (prices i) (suc band))
        where
          which : (prices i < suc band) ⊎ (suc band ≤ prices i) → p.size i * p.frequency (after i) ≤ load_of p shares i
          which (inl less) = let e : after i ≡ suc band = omega arith in rw e (closed.scanned i from to).full
          which (inr above) = let e : after i ≡ prices i = omega arith in rw e (placing.priced.low i inside)

  raised_cheapest : (i other j : ℕ) → i < p.intervals → other < p.intervals → j < p.jobs → 0 < shares i j → Open p other j
      → after i ≤ after other
  raised_cheapest i other j inside next below share is_open_true = go (raised_case raised i)
    where
      order : prices i ≤ prices other
      order = placing.priced.cheapest i other j inside next below share is_open_true

      go : (after i ≡ prices i) ⊎ ((start ≤ i) × (i < end) × (after i ≡ max (prices i) (suc band))) → after i ≤ after other
      go (inl same) = omega (arith, order, raised_up raised other)
      go (inr (from, to, up)) =
          let (low, high) = window_closed closed from to below share in
          omega (arith, order, raised.inside other (omega arith) (omega arith))

  -- the next band
  pub placing_raised : Placing p shares after lefts job left (suc band)
  placing_raised =
      record {
        priced =
            record {
              shut = placing.priced.shut;
              band = raised_band;
              low = raised_low;
              high = λ i inside.
                  let order : suc (prices i) ≤ suc (after i) = omega (arith, raised_up raised i) in
                  omega (arith, placing.priced.high i inside, capacity_mono sound i (suc (prices i)) (suc (after i)) order (raised_band i inside));
              cheapest = raised_cheapest;
            };
        job_below = placing.job_below;
        here = placing.here;
        others = placing.others;
        band_below = more;
        reaches = λ i inside is_open_true.
            let (from, to) = reached_open closed.now {i = i} closed.now.some (rw closed.now.origin is_open_true) in
            omega (arith, raised.inside i from to);
      }
