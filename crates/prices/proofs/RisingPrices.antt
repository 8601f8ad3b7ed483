-- Laws of rising prices: the least bands of the loads are no higher than any prices that fit; a raise that a job forces is
-- forced on every such list, and leaves less room below the last band; and where no job forces a raise the prices fit.
-- Assumes nothing.
use mathlib.Core.Path.{◌≡◌}
use mathlib.Core.Logic.{◌⊎◌, inl, inr}
use Prim.Native.Nat.{ℕ, suc, ◌<◌, ◌≤◌, max}
use native.Mathlib.Omega.{arith}
use Rattle.model.specs.Plans.{Shares}
use Rattle.model.proofs.Numbers.{lt_or_le}
use Rattle.model.proofs.Sum.{sum_strict}
use Rattle.workloads.specs.Placement.{Problem, SoundProblem, Priced, load_of, SmallestPriced}
use Rattle.workloads.proofs.Capacity.{capacity_mono}
use Rattle.prices.specs.RisingPrices.{LeastBand, JobRaise, Rising, Settled, room_left}
use Rattle.prices.proofs.RaisedPrices.{raised_case, raised_up}

module _ {p : Problem} (sound : SoundProblem p) {shares : Shares} {fitting : ℕ → ℕ} (fits : Priced p shares fitting) {prices : ℕ → ℕ} where
  -- the least bands of the loads
  pub rising_start : ((i : ℕ) → i < p.intervals → LeastBand p.frequency p.bands (p.size i) (load_of p shares i) (prices i)) → Rising p shares prices
  rising_start least =
      record {
        high = λ i inside. (least i inside).enough (omega (arith, smallest fitting fits i inside, fits.band i inside));
        smallest = smallest;
      }
    where
      smallest : (others : ℕ → ℕ) → Priced p shares others → (i : ℕ) → i < p.intervals → prices i ≤ others i
      smallest others others-fit i inside = go (lt_or_le (others i) (prices i))
        where
          go : (others i < prices i) ⊎ (prices i ≤ others i) → prices i ≤ others i
          go (inl lower) = absurd (omega (arith, (least i inside).passed (others i) lower, others-fit.high i inside))
          go (inr order) = order

  module _ (rising : Rising p shares prices) where
    below_last : (i : ℕ) → i < p.intervals → prices i < p.bands
    below_last i inside = omega (arith, rising.smallest fitting fits i inside, fits.band i inside)

    -- a raise that a job forces
    module _ {j : ℕ} {after : ℕ → ℕ} (below : j < p.jobs) (raise : JobRaise shares prices after j (p.first j) (p.last j)) where
      in_window : {k : ℕ} → k < p.last j → k < p.intervals
      in_window inside = omega (arith, sound.inside j below)

      after_smallest : (others : ℕ → ℕ) → Priced p shares others → (k : ℕ) → k < p.intervals → after k ≤ others k
      after_smallest others others-fit k inside = go (raised_case raise.raised k)
        where
          go : (after k ≡ prices k) ⊎ ((p.first j ≤ k) × (k < p.last j) × (after k ≡ max (prices k) raise.price)) → after k ≤ others k
          go (inl same) = omega (arith, rising.smallest others others-fit k inside)
          go (inr (from, to, up)) =
              let source = in_window raise.from_last in
              omega (
                arith,
                rising.smallest others others-fit k inside,
                raise.price_most,
                rising.smallest others others-fit raise.from source,
                others-fit.cheapest raise.from k j source inside below raise.share (record { from = from; to = to }),
              )

      pub rising_raised : Rising p shares after
      rising_raised =
          record {
            high = λ k inside.
                let order : suc (prices k) ≤ suc (after k) = omega (arith, raised_up raise.raised k) in
                let top : suc (after k) ≤ p.bands = omega (arith, after_smallest fitting fits k inside, fits.band k inside) in
                omega (arith, rising.high k inside, capacity_mono sound k (suc (prices k)) (suc (after k)) order top);
            smallest = after_smallest;
          }

      pub room_falls : room_left p.intervals p.bands after < room_left p.intervals p.bands prices
      room_falls =
          let lower = in_window raise.lower_last in
          sum_strict p.intervals raise.lower lower (λ k inside. let up = raised_up raise.raised k in omega arith)
          (let here = raise.raised.inside raise.lower raise.lower_first raise.lower_last in
          let last = below_last raise.from (in_window raise.from_last) in
          let is_lower = raise.is_lower in
          omega (arith, raise.price_most))

    -- where no job forces a raise the prices fit
    pub rising_fits : ((j : ℕ) → j < p.jobs → Settled p shares prices j) → SmallestPriced p shares prices
    rising_fits settled =
        record {
          priced =
              record {
                shut = fits.shut;
                band = below_last;
                low = λ i inside.
                    let top : fitting i ≤ p.bands = omega (arith, fits.band i inside) in
                    omega (arith, fits.low i inside, capacity_mono sound i (prices i) (fitting i) (rising.smallest fitting fits i inside) top);
                high = rising.high;
                cheapest = λ i other j inside next below. settled j below i other inside next;
              };
          smallest = rising.smallest;
        }
