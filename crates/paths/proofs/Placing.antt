-- Laws of placing a job: no job has more than its cycles, and no reached interval has a price below the band, so that one with
-- room at the band, a target, has the band for its price.
-- Assumes nothing.
use mathlib.Core.Path.{◌≡◌}
use mathlib.Core.Logic.{◌⊎◌, inl, inr}
use Prim.Native.Nat.{ℕ, zero, suc, ◌*◌, ◌<◌, ◌≤◌}
use native.Mathlib.Nat.{eq-or-lt_of_le, eq-zero-or-pos}
use native.Mathlib.Decide.{ℕ_discrete}
use native.Mathlib.Omega.{arith}
use Rattle.model.specs.Plans.{Shares}
use Rattle.workloads.specs.Placement.{Problem, SoundProblem, Open, load_of, placed_of}
use Rattle.workloads.proofs.Capacity.{capacity_mono, open-below}
use Rattle.searching.specs.Reached.{Reached}
use Rattle.paths.specs.Placing.{Placing}

-- no job has more than its cycles
pub placed_most : {p : Problem} {shares : Shares} {prices lefts : ℕ → ℕ} {job left band : ℕ} → Placing p shares prices lefts job left band
    → (j : ℕ) → j < p.jobs → placed_of p shares j ≤ p.cycles j
placed_most {p} {shares} {job = job} placing j below = go (ℕ_discrete j job)
  where
    go : Dec (j ≡ job) → placed_of p shares j ≤ p.cycles j
    go (yes its) = rw its (omega (arith, placing.here))
    go (no other) = omega (arith, placing.others j below other)

module _ {p : Problem} (sound : SoundProblem p) {shares : Shares} {prices lefts : ℕ → ℕ} {job left band count start end : ℕ} {reached source : ℕ → ℕ}
    (placing : Placing p shares prices lefts job left band) (now : Reached p shares job count reached source start end) where
  -- by the order in which the jobs were reached
  price_before : (n s : ℕ) → s < n → s < count → (i : ℕ) → Open p i (reached s) → band ≤ prices i
  price_before zero s early below i is_open_true = absurd (omega arith)
  price_before (suc n) s early below i is_open_true = go (eq-zero-or-pos s) (price_before n)
    where
      inside : i < p.intervals
      inside = open-below sound (now.job_below s below) is_open_true

      go : (s ≡ 0) ⊎ (0 < s) → ((r : ℕ) → r < n → r < count → (i : ℕ) → Open p i (reached r) → band ≤ prices i) → band ≤ prices i
      go (inl e) step = placing.reaches i inside (rw (e, now.origin) at is_open_true)
      go (inr more) step =
          let (r, less, from) = now.source_reached s more below in
          let cheapest = placing.priced.cheapest (source s) i (reached s) (now.source_below s more below) inside (now.job_below s below)
          (now.source_share s more below) is_open_true in
          omega (arith, step r (omega arith) (omega arith) (source s) from)

  -- no interval in which a reached job is open has a price below the band
  pub price_reached : {s i : ℕ} → s < count → Open p i (reached s) → band ≤ prices i
  price_reached {s} {i} below is_open_true = price_before (suc s) s (omega arith) below i is_open_true

  -- a reached interval with room at the band has the band for its price
  pub price_of_target : {target : ℕ} → start ≤ target → target < end → load_of p shares target < p.size target * p.frequency (suc band)
      → prices target ≡ band
  price_of_target {target} from to room =
      let (s, below, is_open_true) = now.covered target from to in
      go (eq-or-lt_of_le (price_reached below is_open_true))
    where
      inside : target < p.intervals
      inside = omega (arith, now.end_below)

      go : (band ≡ prices target) ⊎ (band < prices target) → prices target ≡ band
      go (inl e) = omega arith
      go (inr above) =
          let top = placing.priced.band target inside in
          absurd (omega (arith, capacity_mono sound target (suc band) (prices target) above (omega arith), placing.priced.low target inside))
