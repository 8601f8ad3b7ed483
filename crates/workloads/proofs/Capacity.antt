-- What an interval holds at a frequency: more at a higher one, at least its load at the top one, and it fits a machine number.
-- Assumes nothing.
use mathlib.Core.Path.{◌≡◌}
use mathlib.Core.Logic.{◌⊎◌, inl, inr}
use Prim.Native.Nat.{ℕ, suc, ◌*◌, ◌<◌, ◌≤◌}
use native.Mathlib.Nat.{eq-or-lt_of_le, mul-le-mul, mul-le-mul_left}
use native.Mathlib.Omega.{arith}
use Rattle.model.specs.Limits.{max_frequency, max_deadline}
use Rattle.model.specs.Plans.{Shares}
use Rattle.model.proofs.Numbers.{rises_between}
use Rattle.workloads.specs.Workloads.{Workload}
use Rattle.workloads.specs.Placement.{Problem, SoundProblem, Open, load_of, Priced}
use Rattle.workloads.specs.Arrays.{numbers_in, SoundWorkload}

module _ {p : Problem} (sound : SoundProblem p) where
  frequency_mono : (k l : ℕ) → k ≤ l → l ≤ p.bands → p.frequency k ≤ p.frequency l
  frequency_mono k l order inside = go (eq-or-lt_of_le order)
    where
      go : (k ≡ l) ⊎ (k < l) → p.frequency k ≤ p.frequency l
      go (inl same) = rw same (omega arith)
      go (inr less) = omega (arith, rises_between p.frequency (suc p.bands) (λ i h. sound.rises i (omega arith)) k l less (omega arith))

  -- what an interval holds at a frequency
  pub capacity_mono : (i k l : ℕ) → k ≤ l → l ≤ p.bands → p.size i * p.frequency k ≤ p.size i * p.frequency l
  capacity_mono i k l order inside = mul-le-mul_left (p.size i) (frequency_mono k l order inside)

  -- no interval is loaded past the top frequency
  pub load_most : {shares : Shares} {prices : ℕ → ℕ} → Priced p shares prices → (i : ℕ) → i < p.intervals
      → load_of p shares i ≤ p.size i * p.frequency p.bands
  load_most {prices = prices} priced i inside =
      omega (arith, priced.high i inside, capacity_mono i (suc (prices i)) p.bands (priced.band i inside) (omega arith))

  -- a job is open in intervals that exist
  pub open-below : {i j : ℕ} → j < p.jobs → Open p i j → i < p.intervals
  open-below {i} {j} below is_open_true = omega (arith, sound.inside j below)

-- within the limits of document 01
pub capacity_most : {work : Workload} → SoundWorkload work → (i k : ℕ) → i < work.intervals → k ≤ work.bands
    → numbers_in work.size i * numbers_in work.frequency k ≤ max_deadline * max_frequency
capacity_most work i k inside within = mul-le-mul (work.size_most i inside) (work.frequency_most k within)
