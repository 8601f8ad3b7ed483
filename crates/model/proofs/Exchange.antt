-- The exchange step of the certificate. Intervals have weights, a plan gives shares only where a job is open and only
-- where the weight is least for that job, and another supply gives each job in its open intervals at least q times what the
-- plan gives it. Then the supply, weighted, is at least q times the plan, weighted.
-- Nothing here knows of levels or of schedules.
-- Assumes nothing.
use mathlib.Core.Path.{◌≡◌, refl}
use mathlib.Core.Bool.{Bool, true, false}
use mathlib.Core.Logic.{◌⊎◌, inl, inr}
use Prim.Native.Nat.{ℕ, zero, suc, ◌*◌, ◌<◌, ◌≤◌}
use native.Mathlib.Nat.{eq-zero-or-pos, mul-le-mul_left, mul-le-mul_right}
use native.Mathlib.Omega.{arith}
use Rattle.model.specs.Sum.{sum, only_if}
use Rattle.model.proofs.Sum.{sum_mono, sum_swap, sum_mul_left, sum_mul_right, sum_pos}

-- A plan and another supply, by interval and job.
pub record Exchange (intervals jobs q : ℕ) (is_open : ℕ → ℕ → Bool) (weight : ℕ → ℕ) (shares supply : ℕ → ℕ → ℕ) : Type 0 where
  pub inside : (i j : ℕ) → i < intervals → j < jobs → 0 < shares i j → is_open i j ≡ true
  pub cheapest : (i other j : ℕ) → i < intervals → other < intervals → j < jobs → 0 < shares i j → is_open other j ≡ true
      → weight i ≤ weight other
  pub enough : (j : ℕ) → j < jobs → q * sum intervals (λ i. shares i j) ≤ sum intervals (λ i. only_if (is_open i j) (supply i j))

share_at : (share weight price : ℕ) → (0 < share → weight ≤ price) → share * weight ≤ share * price
share_at zero weight price h = omega arith
share_at (suc share) weight price h = mul-le-mul_left (suc share) (h (omega arith))

share_pos : (share weight : ℕ) → 0 < share * weight → 0 < share
share_pos zero weight more = absurd (omega arith)
share_pos (suc share) weight more = omega arith

supply_at : (t : Bool) (supply weight price : ℕ) → (t ≡ true → price ≤ weight) → only_if t supply * price ≤ supply * weight
supply_at true supply weight price h = mul-le-mul_left supply (h refl)
supply_at false supply weight price h = omega arith

module _ {intervals jobs q : ℕ} {is_open : ℕ → ℕ → Bool} {weight : ℕ → ℕ} {shares supply : ℕ → ℕ → ℕ}
    (E : Exchange intervals jobs q is_open weight shares supply) where
  -- For one job: the weight of any interval in which the plan gives it something serves as its price.
  exchange_job : (j : ℕ) → j < jobs → q * sum intervals (λ i. shares i j * weight i) ≤ sum intervals (λ i. supply i j * weight i)
  exchange_job j job = go (eq-zero-or-pos (sum intervals (λ i. shares i j * weight i)))
    where
      go : (sum intervals (λ i. shares i j * weight i) ≡ 0) ⊎ (0 < sum intervals (λ i. shares i j * weight i))
          → q * sum intervals (λ i. shares i j * weight i) ≤ sum intervals (λ i. supply i j * weight i)
      go (inl nothing) = rw nothing (omega arith)
      go (inr something) =
          let found = sum_pos intervals (λ i. shares i j * weight i) something in
          let share : 0 < shares found.0 j = share_pos _ _ found.2 in
          let price : ℕ = weight found.0 in
          let open_there = E.inside found.0 j found.1 job share in
          let plan : sum intervals (λ i. shares i j * weight i) ≤ sum intervals (λ i. shares i j) * price =
          rw (← sum_mul_right intervals price (λ i. shares i j))
          (sum_mono intervals (λ i h. share_at (shares i j) (weight i) price (λ more. E.cheapest i found.0 j h found.1 job more open_there))) in
          let rival : sum intervals (λ i. only_if (is_open i j) (supply i j)) * price ≤ sum intervals (λ i. supply i j * weight i) =
          rw (← sum_mul_right intervals price (λ i. only_if (is_open i j) (supply i j)))
          (sum_mono intervals (λ i h. supply_at (is_open i j) (supply i j) (weight i) price
          (λ is_open_true. E.cheapest found.0 i j found.1 h job share is_open_true))) in
          omega (arith, mul-le-mul_left q plan, mul-le-mul_right price (E.enough j job))

  -- the jobs together
  pub exchange : q * sum intervals (λ i. sum jobs (shares i) * weight i) ≤ sum intervals (λ i. sum jobs (supply i) * weight i)
  exchange =
      simp (← sum_mul_right)
      (rw (sum_swap intervals jobs (λ i j. shares i j * weight i), sum_swap intervals jobs (λ i j. supply i j * weight i), ← sum_mul_left)
      (sum_mono jobs exchange_job))
