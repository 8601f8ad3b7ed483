-- The earliest release and the latest deadline: bounds of all, and met by one.
-- Assumes nothing.
use mathlib.Core.Path.{◌≡◌, refl}
use mathlib.Core.Logic.{◌⊎◌, inl, inr}
use mathlib.Core.List.{List, [], ◌∷◌}
use Prim.Native.Nat.{ℕ, zero, suc, ◌<◌, ◌≤◌}
use native.Mathlib.Omega.{arith}
use lib.ListN.{length}
use Rattle.model.specs.declared.Job.{Job}
use Rattle.model.specs.Jobs.{job_of}
use Rattle.model.specs.Intervals.{earliest_release, latest_deadline}
use Rattle.model.proofs.Numbers.{lt_or_le}

pub earliest_low : (jobs : List Job) (j : ℕ) → j < length jobs → earliest_release jobs ≤ (job_of jobs j).release
unfolding earliest_release
earliest_low [] j below = absurd (omega arith)
earliest_low (job ∷ []) zero below = omega arith
earliest_low (job ∷ []) (suc j) below = absurd (omega arith)
earliest_low (job ∷ next ∷ jobs) zero below = omega arith
earliest_low (job ∷ next ∷ jobs) (suc j) below = omega (arith, earliest_low (next ∷ jobs) j (omega arith))

pub earliest_met : (jobs : List Job) → 0 < length jobs → (j : ℕ) × (j < length jobs) × ((job_of jobs j).release ≡ earliest_release jobs)
unfolding earliest_release
earliest_met [] some = absurd (omega arith)
earliest_met (job ∷ []) some = (0, omega arith, refl)
earliest_met (job ∷ next ∷ jobs) some = go (lt_or_le job.release (earliest_release (next ∷ jobs))) (earliest_met (next ∷ jobs) (omega arith))
  where
    go : (job.release < earliest_release (next ∷ jobs)) ⊎ (earliest_release (next ∷ jobs) ≤ job.release)
        → (j : ℕ) × (j < length (next ∷ jobs)) × ((job_of (next ∷ jobs) j).release ≡ earliest_release (next ∷ jobs))
        → (j : ℕ) × (j < length (job ∷ next ∷ jobs)) × ((job_of (job ∷ next ∷ jobs) j).release ≡ earliest_release (job ∷ next ∷ jobs))
    go (inl less) rest = (0, omega arith, omega arith)
    go (inr least) rest = (suc rest.0, omega (arith, rest.1), omega (arith, rest.2))

pub latest_high : (jobs : List Job) (j : ℕ) → j < length jobs → (job_of jobs j).deadline ≤ latest_deadline jobs
unfolding latest_deadline
latest_high [] j below = absurd (omega arith)
latest_high (job ∷ jobs) zero below = omega arith
latest_high (job ∷ jobs) (suc j) below = omega (arith, latest_high jobs j (omega arith))

pub latest_met : (jobs : List Job) → 0 < length jobs → (j : ℕ) × (j < length jobs) × ((job_of jobs j).deadline ≡ latest_deadline jobs)
unfolding latest_deadline
latest_met [] some = absurd (omega arith)
latest_met (job ∷ []) some = (0, omega arith, omega arith)
latest_met (job ∷ next ∷ jobs) some = go (lt_or_le (latest_deadline (next ∷ jobs)) job.deadline) (latest_met (next ∷ jobs) (omega arith))
  where
    go : (latest_deadline (next ∷ jobs) < job.deadline) ⊎ (job.deadline ≤ latest_deadline (next ∷ jobs))
        → (j : ℕ) × (j < length (next ∷ jobs)) × ((job_of (next ∷ jobs) j).deadline ≡ latest_deadline (next ∷ jobs))
        → (j : ℕ) × (j < length (job ∷ next ∷ jobs)) × ((job_of (job ∷ next ∷ jobs) j).deadline ≡ latest_deadline (job ∷ next ∷ jobs))
    go (inl more) rest = (0, omega arith, omega arith)
    go (inr most) rest = (suc rest.0, omega (arith, rest.1), omega (arith, rest.2))

pub latest_none : (jobs : List Job) → length jobs ≡ 0 → latest_deadline jobs ≡ 0
unfolding latest_deadline
latest_none [] none = refl
latest_none (job ∷ jobs) none = absurd (omega arith)
