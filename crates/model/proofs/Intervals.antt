-- Laws of the intervals between any bounds as the theory asks for: bounds rise with their numbers, the lengths of
-- consecutive intervals add up, a job is open in the one stretch of intervals between its release and its deadline,
-- and each tick lies in exactly one interval, in a job's window exactly when the job is open there.
-- Assumes nothing.
use mathlib.Core.Path.{◌≡◌}
use mathlib.Core.Bool.{true}
use mathlib.Core.Logic.{◌⊎◌, inl, inr, ◌↔◌}
use mathlib.Core.List.{List}
use Prim.Native.Nat.{ℕ, zero, suc, ◌+◌, ◌<◌, ◌≤◌}
use native.Mathlib.Nat.{eq-or-lt_of_le, le_of_suc-le-suc}
use native.Mathlib.Omega.{arith}
use lib.ListN.{length}
use lib.Dec.{leb}
use borrow.Author.Tests.{leb-true, le-leb}
use Rattle.model.specs.declared.Job.{Job}
use Rattle.model.specs.Sum.{sum}
use Rattle.model.specs.Jobs.{job_of}
use Rattle.model.specs.Intervals.{interval_count, bound_at, length_of, is_open, Bounds, OpenRange}
use Rattle.model.proofs.Numbers.{lt_or_le, both_true, rises_between}

-- A job is open in an interval that does not start before its release nor end after its deadline.
pub is_open_iff : (bounds : List ℕ) (job : Job) (i : ℕ)
    → (is_open bounds job i ≡ true) ↔ ((job.release ≤ bound_at bounds i) × (bound_at bounds (suc i) ≤ job.deadline))
unfolding is_open
is_open_iff bounds job i = (
  λ e. let h = both_true (leb job.release (bound_at bounds i)) _ e in (leb-true _ _ h.0, leb-true _ _ h.1),
  λ h. rw (le-leb _ _ h.0, le-leb _ _ h.1),
)

-- a step at which a sequence passes t
pub stretch_of : (n : ℕ) (f : ℕ → ℕ) (t : ℕ) → f 0 ≤ t → t < f n → (i : ℕ) × (i < n) × (f i ≤ t) × (t < f (suc i))
stretch_of zero f t low high = absurd (omega arith)
stretch_of (suc n) f t low high = go (lt_or_le t (f n)) (stretch_of n f t low)
  where
    go : (t < f n) ⊎ (f n ≤ t) → (t < f n → (i : ℕ) × (i < n) × (f i ≤ t) × (t < f (suc i)))
        → (i : ℕ) × (i < suc n) × (f i ≤ t) × (t < f (suc i))
    go (inl before) step = let found = step before in (found.0, omega (arith, found.1), found.2, found.3)
    go (inr last) step = (n, omega arith, last, high)

module _ {jobs : List Job} {bounds : List ℕ} (B : Bounds jobs bounds) where
  pub bounds_rise : (i k : ℕ) → i < k → k < length bounds → bound_at bounds i < bound_at bounds k
  bounds_rise = rises_between (bound_at bounds) (length bounds) B.rises

  pub bounds_mono : (i k : ℕ) → i ≤ k → k < length bounds → bound_at bounds i ≤ bound_at bounds k
  bounds_mono i k least below = go (eq-or-lt_of_le least)
    where
      go : (i ≡ k) ⊎ (i < k) → bound_at bounds i ≤ bound_at bounds k
      go (inl same) = rw same (omega arith)
      go (inr less) = omega (arith, bounds_rise i k less below)

  -- a lower bound has a lower number
  pub number_rises : (i k : ℕ) → i < length bounds → bound_at bounds i < bound_at bounds k → i < k
  number_rises i k below less = go (lt_or_le i k)
    where
      go : (i < k) ⊎ (k ≤ i) → i < k
      go (inl h) = h
      go (inr h) = absurd (omega (arith, bounds_mono k i h below))

  pub number_mono : (i k : ℕ) → i < length bounds → bound_at bounds i ≤ bound_at bounds k → i ≤ k
  number_mono i k below least = go (lt_or_le k i)
    where
      go : (k < i) ⊎ (i ≤ k) → i ≤ k
      go (inl h) = absurd (omega (arith, bounds_rise k i h below))
      go (inr h) = h

  pub length_reaches : (i : ℕ) → i < interval_count bounds → bound_at bounds i + length_of bounds i ≡ bound_at bounds (suc i)
  unfolding length_of
  length_reaches i below = omega (arith, B.rises i (omega arith))

  pub length_positive : (i : ℕ) → i < interval_count bounds → 1 ≤ length_of bounds i
  length_positive i below = omega (arith, B.rises i (omega arith), length_reaches i below)

  -- the lengths of k consecutive intervals
  pub lengths_add : (i k : ℕ) → i + k ≤ interval_count bounds → bound_at bounds i + sum k (λ d. length_of bounds (i + d)) ≡ bound_at bounds (i + k)
  unfolding sum
  lengths_add i zero within = let e : i + 0 ≡ i = omega arith in rw e (omega arith)
  lengths_add i (suc k) within =
      let e : i + suc k ≡ suc (i + k) = omega arith in
      rw e (omega (arith, lengths_add i k (omega arith), length_reaches (i + k) (omega arith)))

  -- each job, its release before its deadline, is open in one stretch of at least one interval
  pub open_range : (j : ℕ) → j < length jobs → (job_of jobs j).release < (job_of jobs j).deadline → (lo : ℕ) × (hi : ℕ) × OpenRange jobs bounds j lo hi
  open_range j below wide = go (B.release_found j below) (B.deadline_found j below)
    where
      go : (i : ℕ) × (i < length bounds) × (bound_at bounds i ≡ (job_of jobs j).release)
          → (i : ℕ) × (i < length bounds) × (bound_at bounds i ≡ (job_of jobs j).deadline)
          → (lo : ℕ) × (hi : ℕ) × OpenRange jobs bounds j lo hi
      go (lo, below-lo, release) (hi, below-hi, deadline) = (
        lo,
        hi,
        record {
          nonempty = number_rises lo hi below-lo (omega arith);
          within = omega arith;
          starts = release;
          ends = deadline;
          exactly = λ i inside. (
            λ e.
                let h = (is_open_iff bounds (job_of jobs j) i).0 e in
                (number_mono lo i below-lo (omega (arith, h.0)), number_mono (suc i) hi (omega arith) (omega (arith, h.1))),
            λ h. (is_open_iff bounds (job_of jobs j) i).1 (
              omega (arith, bounds_mono lo i h.0 (omega arith)),
              omega (arith, bounds_mono (suc i) hi h.1 below-hi),
            ),
          );
        },
      )

  -- a tick of an interval lies in a job's window exactly when the job is open there
  pub tick_open : (i j t : ℕ) → i < interval_count bounds → j < length jobs → bound_at bounds i ≤ t → t < bound_at bounds (suc i)
      → (((job_of jobs j).release ≤ t) × (t < (job_of jobs j).deadline)) ↔ (is_open bounds (job_of jobs j) i ≡ true)
  tick_open i j t below-i below-j low high = (
    λ h. (is_open_iff bounds (job_of jobs j) i).1 (starts (B.release_found j below-j) h.0, ends (B.deadline_found j below-j) h.1),
    λ e. let h = (is_open_iff bounds (job_of jobs j) i).0 e in omega arith,
  )
    where
      starts : (lo : ℕ) × (lo < length bounds) × (bound_at bounds lo ≡ (job_of jobs j).release) → (job_of jobs j).release ≤ t
          → (job_of jobs j).release ≤ bound_at bounds i
      starts (lo, below, release) before =
          omega (arith, bounds_mono lo i (le_of_suc-le-suc (number_rises lo (suc i) below (omega arith))) (omega arith))

      ends : (hi : ℕ) × (hi < length bounds) × (bound_at bounds hi ≡ (job_of jobs j).deadline) → t < (job_of jobs j).deadline
          → bound_at bounds (suc i) ≤ (job_of jobs j).deadline
      ends (hi, below, deadline) after = omega (arith, bounds_mono (suc i) hi (number_rises i hi (omega arith) (omega arith)) below)
