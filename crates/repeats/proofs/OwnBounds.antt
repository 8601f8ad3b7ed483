-- The repeated bounds of jobs' own bounds are the own bounds of the repeated jobs.
-- Assumes nothing.
use mathlib.Core.Path.{◌≡◌, refl, sym, ◌∙◌}
use mathlib.Core.Logic.{◌⊎◌, inl, inr}
use mathlib.Core.List.{List, []}
use Prim.Native.Nat.{ℕ, zero, suc, ◌+◌, ◌*◌, ◌<◌, ◌≤◌}
use native.Mathlib.Nat.{eq-zero-or-pos, eq-or-lt_of_le}
use native.Mathlib.Omega.{arith}
use lib.ListN.{length}
use Rattle.model.specs.declared.Job.{Job}
use Rattle.model.specs.Jobs.{job_of}
use Rattle.model.specs.Intervals.{bounds_of, interval_count, bound_at}
use Rattle.model.proofs.BoundsOf.{StandsIn, IsTimeOf, bounds-of, bounds_of_rises, release_in_bounds, deadline_in_bounds, bound_in_jobs}
use Rattle.repeats.specs.Repeats.{repeat_jobs, round_size, repeat_bounds}
use Rattle.repeats.specs.OwnBounds.{OwnBoundsRepeat}
use Rattle.repeats.proofs.RisingLists.{same_rising}
use Rattle.repeats.proofs.RepeatedBounds.{Repeatable, each_interval, job-in, number_below, bound_in, count_repeat_bounds, bounds_repeat}
use Rattle.repeats.proofs.Repeats.{repeatable, nothing_repeats, no_interval, no_bounds, no_repeats}

module _ {H : ℕ} {jobs : List Job} (R : Repeatable H jobs (bounds_of jobs)) (more : ℕ) where
  abbrev N : ℕ
  N = interval_count (bounds_of jobs)

  abbrev P : ℕ
  P = round_size H (bounds_of jobs)

  abbrev RB : List ℕ
  RB = repeat_bounds H (bounds_of jobs) (suc more)

  abbrev RJ : List Job
  RJ = repeat_jobs H (suc more) jobs

  -- a bound of a repeat is a release or a deadline there
  is_time : (k i : ℕ) → k ≤ more → i ≤ N → StandsIn (bounds_of RJ) (bound_at RB (k * P + i))
  is_time k i row column = rw (bound_in R more k i row column) (go (bound_in_jobs jobs (bound_at (bounds_of jobs) i) (i, there, refl)))
    where
      there : i < length (bounds_of jobs)
      there = let some = R.are_bounds.release_found 0 R.some in omega (arith, some.1)

      go : IsTimeOf jobs (bound_at (bounds_of jobs) i) → StandsIn (bounds_of RJ) (k * H + bound_at (bounds_of jobs) i)
      go (j, job, inl e) =
          let found = release_in_bounds RJ (k * length jobs + j) (number_below R more k j row job) in
          let here : StandsIn (bounds_of RJ) (k * H + (job_of jobs j).release) = rw (job-in R more k j row job) at found in
          rw e at here
      go (j, job, inr e) =
          let found = deadline_in_bounds RJ (k * length jobs + j) (number_below R more k j row job) in
          let here : StandsIn (bounds_of RJ) (k * H + (job_of jobs j).deadline) = rw (job-in R more k j row job) at found in
          rw e at here

  bound_is_time : (t : ℕ) → t < length RB → StandsIn (bounds_of RJ) (bound_at RB t)
  bound_is_time t below = go (eq-or-lt_of_le (let h : t ≤ interval_count RB = omega arith in h))
    where
      go : (t ≡ interval_count RB) ⊎ (t < interval_count RB) → StandsIn (bounds_of RJ) (bound_at RB t)
      go (inl last) =
          let e : t ≡ more * P + N = omega (arith, count_repeat_bounds R more) in
          rw e (is_time more N (omega arith) (omega arith))
      go (inr inside) =
          each_interval R more (λ t. StandsIn (bounds_of RJ) (bound_at RB t))
          (λ k i row column. is_time k i row (omega arith)) (λ k row size less. is_time k N (omega arith) (omega arith)) t inside

  time_is_bound : (t : ℕ) → StandsIn (bounds_of RJ) t → StandsIn RB t
  time_is_bound t found = go (bound_in_jobs RJ t found)
    where
      go : IsTimeOf RJ t → StandsIn RB t
      go (J, job, inl e) = let h = (bounds_repeat R more).release_found J job in (h.0, h.1, h.2 ∙ e)
      go (J, job, inr e) = let h = (bounds_repeat R more).deadline_found J job in (h.0, h.1, h.2 ∙ e)

  own_bounds : RB ≡ bounds_of RJ
  own_bounds =
      same_rising RB (bounds_of RJ) (bounds_repeat R more).rises (bounds_of_rises RJ)
      (λ t (i, below, e). rw e at (bound_is_time i below))
      time_is_bound

no_own_bounds : {jobs : List Job} → jobs ≡ [] → bounds_of jobs ≡ []
unfolding bounds_of
no_own_bounds none = rw none

pub own_bounds_repeat : OwnBoundsRepeat
own_bounds_repeat jobs ordered H apart zero =
    no_repeats H (bounds_of jobs) ∙ sym (no_own_bounds (nothing_repeats H 0 jobs (omega arith)))
own_bounds_repeat jobs ordered H apart (suc more) = go (eq-zero-or-pos (length jobs))
  where
    go : (length jobs ≡ 0) ⊎ (0 < length jobs) → repeat_bounds H (bounds_of jobs) (suc more) ≡ bounds_of (repeat_jobs H (suc more) jobs)
    go (inl empty) =
        let none : suc more * length jobs ≡ 0 = rw empty (omega arith) in
        no_bounds H (bounds_of jobs) (no_interval empty (bounds-of jobs ordered)) (suc more)
        ∙ sym (no_own_bounds (nothing_repeats H (suc more) jobs none))
    go (inr some) = own_bounds (repeatable some ordered (bounds-of jobs ordered) apart) more
