-- Laws of a job's release and deadline among the bounds, by the intervals in which it is open: the interval that ends at its
-- deadline is the last of them, and the one that begins at its release the first.
-- Assumes nothing.
use mathlib.Core.Path.{◌≡◌, refl, sym}
use mathlib.Core.Bool.{Bool, true, false, not, cond, ◌&&◌, and-false}
use mathlib.Core.Logic.{◌⊎◌, inl, inr}
use mathlib.Core.List.{List}
use Prim.Native.Nat.{ℕ, suc, ◌<◌, ◌≤◌}
use native.Mathlib.Omega.{arith}
use lib.ListN.{length}
use lib.Dec.{ltb, leb, eqb}
use borrow.Author.Tests.{lt-ltb, le-ltb, le-leb, lt-leb, eq-eqb, ne_eqb}
use Rattle.model.specs.declared.Job.{Job}
use Rattle.model.specs.Jobs.{job_of}
use Rattle.model.specs.Intervals.{interval_count, bound_at, is_open, Bounds, OpenRange}
use Rattle.model.proofs.Numbers.{lt_or_le, true_or_false}
use Rattle.model.proofs.Intervals.{bounds_rise, bounds_mono}

cond_same : (t a : Bool) → cond t a a ≡ a
cond_same true a = refl
cond_same false a = refl

module _ {jobs : List Job} {bounds : List ℕ} {j lo hi : ℕ} (B : Bounds jobs bounds) (range : OpenRange jobs bounds j lo hi) (i : ℕ)
    (inside : i < interval_count bounds) where
  abbrev job : Job
  job = job_of jobs j

  -- whether the job is open in an interval, by the numbers of its bounds
  open_at : (k : ℕ) → k < interval_count bounds → lo ≤ k → k < hi → is_open bounds job k ≡ true
  open_at k within from to = (range.exactly k within).1 (from, to)

  shut_at : (k : ℕ) → k < interval_count bounds → ((lo ≤ k) × (k < hi) → ⊥) → is_open bounds job k ≡ false
  shut_at k within outside = go (true_or_false (is_open bounds job k))
    where
      go : (is_open bounds job k ≡ true) ⊎ (is_open bounds job k ≡ false) → is_open bounds job k ≡ false
      go (inl is) = absurd (outside ((range.exactly k within).0 is))
      go (inr not) = not

  lo_below : lo < length bounds
  lo_below = omega (arith, range.nonempty, range.within)

  hi_below : hi < length bounds
  hi_below = omega (arith, inside, range.within)

  next_below : suc i < length bounds
  next_below = omega (arith, inside)

  -- its deadline is the end of the interval, where the next one, if there is one, does not have it open
  pub ends_with : cond (ltb (suc i) (interval_count bounds)) (is_open bounds job i && not (is_open bounds job (suc i))) (is_open bounds job i)
      ≡ eqb job.deadline (bound_at bounds (suc i))
  ends_with = go (lt_or_le i lo) (lt_or_le i hi) (lt_or_le (suc i) hi) (lt_or_le (suc i) (interval_count bounds))
    where
      before : suc i < hi → eqb job.deadline (bound_at bounds (suc i)) ≡ false
      before less = ne_eqb job.deadline (bound_at bounds (suc i)) (λ e. omega (arith, e, range.ends, bounds_rise B (suc i) hi less hi_below))

      after : hi ≤ i → eqb job.deadline (bound_at bounds (suc i)) ≡ false
      after past = ne_eqb job.deadline (bound_at bounds (suc i)) (λ e. omega (arith, e, range.ends, bounds_rise B hi (suc i) (omega arith) next_below))

      here : hi ≡ suc i → eqb job.deadline (bound_at bounds (suc i)) ≡ true
      here e = eq-eqb job.deadline (bound_at bounds (suc i)) (rw (← e) (omega (arith, range.ends)))

      go : (i < lo) ⊎ (lo ≤ i) → (i < hi) ⊎ (hi ≤ i) → (suc i < hi) ⊎ (hi ≤ suc i) → (suc i < interval_count bounds) ⊎ (interval_count bounds ≤ suc i)
          → cond (ltb (suc i) (interval_count bounds)) (is_open bounds job i && not (is_open bounds job (suc i))) (is_open bounds job i)
          ≡ eqb job.deadline (bound_at bounds (suc i))
      go (inl early) to last next =
          rw (shut_at i inside (λ h. omega (arith, h.0)), before (omega (arith, range.nonempty))) (cond_same (ltb (suc i) (interval_count bounds)) false)
      go (inr from) (inr late) last next = rw (shut_at i inside (λ h. omega (arith, h.1)), after late) (cond_same (ltb (suc i) (interval_count bounds)) false)
      go (inr from) (inl to) (inl more) next =
          let within : suc i < interval_count bounds = omega (arith, range.within) in
          rw (open_at i inside from to, lt-ltb (suc i) (interval_count bounds) within, open_at (suc i) within (omega arith) more, before more)
      go (inr from) (inl to) (inr last) (inl next) =
          rw (open_at i inside from to, lt-ltb (suc i) (interval_count bounds) next, shut_at (suc i) next (λ h. omega (arith, h.1)), here (omega arith))
      go (inr from) (inl to) (inr last) (inr none) = rw (open_at i inside from to, le-ltb (suc i) (interval_count bounds) none, here (omega arith))

  -- it is released at the next bound or later where it is so at this one, and not open between them
  pub released_on : (leb (bound_at bounds i) job.release && not (is_open bounds job i)) ≡ leb (bound_at bounds (suc i)) job.release
  released_on = go (lt_or_le i lo) (lt_or_le lo i)
    where
      go : (i < lo) ⊎ (lo ≤ i) → (lo < i) ⊎ (i ≤ lo)
          → (leb (bound_at bounds i) job.release && not (is_open bounds job i)) ≡ leb (bound_at bounds (suc i)) job.release
      go (inl later) other =
          rw (
            le-leb (bound_at bounds i) job.release (omega (arith, range.starts, bounds_mono B i lo (omega arith) lo_below)),
            shut_at i inside (λ h. omega (arith, h.0)),
          )
          (sym (le-leb (bound_at bounds (suc i)) job.release (omega (arith, range.starts, bounds_mono B (suc i) lo (omega arith) lo_below))))
      go (inr from) (inl past) =
          rw (
            lt-leb (bound_at bounds i) job.release (omega (arith, range.starts, bounds_rise B lo i past (omega (arith, next_below)))),
            lt-leb (bound_at bounds (suc i)) job.release (omega (arith, range.starts, bounds_rise B lo (suc i) (omega arith) next_below)),
          )
      go (inr from) (inr to) =
          rw (
            open_at i inside from (omega (arith, range.nonempty)),
            lt-leb (bound_at bounds (suc i)) job.release (omega (arith, range.starts, bounds_rise B lo (suc i) (omega arith) next_below)),
          )
          (and-false (leb (bound_at bounds i) job.release))

  -- it is released at this bound where it is released there or later and open from there
  pub starts_with : (is_open bounds job i && leb (bound_at bounds i) job.release) ≡ eqb job.release (bound_at bounds i)
  starts_with = go (lt_or_le i lo) (lt_or_le lo i)
    where
      go : (i < lo) ⊎ (lo ≤ i) → (lo < i) ⊎ (i ≤ lo)
          → (is_open bounds job i && leb (bound_at bounds i) job.release) ≡ eqb job.release (bound_at bounds i)
      go (inl later) other =
          rw (shut_at i inside (λ h. omega (arith, h.0)))
          (sym (ne_eqb job.release (bound_at bounds i) (λ e. omega (arith, e, range.starts, bounds_rise B i lo later lo_below))))
      go (inr from) (inl past) =
          let less = bounds_rise B lo i past (omega (arith, next_below)) in
          rw (
            lt-leb (bound_at bounds i) job.release (omega (arith, range.starts, less)),
            ne_eqb job.release (bound_at bounds i) (λ e. omega (arith, e, range.starts, less)),
          )
          (and-false (is_open bounds job i))
      go (inr from) (inr to) =
          let same : lo ≡ i = omega arith in
          let is : job.release ≡ bound_at bounds i = rw (← same) (omega (arith, range.starts)) in
          rw (
            open_at i inside from (omega (arith, range.nonempty)),
            le-leb (bound_at bounds i) job.release (omega (arith, is)),
            eq-eqb job.release (bound_at bounds i) is,
          )
