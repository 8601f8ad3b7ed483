-- Laws of the refusals of a check: for each step, job and interval, the fact that is refused when it does not hold.
-- Assumes nothing.
use mathlib.Core.Path.{◌≡◌}
use mathlib.Core.Bool.{Bool, true, false, not, ◌&&◌}
use mathlib.Core.Logic.{◌⊎◌, inl, inr, ◌↔◌}
use mathlib.Core.List.{List}
use Prim.Native.Nat.{ℕ, suc, ◌+◌, ◌*◌, ◌<◌, ◌≤◌}
use native.Mathlib.Omega.{arith}
use lib.ListN.{length}
use lib.Dec.{ltb, eqb}
use borrow.Author.Tests.{ltb-true, ltb-false, lt-ltb, le-ltb, leb-true, le-leb, eqb-true, eqb-false, eq-eqb, ne_eqb, not-false}
use Rattle.model.specs.declared.Job.{Job}
use Rattle.model.specs.Jobs.{job_of}
use Rattle.model.specs.Processors.{working_of, top_of}
use Rattle.model.specs.Intervals.{interval_count, bound_at, length_of, is_open}
use Rattle.model.specs.Sites.{Site}
use Rattle.model.specs.Plans.{load}
use Rattle.model.specs.Prices.{is_band_number, fits_load}
use Rattle.model.specs.Steps.{step_count, cell_at, step_at, wrong_plan_length, job_sum, shares_of}
use Rattle.model.specs.PriceBytes.{price_intervals, end_at, prices_of}
use Rattle.model.specs.Checking.{is_open_pair, wrong_cell, wrong_cycles, step_fault, job_sum_fault, load_fault}
use Rattle.model.specs.Checking.{wrong_price_length, entry_fault, price_fault, cheaper_fault}
use Rattle.model.proofs.Numbers.{true_or_false, both_true}
use Rattle.model.proofs.Search.{some_below_none, some_below_fails}
use Rattle.model.proofs.Tests.{neither, in-range, no_fault, FaultUnless, fault_unless, fault_when}

-- 15: a plan is as long as its step count says.
pub plan-length : (plan : List ℕ) → (wrong_plan_length plan ≡ false) ↔ (length plan ≡ 4 + 6 * step_count plan)
plan-length plan = (
  λ e. eqb-true _ _ (not-false _ (neither (ltb (length plan) 4) _ e).1),
  λ h. rw (le-ltb (length plan) 4 (omega arith), eq-eqb _ _ h),
)

-- 17: a step's pair is open, and no earlier step has its cell.
pub record SoundCell (jobs : List Job) (bounds plan : List ℕ) (s : ℕ) : Type 0 where
  pub interval : (step_at plan s).interval < interval_count bounds
  pub job : (step_at plan s).job < length jobs
  pub is_open_true : is_open bounds (job_of jobs (step_at plan s).job) (step_at plan s).interval ≡ true
  pub new : (r : ℕ) → r < s → cell_at plan r ≡ cell_at plan s → ⊥

-- 18: a step has cycles, and not more than its job.
pub record SoundCycles (jobs : List Job) (plan : List ℕ) (s : ℕ) : Type 0 where
  pub some : 1 ≤ (step_at plan s).cycles
  pub upto : (step_at plan s).cycles ≤ (job_of jobs (step_at plan s).job).cycles

module _ (jobs : List Job) (bounds plan : List ℕ) where
  -- the tests of 17 and 18 say just that
  cell_sound : (s : ℕ) → (wrong_cell jobs bounds plan s ≡ false) ↔ SoundCell jobs bounds plan s
  cell_sound s = (
    λ e.
        let (pair, new) = neither (not (is_open_pair jobs bounds (step_at plan s))) _ e in
        let (numbers, is_open_true) = both_true _ _ (not-false _ pair) in
        let (interval, job) = both_true _ _ numbers in
        record {
          interval = ltb-true _ _ interval;
          job = ltb-true _ _ job;
          is_open_true = is_open_true;
          new = λ r below. eqb-false _ _ (some_below_none s _ new r below);
        },
    λ h.
        rw (
          lt-ltb _ _ h.interval,
          lt-ltb _ _ h.job,
          h.is_open_true,
          some_below_fails s (λ r. eqb (cell_at plan r) (cell_at plan s)) (λ r below. ne_eqb _ _ (h.new r below)),
        ),
  )

  cycles_sound : (s : ℕ) → (wrong_cycles jobs bounds plan s ≡ false) ↔ SoundCycles jobs plan s
  cycles_sound s = (
    λ e. let (some, upto) = in-range (step_at plan s).cycles _ e in record { some = some; upto = upto },
    λ h. rw (le-leb _ _ h.some, le-leb _ _ h.upto),
  )

  -- a step has no fault exactly when its cell and its cycles are sound
  pub step_sound : (s : ℕ) → (step_fault jobs bounds plan s ≡ 0) ↔ (SoundCell jobs bounds plan s × SoundCycles jobs plan s)
  unfolding step_fault
  step_sound s = (
    λ e. let (cell, cycles) = no_fault _ _ 16 17 e in ((cell_sound s).0 cell, (cycles_sound s).0 cycles),
    λ h. rw ((cell_sound s).1 h.0, (cycles_sound s).1 h.1),
  )

module _ (site : Site) (plan : List ℕ) where
  -- 19: a job's steps add to its cycles
  pub job-sum-fault : (j : ℕ) → FaultUnless (job_sum plan j ≡ (job_of site.jobs j).cycles) (job_sum_fault site plan j) 19
  unfolding job_sum_fault
  job-sum-fault j = fault_unless _ 18 (eqb-true _ _, eq-eqb _ _)

  -- 20: an interval is loaded at most to its length × top frequency
  pub load-fault : (i : ℕ) → FaultUnless (load site.jobs (shares_of plan) i ≤ length_of site.bounds i * top_of site.processor) (load_fault site plan i) 20
  unfolding load_fault
  load-fault i = fault_unless _ 19 (leb-true _ _, le-leb _ _)

module _ (site : Site) (plan prices : List ℕ) where
  -- 21: a price list has an entry for each interval
  pub price-length :
      (wrong_price_length site plan prices ≡ false)
      ↔ ((price_intervals prices ≡ interval_count site.bounds) × (length prices ≡ 2 + 5 * interval_count site.bounds))
  price-length = (
    λ e.
        let (count, size) = neither _ _ e in
        (eqb-true _ _ (not-false _ (neither (ltb (length prices) 2) _ count).1), eqb-true _ _ (not-false _ size)),
    λ h. rw (le-ltb (length prices) 2 (omega arith), eq-eqb _ _ h.0, eq-eqb _ _ h.1),
  )

  -- 22: an entry of the price list has its interval's end and a band number
  pub entry-fault : (i : ℕ)
      → FaultUnless ((end_at prices i ≡ bound_at site.bounds (suc i)) × (is_band_number (working_of site.processor) (prices_of prices i) ≡ true))
      (entry_fault site plan prices i) 22
  unfolding entry_fault
  entry-fault i =
      fault_unless (eqb (end_at prices i) (bound_at site.bounds (suc i)) && is_band_number (working_of site.processor) (prices_of prices i)) 21
      (λ e. let (end, number) = both_true _ _ e in (eqb-true _ _ end, number), λ h. rw (eq-eqb _ _ h.0, h.1))

  -- 23: a price fits its interval's load
  pub price-fault : (i : ℕ)
      → FaultUnless (fits_load (working_of site.processor) (length_of site.bounds i) (load site.jobs (shares_of plan) i) (prices_of prices i) ≡ true)
      (price_fault site plan prices i) 23
  unfolding price_fault
  price-fault i = fault_unless _ 22 (λ e. e, λ h. h)

  -- 24: a step's job is open in no interval of smaller price
  pub cheaper-fault : (s : ℕ)
      → FaultUnless
      ((i : ℕ) → i < interval_count site.bounds → is_open site.bounds (job_of site.jobs (step_at plan s).job) i ≡ true
      → prices_of prices (step_at plan s).interval ≤ prices_of prices i)
      (cheaper_fault site plan prices s) 24
  unfolding cheaper_fault
  cheaper-fault s =
      fault_when _ 23 (
        λ e i below open_there. ltb-false _ _ (rw open_there at (some_below_none (interval_count site.bounds) cheaper e i below)),
        λ h. some_below_fails _ cheaper (λ i below. shut_or_dearer i (h i below) (true_or_false (is_open_true i))),
      )
    where
      is_open_true : (i : ℕ) → Bool
      is_open_true i = is_open site.bounds (job_of site.jobs (step_at plan s).job) i

      cheaper : (i : ℕ) → Bool
      cheaper i = is_open_true i && ltb (prices_of prices i) (prices_of prices (step_at plan s).interval)

      shut_or_dearer : (i : ℕ) → (is_open_true i ≡ true → prices_of prices (step_at plan s).interval ≤ prices_of prices i)
          → (is_open_true i ≡ true) ⊎ (is_open_true i ≡ false) → cheaper i ≡ false
      shut_or_dearer i dearer (inl open_there) = rw (open_there, le-ltb _ _ (dearer open_there))
      shut_or_dearer i dearer (inr shut) = rw shut
