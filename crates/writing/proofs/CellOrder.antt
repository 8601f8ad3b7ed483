-- Laws of the steps of a table of shares: each is that of a share, their cells rise, they add up as the shares do, and
-- there is one for each share that is not 0.
-- Assumes nothing.
use mathlib.Core.Path.{◌≡◌, refl, ◌∙◌}
use mathlib.Core.Logic.{◌⊎◌, inl, inr}
use mathlib.Core.List.{List, [], ◌∷◌, ◌++◌}
use Prim.Native.Nat.{ℕ, zero, suc, ◌-◌, ◌*◌, ◌<◌, ◌≤◌}
use native.Mathlib.Omega.{arith}
use lib.Dec.{ltb}
use lib.ListN.{length, get_or, length-append, get_or-append}
use borrow.Author.Tests.{lt-ltb}
use Rattle.model.specs.Limits.{max_jobs}
use Rattle.model.specs.Entries.{joined}
use Rattle.model.specs.Sum.{sum, only_if}
use Rattle.model.specs.Plans.{Shares}
use Rattle.model.specs.Steps.{Step, cell_of}
use Rattle.model.proofs.Numbers.{lt_or_le}
use Rattle.model.proofs.Sum.{sum_cong}
use Rattle.writing.specs.StepList.{step_of, steps_in, steps_of}
use Rattle.model.proofs.Joined.{length_joined, get_d_past, Each, each_append, each_joined, sum_over, sum_joined}

-- what stands past the last step
abbrev pub no_step : Step
no_step = record { interval = 0; job = 0; cycles = 0 }

abbrev pub cell_of_step : Step → ℕ
cell_of_step step = cell_of step.interval step.job

-- the step of a share
pub step_of_none : (interval job share : ℕ) → share ≤ 0 → step_of interval job share ≡ []
unfolding step_of
step_of_none interval job zero no_share = refl
step_of_none interval job (suc n) no_share = absurd (omega arith)

pub step_of_some : (interval job share : ℕ) → 0 < share
    → step_of interval job share ≡ record { interval = interval; job = job; cycles = share } ∷ []
unfolding step_of
step_of_some interval job zero some_share = absurd (omega arith)
step_of_some interval job (suc n) some_share = refl

pub length_step_of : (interval job share : ℕ) → length (step_of interval job share) ≡ only_if (ltb 0 share) 1
unfolding step_of
length_step_of interval job zero = refl
length_step_of interval job (suc n) = rw (lt-ltb 0 (suc n) (omega arith))

-- a step of a share that is not 0
pub record ShareStep (jobs intervals : ℕ) (shares : Shares) (step : Step) : Type 0 where
  pub interval_below : step.interval < intervals
  pub job_below : step.job < jobs
  pub some-cycles : 1 ≤ step.cycles
  pub cycles_are : step.cycles ≡ shares step.interval step.job

-- the cells rise, from a lowest up to, not including, an end
pub record Rising (low end : ℕ) (steps : List Step) : Type 0 where
  pub forward : low ≤ end
  pub within : Each no_step (λ step. (low ≤ cell_of_step step) × (cell_of_step step < end)) steps
  pub rises : (r s : ℕ) → r < s → s < length steps → cell_of_step (get_or steps r no_step) < cell_of_step (get_or steps s no_step)

rising_none : (low end : ℕ) → low ≤ end → Rising low end []
rising_none low end h = record { forward = h; within = λ i below. absurd (omega arith); rises = λ r s less below. absurd (omega arith) }

rising_append : (low mid end : ℕ) (a b : List Step) → Rising low mid a → Rising mid end b → Rising low end (a ++ b)
rising_append low mid end a b first second =
    record {
      forward = omega (arith, first.forward, second.forward);
      within =
          each_append no_step (λ step. (low ≤ cell_of_step step) × (cell_of_step step < end)) a b
          (λ i below. omega (arith, first.within i below, second.forward))
          (λ i below. omega (arith, second.within i below, first.forward));
      rises = λ r s less below. at r s less below (lt_or_le r (length a)) (lt_or_le s (length a));
    }
  where
    at : (r s : ℕ) → r < s → s < length (a ++ b) → (r < length a) ⊎ (length a ≤ r) → (s < length a) ⊎ (length a ≤ s)
        → cell_of_step (get_or (a ++ b) r no_step) < cell_of_step (get_or (a ++ b) s no_step)
    at r s less below (inl one) (inl two) =
        rw (get_or-append a b no_step r one, get_or-append a b no_step s two) (first.rises r s less two)
    at r s less below (inl one) (inr two) =
        rw (get_or-append a b no_step r one, get_d_past no_step a b s two)
        (omega (arith, first.within r one, second.within (s - length a) (omega (arith, length-append a b))))
    at r s less below (inr one) (inl two) = absurd (omega arith)
    at r s less below (inr one) (inr two) =
        rw (get_d_past no_step a b r one, get_d_past no_step a b s two)
        (second.rises (r - length a) (s - length a) (omega arith) (omega (arith, length-append a b)))

-- lists whose cells lie between one mark and the next
rising_joined : (n : ℕ) (f : ℕ → List Step) (mark : ℕ → ℕ) → ((i : ℕ) → i < n → Rising (mark i) (mark (suc i)) (f i))
    → Rising (mark 0) (mark n) (joined n f)
unfolding joined
rising_joined zero f mark each = rising_none (mark 0) (mark 0) (omega arith)
rising_joined (suc n) f mark each =
    rising_append (mark 0) (mark n) (mark (suc n)) (joined n f) (f n)
    (rising_joined n f mark (λ i below. each i (omega arith))) (each n (omega arith))

rising_step : (interval job share : ℕ) → Rising (cell_of interval job) (cell_of interval (suc job)) (step_of interval job share)
unfolding step_of
rising_step interval job zero = rising_none _ _ (omega arith)
rising_step interval job (suc n) =
    record { forward = omega arith; within = only; rises = λ r s less below. absurd (omega arith) }
  where
    only : Each no_step (λ step. (cell_of interval job ≤ cell_of_step step) × (cell_of_step step < cell_of interval (suc job)))
        (record { interval = interval; job = job; cycles = suc n } ∷ [])
    only zero below = omega arith
    only (suc i) below = absurd (omega arith)

module _ (jobs : ℕ) (shares : Shares) where
  -- the cells of an interval lie in its row
  rising_row : jobs ≤ max_jobs → (i : ℕ) → Rising (i * max_jobs) (suc i * max_jobs) (steps_in jobs shares i)
  rising_row few i =
      let row = rising_joined jobs (λ j. step_of i j (shares i j)) (cell_of i) (λ j below. rising_step i j (shares i j)) in
      record {
        forward = omega arith;
        within = λ s below. omega (arith, row.within s below);
        rises = row.rises;
      }

  -- cell order
  pub cells_rise : jobs ≤ max_jobs → (intervals : ℕ) → Rising 0 (intervals * max_jobs) (steps_of jobs intervals shares)
  unfolding steps_of
  cells_rise few intervals = rising_joined intervals (steps_in jobs shares) (λ i. i * max_jobs) (λ i below. rising_row few i)

module _ (jobs intervals : ℕ) (shares : Shares) where
  -- each step is that of a share
  pub share_steps : Each no_step (ShareStep jobs intervals shares) (steps_of jobs intervals shares)
  unfolding step_of steps_of
  share_steps =
      each_joined no_step (ShareStep jobs intervals shares) intervals (steps_in jobs shares)
      (λ i below. each_joined no_step (ShareStep jobs intervals shares) jobs (λ j. step_of i j (shares i j))
      (λ j inside. only i j below inside (shares i j) refl))
    where
      only : (i j : ℕ) → i < intervals → j < jobs → (n : ℕ) → n ≡ shares i j → Each no_step (ShareStep jobs intervals shares) (step_of i j n)
      only i j below inside zero is_share = λ s h. absurd (omega arith)
      only i j below inside (suc n) is_share =
          λ s h. let e : s ≡ 0 = omega arith in
          rw e (record { interval_below = below; job_below = inside; some-cycles = omega arith; cycles_are = is_share })

  -- a sum over the steps goes through the shares
  pub sum_steps : (number : Step → ℕ)
      → sum_over no_step number (steps_of jobs intervals shares) ≡ sum intervals (λ i. sum jobs (λ j. sum_over no_step number (step_of i j (shares i j))))
  unfolding steps_of
  sum_steps number =
      sum_joined no_step number intervals (steps_in jobs shares)
      ∙ sum_cong intervals (λ i below. sum_joined no_step number jobs (λ j. step_of i j (shares i j)))

  -- one step for each share that is not 0
  pub step_total : length (steps_of jobs intervals shares) ≡ sum intervals (λ i. sum jobs (λ j. only_if (ltb 0 (shares i j)) 1))
  unfolding steps_of
  step_total =
      length_joined intervals (steps_in jobs shares)
      ∙ sum_cong intervals
      (λ i below. length_joined jobs (λ j. step_of i j (shares i j)) ∙ sum_cong jobs (λ j inside. length_step_of i j (shares i j)))
