-- The theorem of repeats.
-- Assumes nothing.
use mathlib.Core.Path.{◌≡◌, refl, ◌∙◌}
use mathlib.Core.Logic.{◌⊎◌, inl, inr}
use mathlib.Core.List.{List, [], ◌∷◌}
use Prim.Native.Nat.{ℕ, zero, suc, ◌+◌, ◌-◌, ◌*◌, ◌<◌}
use native.Mathlib.Nat.{eq-zero-or-pos, mul-pos}
use native.Mathlib.Omega.{arith}
use lib.ListN.{length}
use borrow.Author.Tests.{le-ltb}
use Rattle.model.specs.declared.Job.{Job}
use Rattle.model.specs.Sum.{sum}
use Rattle.model.specs.Processors.{working_of, top_of}
use Rattle.model.specs.Intervals.{interval_count, bound_at, earliest_release, latest_deadline, Bounds}
use Rattle.model.specs.Sites.{Site}
use Rattle.model.specs.Plans.{Shares, Gives}
use Rattle.model.specs.Prices.{PriceList, FittingPrices}
use Rattle.model.specs.Energy.{exact_energy}
use Rattle.model.specs.LeastEnergy.{SoundSite}
use Rattle.model.proofs.Intervals.{bounds_rise}
use Rattle.model.proofs.BoundsOf.{ReleasesFirst}
use Rattle.model.proofs.IdleDraw.{idle-power}
use Rattle.model.proofs.LeastEnergy.{certificate, plans_are_schedules}
use Rattle.repeats.specs.Repeats.{
  repeat_jobs,
  repeat_bounds,
  repeat_shares,
  repeat_prices,
  repeat_site,
  energy_of_rounds,
  RepeatsApart,
}
use Rattle.repeats.specs.RunAgain.{RunAgain}
use Rattle.repeats.specs.RepeatedPlan.{RoundsRepeat}
use Rattle.repeats.proofs.RepeatedBounds.{length_repeat_jobs, Repeatable, releases_first, bounds_repeat}
use Rattle.repeats.proofs.RepeatedShares.{gives_repeat, prices_repeat}
use Rattle.repeats.proofs.RepeatedEnergy.{energy_repeats}
use Rattle.repeats.proofs.RunAgain.{run_again, nothing_runs}

-- a round of at least one job
pub repeatable : {H : ℕ} {jobs : List Job} {bounds : List ℕ} → 0 < length jobs → ReleasesFirst jobs → Bounds jobs bounds → RepeatsApart H jobs
    → Repeatable H jobs bounds
repeatable some ordered B apart = record { some = some; ordered = ordered; are_bounds = B; apart = omega (arith, B.first, B.last) }

no_element : {A : Type 0} (l : List A) → length l ≡ 0 → l ≡ []
no_element [] none = refl
no_element (x ∷ l) none = absurd (omega arith)

-- no repeats, or none of a job
pub nothing_repeats : (H r : ℕ) (jobs : List Job) → r * length jobs ≡ 0 → repeat_jobs H r jobs ≡ []
nothing_repeats H r jobs none = no_element (repeat_jobs H r jobs) (length_repeat_jobs H r jobs ∙ none)

-- bounds of no job leave no interval
pub no_interval : {jobs : List Job} {bounds : List ℕ} → length jobs ≡ 0 → Bounds jobs bounds → interval_count bounds ≡ 0
unfolding earliest_release latest_deadline
no_interval {jobs} {bounds} none B = go (no_element jobs none) (eq-zero-or-pos (interval_count bounds))
  where
    go : jobs ≡ [] → (interval_count bounds ≡ 0) ⊎ (0 < interval_count bounds) → interval_count bounds ≡ 0
    go e (inl nothing) = nothing
    go e (inr some) =
        let first : bound_at bounds 0 ≡ earliest_release [] = rw e at B.first in
        let last : bound_at bounds (interval_count bounds) ≡ latest_deadline [] = rw e at B.last in
        absurd (omega (arith, bounds_rise B 0 (interval_count bounds) some (omega arith)))

pub no_bounds : (H : ℕ) (bounds : List ℕ) → interval_count bounds ≡ 0 → (r : ℕ) → repeat_bounds H bounds r ≡ []
unfolding repeat_bounds
no_bounds H bounds none zero = refl
no_bounds H bounds none (suc more) = rw (le-ltb 0 (interval_count bounds) (omega arith))

pub no_repeats : (H : ℕ) (bounds : List ℕ) → repeat_bounds H bounds 0 ≡ []
unfolding repeat_bounds
no_repeats H bounds = refl

module _ (site : Site) (shares : Shares) (prices : PriceList) (H r : ℕ) where
  abbrev RJ : List Job
  RJ = repeat_jobs H r site.jobs

  abbrev RB : List ℕ
  RB = repeat_bounds H site.bounds r

  abbrev RS : Shares
  RS = repeat_shares H site shares

  -- What the theory takes of r repeats, and their energy.
  record Parts : Type 0 where
    ordered : ReleasesFirst RJ
    are_bounds : Bounds RJ RB
    gives : Gives (top_of site.processor) RJ RB RS
    fitting : FittingPrices (working_of site.processor) RJ RB RS (repeat_prices H site.bounds prices)
    energy : 0 < length site.jobs → (between : ℕ) → latest_deadline site.jobs + between ≡ H + earliest_release site.jobs
        → exact_energy (working_of site.processor) RJ RB RS ≡ energy_of_rounds r site shares between
    no_energy : length site.jobs ≡ 0 → exact_energy (working_of site.processor) RJ RB RS ≡ 0

  -- where there is no job and no bound
  nothing : RJ ≡ [] → RB ≡ [] → r * length site.jobs ≡ 0 → Parts
  unfolding earliest_release latest_deadline exact_energy sum
  nothing jobs bounds none =
      let free : exact_energy (working_of site.processor) RJ RB RS ≡ 0 = rw bounds in
      record {
        ordered = rw jobs (λ j below. absurd (omega arith));
        are_bounds = rw (jobs, bounds) (record {
          rises = λ i below. absurd (omega arith);
          release_found = λ j below. absurd (omega arith);
          deadline_found = λ j below. absurd (omega arith);
          first = refl;
          last = refl;
        });
        gives = rw (jobs, bounds) (record {
          whole = λ j below. absurd (omega arith);
          shut = λ i j inside below. absurd (omega arith);
          fits = λ i inside. absurd (omega arith);
        });
        fitting = rw (jobs, bounds) (record {
          number = λ i inside. absurd (omega arith);
          fits = λ i inside. absurd (omega arith);
          cheapest = λ i other j inside next given. absurd (omega arith);
        });
        energy = λ some between reaches. free ∙ none_needed between some (eq-zero-or-pos r);
        no_energy = λ empty. free;
      }
    where
      none_needed : (between : ℕ) → 0 < length site.jobs → (r ≡ 0) ⊎ (0 < r) → 0 ≡ energy_of_rounds r site shares between
      none_needed between some (inl no-repeat) = rw no-repeat (omega arith)
      none_needed between some (inr repeats) = absurd (omega (arith, mul-pos repeats some))

parts : (site : Site) → SoundSite site.processor.idle_power site.processor.levels site.jobs → Bounds site.jobs site.bounds
    → (shares : Shares) → Gives (top_of site.processor) site.jobs site.bounds shares
    → (prices : PriceList) → FittingPrices (working_of site.processor) site.jobs site.bounds shares prices
    → (H : ℕ) → RepeatsApart H site.jobs
    → (r : ℕ) → Parts site shares prices H r
parts site sound B shares gives prices fitting H apart zero =
    let none : 0 * length site.jobs ≡ 0 = omega arith in
    nothing site shares prices H 0 (nothing_repeats H 0 site.jobs none) (no_repeats H site.bounds) none
parts site sound B shares gives prices fitting H apart (suc more) = go (eq-zero-or-pos (length site.jobs))
  where
    go : (length site.jobs ≡ 0) ⊎ (0 < length site.jobs) → Parts site shares prices H (suc more)
    go (inl empty) =
        let none : suc more * length site.jobs ≡ 0 = rw empty (omega arith) in
        nothing site shares prices H (suc more) (nothing_repeats H (suc more) site.jobs none)
        (no_bounds H site.bounds (no_interval empty B) (suc more)) none
    go (inr some) =
        let R : Repeatable H site.jobs site.bounds = repeatable some sound.ordered B apart in
        record {
          ordered = releases_first R more;
          are_bounds = bounds_repeat R more;
          gives = gives_repeat site R more shares gives;
          fitting = prices_repeat site R more shares prices fitting;
          energy = λ some between reaches.
              let stretches : suc more - 1 ≡ more = omega arith in
              energy_repeats site R more shares (working_of site.processor) between (omega (arith, B.first, B.last))
              ∙ (rw (stretches, idle-power site.processor.idle_power site.processor.levels));
          no_energy = λ empty. absurd (omega arith);
        }

-- the plan of the one round, run again, is the repeated plan carried out
runs_again : (site : Site) → SoundSite site.processor.idle_power site.processor.levels site.jobs → Bounds site.jobs site.bounds
    → (shares : Shares) → Gives (top_of site.processor) site.jobs site.bounds shares
    → (H : ℕ) → RepeatsApart H site.jobs
    → (r : ℕ) → RunAgain H r site shares
runs_again site sound B shares gives H apart zero = nothing_runs H 0 site shares sound.rising (omega arith)
runs_again site sound B shares gives H apart (suc more) = go (eq-zero-or-pos (length site.jobs))
  where
    go : (length site.jobs ≡ 0) ⊎ (0 < length site.jobs) → RunAgain H (suc more) site shares
    go (inl empty) = nothing_runs H (suc more) site shares sound.rising (rw empty (omega arith))
    go (inr some) = run_again site (repeatable some sound.ordered B apart) more shares sound.rising gives

pub rounds_repeat : RoundsRepeat
rounds_repeat site sound B shares gives prices fitting H apart r =
    let all = parts site sound B shares gives prices fitting H apart r in
    let idle_power = site.processor.idle_power in
    let levels = site.processor.levels in
    let repeated = repeat_site H r site in
    let RS = repeat_shares H site shares in
    let sounds : SoundSite idle_power levels repeated.jobs = record { rising = sound.rising; ordered = all.ordered } in
    record {
      bounds = all.are_bounds;
      gives = all.gives;
      fitting = all.fitting;
      carried_out = plans_are_schedules idle_power levels repeated.jobs sounds repeated.bounds all.are_bounds RS all.gives;
      run_again = runs_again site sound B shares gives H apart r;
      least = certificate idle_power levels repeated.jobs sounds repeated.bounds all.are_bounds RS all.gives
          (repeat_prices H site.bounds prices) all.fitting;
      energy = all.energy;
      no_energy = all.no_energy;
    }
