-- The window test keeps a running sum: what holds of every call of it.
-- Assumes nothing.
use mathlib.Core.Path.{◌≡◌, refl, sym, ◌∙◌, ap}
use mathlib.Core.Option.{Option, none, some}
use Prim.Native.Nat.{ℕ}
use Rattle.model.specs.Windows.{Window, earliest_overfull}
use Rattle.model.proofs.Numbers.{true≢false}
use Rattle.model.proofs.Windows.{earliest_overfull_found, earliest_overfull_none}
use Rattle.std.specs.Prelude.{Some}
use Rattle.windows.specs.Answers.{overfull_answer}
use Rattle.windows.proofs.Answers.{window_is, fits_none}
use Rattle.windows.proofs.SumSteps.{sum_next}
use Rattle.windows.proofs.EndSteps.{sum_none}
use Rattle.demands.specs.RunningSums.{TestCall, Fitting, RunningSums}

-- a fitting set has no earliest overfull window
fitting_none : (call : TestCall) → Fitting call → earliest_overfull call.top call.jobs ≡ none
fitting_none call fits = go (earliest_overfull call.top call.jobs) refl
  where
    go : (found : Option Window) → earliest_overfull call.top call.jobs ≡ found → found ≡ none
    go none e = refl
    go (some w) e = absurd (true≢false (sym (earliest_overfull_found call.top call.jobs w e).overfull ∙ fits w.start w.end))

-- the window that is named
named : (call : TestCall) (start end : ℕ) → call.answered.found ≡ Some (record { start = start; end = end })
    → earliest_overfull call.top call.jobs ≡ some (record { start = start; end = end })
named call start end e = window_is (earliest_overfull call.top call.jobs) (record { start = start; end = end }) (sym call.contract.found_is ∙ e)

pub running_sums : RunningSums
running_sums =
    record {
      sum_begins = sum_none;
      sum_moves_on = λ arrays from start last released inside total added running. sum_next arrays from start last released inside running;
      exactly = λ call fits.
          let fitting = fitting_none call fits in
          (call.contract.found_is ∙ ap overfull_answer fitting, call.contract.additions_are fitting);
      never_more = λ call. call.contract.additions_most;
      until_the_window = λ call start end e. call.contract.additions_until _ (named call start end e);
      window_named = named;
      none_named = λ call e.
          earliest_overfull_none call.top call.jobs call.valid.release_before_deadline
          (fits_none (earliest_overfull call.top call.jobs) (sym call.contract.found_is ∙ e));
      every_call = λ top jobs answered valid contract.
          (record { top = top; jobs = jobs; valid = valid; answered = answered; contract = contract }, refl, refl, refl);
    }
