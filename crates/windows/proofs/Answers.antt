-- Laws of the answer: which window it names, and that none is overfull where the jobs fit.
-- Assumes nothing.
use mathlib.Core.Path.{◌≡◌, refl}
use mathlib.Core.Option.{Option, none, some}
use mathlib.Core.List.{List}
use Prim.Native.Nat.{ℕ, ◌≤◌}
use native.Mathlib.Omega.{arith}
use Rattle.std.specs.Prelude.{Some, None}
use Rattle.model.specs.declared.Job.{Job}
use Rattle.model.specs.Limits.{max_deadline}
use Rattle.model.specs.Jobs.{ValidJobs}
use Rattle.model.specs.Windows.{Window, earliest_overfull}
use Rattle.model.proofs.Windows.{earliest_overfull_found}
use Rattle.windows.specs.declared.overfull.Window.{Window as CodeWindow}
use Rattle.windows.specs.Answers.{overfull_answer}

pub window_is : (found : Option Window) (w : CodeWindow) → overfull_answer found ≡ Some w → found ≡ some (record { start = w.start; end = w.end })
window_is none w e = cc
window_is (some window) w e = let same : record { start = window.start; end = window.end } ≡ w = cc e in rw (← same)

pub fits_none : (found : Option Window) → overfull_answer found ≡ None → found ≡ none
fits_none none e = refl
fits_none (some window) e = cc

-- the window that is answered lies inside the horizon
pub window_inside : (top : ℕ) (jobs : List Job) (w : CodeWindow) → ValidJobs jobs → overfull_answer (earliest_overfull top jobs) ≡ Some w
    → (w.start ≤ w.end) × (w.end ≤ max_deadline)
window_inside top jobs w valid e =
    let law = earliest_overfull_found top jobs _ (window_is (earliest_overfull top jobs) w e) in
    let (k, inside, ends) = law.deadline in
    (omega (arith, law.later), rw (← ends) (valid.deadline_high k inside))
