-- `window::window_spare` meets its contract. It rests on `cycles_inside`, and on that length × top frequency is small.
-- Assumes nothing.
use mathlib.Core.Path.{◌≡◌, ◌∙◌}
use mathlib.Core.List.{List}
use Prim.Native.Nat.{ℕ, ◌-◌, ◌*◌, ◌^◌, ◌<◌}
use native.Mathlib.Nat.{lt_of_le_of_lt}
use native.Mathlib.Omega.{arith}
use lib.Dec.{lit<}
use lib.IntN.{pos, ◌-ℤ◌}
use Rattle.model.specs.declared.Job.{Job}
use Rattle.model.specs.Windows.{cycles_inside, spare_of}
use Rattle.windows.proofs.Capacity.{capacity_small}
use Rattle.spare.proofs.Differences.{difference_fits, difference}
use Rattle.spare.proofs.window.window_spare.Goals as goal
use Rattle.spare.proofs.window.window_spare.Goals.{After-cycles_inside-need}

is-spare : (top : ℕ) (jobs : List Job) (start end need : ℕ) → need ≡ cycles_inside jobs start end
    → pos ((end - start) * top) -ℤ pos need ≡ spare_of top jobs start end
unfolding spare_of
is-spare top jobs start end need e = rw e

-- length × top frequency; it and the cycles are numbers that a signed one holds
abbrev capacity : (c : After-cycles_inside-need) → ℕ
capacity c = let a = c.args in (a.end - a.start) * a.top

small : (c : After-cycles_inside-need) → (capacity c < 2 ^ 63) × (c.cycles_inside-need.result < 2 ^ 63)
small c = (lt_of_le_of_lt (capacity_small _ _ _ (omega arith) (omega arith)) (lit< tt), omega arith)

pub overflow_mul-result : goal.overflow_mul-result
overflow_mul-result c = omega (arith, small (goal.at.overflow_mul-result c).After-cycles_inside-need)

pub overflow_cast-result : goal.overflow_cast-result
overflow_cast-result c = record { sfits = (small (goal.at.overflow_cast-result c).After-cycles_inside-need).0 }

pub overflow_sub-result-2 : goal.overflow_sub-result-2
overflow_sub-result-2 c = difference_fits _ _ (small (goal.at.overflow_sub-result-2 c).After-cycles_inside-need).0 (small (goal.at.overflow_sub-result-2 c).After-cycles_inside-need).1

pub returns : goal.returns
returns c = difference _ _ (small (goal.at.returns c).After-cycles_inside-need).0 (small (goal.at.returns c).After-cycles_inside-need).1 ∙ is-spare _ _ _ _ _ c.cycles_inside-need.ensures.0
