-- Laws of a set that fits: no window has more cycles inside than the top frequency gives there; and all jobs together have few, since all of
-- them lie inside the window from 0 to the latest tick that a deadline may be.
-- Assumes nothing.
use mathlib.Core.Path.{◌≡◌, sym, ◌∙◌}
use mathlib.Core.Logic.{◌⊎◌, inl, inr}
use mathlib.Core.List.{List}
use mathlib.Core.Option.{none}
use Prim.Native.Nat.{ℕ, ◌-◌, ◌*◌, ◌^◌, ◌<◌, ◌≤◌}
use native.Mathlib.Omega.{arith}
use lib.ListN.{length}
use Rattle.model.specs.declared.Job.{Job}
use Rattle.model.specs.Limits.{max_frequency, max_deadline}
use Rattle.model.specs.Sum.{sum}
use Rattle.model.specs.Jobs.{job_of, ValidJobs}
use Rattle.model.specs.Windows.{cycles_inside, earliest_overfull}
use Rattle.model.proofs.Numbers.{lt_or_le, true≢false}
use Rattle.model.proofs.Sum.{sum_cong}
use Rattle.model.proofs.Windows.{inside_iff, overfull_iff, earliest_overfull_none}
use Rattle.windows.proofs.Capacity.{capacity_small}

pub fitting_window : (top : ℕ) (jobs : List Job) → ((j : ℕ) → j < length jobs → (job_of jobs j).release < (job_of jobs j).deadline)
    → earliest_overfull top jobs ≡ none → (start end : ℕ) → cycles_inside jobs start end ≤ (end - start) * top
fitting_window top jobs ordered fits start end = go (lt_or_le ((end - start) * top) (cycles_inside jobs start end))
  where
    go : ((end - start) * top < cycles_inside jobs start end) ⊎ (cycles_inside jobs start end ≤ (end - start) * top)
        → cycles_inside jobs start end ≤ (end - start) * top
    go (inl more) = absurd (true≢false (sym ((overfull_iff top jobs start end).1 more) ∙ earliest_overfull_none top jobs ordered fits start end))
    go (inr enough) = enough

pub all_cycles_few : (top : ℕ) (jobs : List Job) → ValidJobs jobs → top ≤ max_frequency → earliest_overfull top jobs ≡ none
    → sum (length jobs) (λ j. (job_of jobs j).cycles) < 2 ^ 32
unfolding cycles_inside
all_cycles_few top jobs valid slow fits =
    omega (
      arith,
      all_inside,
      fitting_window top jobs valid.release_before_deadline fits 0 max_deadline,
      capacity_small 0 max_deadline top (omega arith) slow,
    )
  where
    all_inside : cycles_inside jobs 0 max_deadline ≡ sum (length jobs) (λ j. (job_of jobs j).cycles)
    all_inside =
        sum_cong (length jobs) (λ j below. rw ((inside_iff 0 max_deadline (job_of jobs j)).1 (omega arith, valid.deadline_high j below)))
