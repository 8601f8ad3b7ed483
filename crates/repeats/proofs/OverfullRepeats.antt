-- A window that is overfull in one round is overfull in its repeats.
-- Assumes nothing.
use mathlib.Core.Path.{◌≡◌}
use mathlib.Core.Bool.{true}
use mathlib.Core.List.{List}
use Prim.Native.Nat.{ℕ, ◌+◌, ◌-◌, ◌*◌, ◌<◌, ◌≤◌}
use native.Mathlib.Nat.{zero-add, mul-le-mul_right}
use native.Mathlib.Omega.{arith}
use lib.ListN.{length}
use borrow.Author.Tests.{lt-ltb, ltb-true}
use Rattle.model.specs.declared.Job.{Job}
use Rattle.model.specs.Sum.{sum, only_if}
use Rattle.model.specs.Jobs.{job_of}
use Rattle.model.specs.Windows.{is_inside, cycles_inside, is_overfull}
use Rattle.model.proofs.Sum.{sum_cong, sum_longer}
use Rattle.model.proofs.BoundsOf.{ReleasesFirst}
use Rattle.model.proofs.LeastEnergy.{overfull_never_served}
use Rattle.repeats.specs.Repeats.{later_by, repeat_jobs}
use Rattle.repeats.specs.OverfullRepeats.{OverfullRepeats}
use Rattle.repeats.proofs.Rows.{each_row}
use Rattle.repeats.proofs.RepeatedBounds.{length_repeat_jobs, job_of_repeat_jobs}

module _ (H r : ℕ) (jobs : List Job) where
  -- every repeated job is released before its deadline
  releases_first : ReleasesFirst jobs → ReleasesFirst (repeat_jobs H r jobs)
  releases_first ordered t below =
      each_row r (length jobs) (λ t. (job_of (repeat_jobs H r jobs) t).release < (job_of (repeat_jobs H r jobs) t).deadline)
      (λ k j row column. rw (job_of_repeat_jobs H r jobs k j row column) (omega (arith, ordered j column)))
      t (rw (length_repeat_jobs H r jobs) at below)

  -- the first repeat has the jobs of the round
  first_repeat : 0 < r → (j : ℕ) → j < length jobs → job_of (repeat_jobs H r jobs) j ≡ job_of jobs j
  first_repeat some j below =
      let number : 0 * length jobs + j ≡ j = omega arith in
      let same : later_by (0 * H) (job_of jobs j) ≡ job_of jobs j = let none : 0 * H ≡ 0 = omega arith in rw (none, zero-add, zero-add) in
      rw number at (rw same at (job_of_repeat_jobs H r jobs 0 j some below))

  -- so the jobs inside a window have at least as many cycles
  more_inside : 0 < r → (start end : ℕ) → cycles_inside jobs start end ≤ cycles_inside (repeat_jobs H r jobs) start end
  unfolding cycles_inside
  more_inside some start end =
      let term : ℕ → ℕ = λ j. only_if (is_inside start end (job_of (repeat_jobs H r jobs) j)) (job_of (repeat_jobs H r jobs) j).cycles in
      let long : length jobs ≤ length (repeat_jobs H r jobs) =
      rw (length_repeat_jobs H r jobs) (omega (arith, mul-le-mul_right {m = 1} {n = r} (length jobs) some)) in
      let first : sum (length jobs) term ≡ sum (length jobs) (λ j. only_if (is_inside start end (job_of jobs j)) (job_of jobs j).cycles) =
      sum_cong (length jobs) (λ j below. rw (first_repeat some j below)) in
      omega (arith, first, sum_longer term long)

  overfull_repeated : 0 < r → (top start end : ℕ) → is_overfull top jobs start end ≡ true → is_overfull top (repeat_jobs H r jobs) start end ≡ true
  unfolding is_overfull
  overfull_repeated some top start end full =
      let more : (end - start) * top < cycles_inside jobs start end = ltb-true ((end - start) * top) (cycles_inside jobs start end) full in
      lt-ltb ((end - start) * top) (cycles_inside (repeat_jobs H r jobs) start end) (omega (arith, more_inside some start end))

pub overfull_repeats : OverfullRepeats
overfull_repeats site sound start end full H r some schedule serves =
    overfull_never_served site.processor.idle_power site.processor.levels (repeat_jobs H r site.jobs)
    (record { rising = sound.rising; ordered = releases_first H r site.jobs sound.ordered })
    start end (overfull_repeated H r site.jobs some _ start end full) schedule serves
