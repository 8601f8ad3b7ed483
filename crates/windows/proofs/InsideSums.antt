-- Laws of sums over the jobs inside a window, of their cycles or of anything else: no job is inside a window without length;
-- as the end moves on to the next bound, the jobs that end there come in; and up to the last bound all are inside that are
-- released at or after the start.
-- Assumes nothing.
use mathlib.Core.Path.{◌≡◌, refl, ◌∙◌}
use mathlib.Core.Bool.{Bool, true, false, ◌&&◌}
use mathlib.Core.Logic.{◌⊎◌, inl, inr}
use mathlib.Core.List.{List}
use Prim.Native.Nat.{ℕ, ◌+◌, ◌<◌, ◌≤◌}
use native.Mathlib.Omega.{arith}
use lib.ListN.{length}
use lib.Dec.{leb, eqb}
use borrow.Author.Tests.{le-leb, lt-leb, eq-eqb, ne_eqb}
use Rattle.model.specs.declared.Job.{Job}
use Rattle.model.specs.Sum.{sum, only_if}
use Rattle.model.specs.Jobs.{job_of, ValidJobs}
use Rattle.model.specs.Windows.{is_inside}
use Rattle.model.proofs.Numbers.{lt_or_le}
use Rattle.model.proofs.Sum.{sum_cong, sum_add, sum_zero}

-- a deadline at or before the next end is at or before this one, or the next one itself
end_parts : (t : Bool) (deadline end next w : ℕ) → end < next → (deadline ≤ next → (deadline ≤ end) ⊎ (deadline ≡ next))
    → only_if (t && leb deadline next) w ≡ only_if (t && leb deadline end) w + only_if (eqb deadline next && t) w
end_parts t deadline end next w later between = go (lt_or_le next deadline)
  where
    none : only_if (t && false) w ≡ only_if (t && false) w + only_if (false && t) w
    none = omega arith

    old : (u : Bool) → only_if (u && true) w ≡ only_if (u && true) w + only_if (false && u) w
    old u = omega arith

    new : (u : Bool) → only_if (u && true) w ≡ only_if (u && false) w + only_if (true && u) w
    new true = omega arith
    new false = omega arith

    decide : (deadline ≤ end) ⊎ (deadline ≡ next)
        → only_if (t && leb deadline next) w ≡ only_if (t && leb deadline end) w + only_if (eqb deadline next && t) w
    decide (inl early) =
        rw (le-leb deadline next (omega arith), le-leb deadline end early, ne_eqb deadline next (λ e. omega (arith, e))) (old t)
    decide (inr here) = rw (le-leb deadline next (omega arith), lt-leb deadline end (omega arith), eq-eqb deadline next here) (new t)

    go : (next < deadline) ⊎ (deadline ≤ next)
        → only_if (t && leb deadline next) w ≡ only_if (t && leb deadline end) w + only_if (eqb deadline next && t) w
    go (inl past) =
        rw (lt-leb deadline next past, lt-leb deadline end (omega arith), ne_eqb deadline next (λ e. omega (arith, e))) none
    go (inr within) = decide (between within)

module _ (jobs : List Job) (weight : ℕ → ℕ) (start : ℕ) where
  -- the sum over the jobs inside the window from the start to an end
  abbrev pub inside_total : (end : ℕ) → ℕ
  inside_total end = sum (length jobs) (λ j. only_if (is_inside start end (job_of jobs j)) (weight j))

  pub total_none : ValidJobs jobs → inside_total start ≡ 0
  total_none valid = sum_zero (length jobs) (λ j below. outside (job_of jobs j) (weight j) (valid.release_before_deadline j below))
    where
      outside : (job : Job) (w : ℕ) → job.release < job.deadline → only_if (is_inside start start job) w ≡ 0
      outside job w wide = go (lt_or_le job.release start)
        where
          go : (job.release < start) ⊎ (start ≤ job.release) → only_if (is_inside start start job) w ≡ 0
          go (inl early) = rw (lt-leb start job.release early)
          go (inr from) = rw (le-leb start job.release from, lt-leb job.deadline start (omega arith))

  pub total_next : (end next : ℕ) → end < next
      → ((j : ℕ) → j < length jobs → (job_of jobs j).deadline ≤ next → ((job_of jobs j).deadline ≤ end) ⊎ ((job_of jobs j).deadline ≡ next))
      → inside_total next
      ≡ inside_total end + sum (length jobs) (λ j. only_if (eqb (job_of jobs j).deadline next && leb start (job_of jobs j).release) (weight j))
  total_next end next later between =
      sum_cong (length jobs) (λ j below. end_parts (leb start (job_of jobs j).release) (job_of jobs j).deadline end next (weight j) later (between j below))
      ∙ sum_add (length jobs) _ _

  pub total_whole : (end : ℕ) → ((j : ℕ) → j < length jobs → (job_of jobs j).deadline ≤ end)
      → inside_total end ≡ sum (length jobs) (λ j. only_if (leb start (job_of jobs j).release) (weight j))
  total_whole end last =
      sum_cong (length jobs)
      (λ j below. rw (le-leb (job_of jobs j).deadline end (last j below)) (both_same (leb start (job_of jobs j).release) (weight j)))
    where
      both_same : (t : Bool) (w : ℕ) → only_if (t && true) w ≡ only_if t w
      both_same true w = refl
      both_same false w = refl
