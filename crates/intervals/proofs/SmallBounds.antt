-- The bounds of valid jobs, in an array, are small.
-- Assumes nothing.
use mathlib.Core.Path.{◌≡◌, sym, ◌∙◌, ap}
use mathlib.Core.List.{List, [], ◌∷◌}
use Prim.Native.Nat.{ℕ, suc, ◌<◌, ◌≤◌}
use native.Mathlib.Omega.{arith}
use lib.ListN.{length, get_or, take}
use lib.Seq.{get_or-take}
use Rattle.model.specs.declared.Job.{Job}
use Rattle.model.specs.Limits.{max_deadline, max_bounds}
use Rattle.model.specs.Jobs.{job_of, ValidJobs}
use Rattle.model.specs.Intervals.{interval_count, bound_at, latest_deadline, Bounds}
use Rattle.model.proofs.Intervals.{bounds_mono}
use Rattle.intervals.specs.Times.{SmallBounds}

latest_high : (jobs : List Job) → ((j : ℕ) → j < length jobs → (job_of jobs j).deadline ≤ max_deadline) → latest_deadline jobs ≤ max_deadline
unfolding latest_deadline
latest_high [] high = omega arith
latest_high (job ∷ jobs) high = omega (arith, high 0 (omega arith), latest_high jobs (λ j below. high (suc j) (omega arith)))

-- the array's first elements are the bounds
pub small-bounds : {jobs : List Job} {bounds : List ℕ} → Bounds jobs bounds → ValidJobs jobs → length bounds ≤ max_bounds
    → (times : List ℕ) → take (length bounds) times ≡ bounds → SmallBounds (length bounds) times
small-bounds {jobs} {bounds} B valid few times first =
    record {
      rising = record { few = few; rises = λ i below. rw (held i (omega arith), held (suc i) below) (B.rises i below) };
      last = λ i below. rw (held i below)
          (omega (arith, bounds_mono B i (interval_count bounds) (omega arith) (omega arith), B.last, latest_high jobs valid.deadline_high));
    }
  where
    held : (i : ℕ) → i < length bounds → get_or times i 0 ≡ bound_at bounds i
    held i below = sym (get_or-take (length bounds) times i 0 below) ∙ ap (λ (l : List ℕ). get_or l i 0) first
