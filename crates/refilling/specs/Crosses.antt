-- The crosses at the start, in plain arrays.
use Rattle.std.specs.Prelude.{ℕ, ◌<◌, ◌≤◌, ◌^◌, ◌≡◌, List, leb, length}
use Rattle.model.specs.Limits.{max_intervals, max_bounds}
use Rattle.model.specs.Sum.{sum, only_if}
use Rattle.workloads.specs.Arrays.{numbers_in}
use Rattle.due_cycles.specs.Due.{due_at}

-- The cycles of the first `jobs` jobs that are due by a bound.
unfoldable pub due_to : (jobs : ℕ) → (last cycles : ℕ → ℕ) → (bound : ℕ) → ℕ
due_to jobs last cycles b = sum jobs (λ j. only_if (leb (last j) b) (cycles j))

-- An array has what is due at each bound, the loads before a bound are no less than what is due by it, and fit 32 bits.
pub record CanCross (jobs intervals : ℕ) (last cycles : ℕ → ℕ) (loads cross : List ℕ) : Type 0 where
  pub intervals_most : intervals ≤ max_intervals
  pub size : length cross ≡ max_bounds
  pub due : (b : ℕ) → numbers_in cross b ≡ due_at jobs last cycles b
  pub window : (j : ℕ) → j < jobs → 0 < last j
  pub holds : (b : ℕ) → b ≤ intervals → due_to jobs last cycles b ≤ sum b (numbers_in loads)
  pub small : sum intervals (numbers_in loads) < 2 ^ 32
