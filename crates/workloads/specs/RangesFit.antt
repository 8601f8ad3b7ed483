-- No range of intervals is overfull: the jobs whose windows lie in it need no more than it holds at the top frequency.
use Rattle.std.specs.Prelude.{ℕ, ◌+◌, ◌-◌, ◌*◌, ◌≤◌, Bool, ◌&&◌, leb}
use Rattle.model.specs.Sum.{sum, only_if}
use Rattle.workloads.specs.Placement.{Problem}

-- The window of job j lies in the range.
abbrev pub is_within : Problem → (start end j : ℕ) → Bool
is_within p start end j = leb start (p.first j) && leb (p.last j) end

abbrev pub RangesFit : Problem → Type 0
RangesFit p =
    (start end : ℕ) → start ≤ end → end ≤ p.intervals
    → sum p.jobs (λ j. only_if (is_within p start end j) (p.cycles j)) ≤ sum (end - start) (λ d. p.size (start + d)) * p.frequency p.bands
