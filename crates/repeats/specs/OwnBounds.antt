-- The bounds of repeats of jobs' own bounds: nothing is cut that the repeated jobs would not cut themselves.
use Rattle.std.specs.Prelude.{ℕ, ◌<◌, ◌≡◌, List, length}
use Rattle.model.specs.declared.Job.{Job}
use Rattle.model.specs.Jobs.{job_of}
use Rattle.model.specs.Intervals.{bounds_of}
use Rattle.repeats.specs.Repeats.{repeat_jobs, repeat_bounds, RepeatsApart}

-- Where a round is cut at its jobs' releases and deadlines alone, r repeats are cut at the releases and deadlines of the
-- repeated jobs alone. Proved in proofs/OwnBounds.antt.
abbrev pub OwnBoundsRepeat : Type 0
OwnBoundsRepeat =
    (jobs : List Job) → ((j : ℕ) → j < length jobs → (job_of jobs j).release < (job_of jobs j).deadline)
    → (H : ℕ) → RepeatsApart H jobs
    → (r : ℕ) → repeat_bounds H (bounds_of jobs) r ≡ bounds_of (repeat_jobs H r jobs)
