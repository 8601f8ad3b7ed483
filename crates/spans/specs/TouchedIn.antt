-- What touches a span, over plain arrays: the jobs' releases and deadlines, the times of the bounds, and the cells of the plan's
-- steps as one set of jobs for each interval.
use Rattle.std.specs.Prelude.{ℕ, ◌+◌, ◌*◌, ◌≤◌, Bool, cond, ◌&&◌, List, [], ◌∷◌, length, get_or, ltb, leb}
use Rattle.std.proofs.Math.Option.{Option}
use Rattle.model.specs.declared.Job.{Job}
use Rattle.model.specs.Limits.{max_jobs, max_bounds}
use Rattle.model.specs.Entries.{joined}
use Rattle.model.specs.Search.{passing_below, least_below}
use Rattle.model.specs.Intervals.{Bounds}
use Rattle.job_sets.specs.declared.JobSet.{JobSet}
use Rattle.job_sets.specs.JobSets.{is_member, no_jobs}
use Rattle.job_sets.specs.IntervalSets.{set_in}
use Rattle.intervals.specs.Times.{HoldsTimes}
use Rattle.spans.specs.Spans.{Touched}

-- Job j is open somewhere in the span, and job j is wholly inside it.
module _ (releases deadlines : List ℕ) (start end : ℕ) where
  abbrev pub opens_at : (job : ℕ) → Bool
  opens_at j = ltb (get_or releases j 0) end && ltb start (get_or deadlines j 0)

  abbrev pub inside_at : (job : ℕ) → Bool
  inside_at j = leb start (get_or releases j 0) && leb (get_or deadlines j 0) end

-- The members of a set, each with a number added, by job number.
abbrev pub members_from : (base : ℕ) → JobSet → List ℕ
members_from base set = joined max_jobs (λ j. cond (is_member set j) ((base + j) ∷ []) [])

-- Interval i shares a tick with the span.
abbrev pub touches_at : (times : List ℕ) → (start end : ℕ) → (interval : ℕ) → Bool
touches_at times start end i = ltb (get_or times i 0) end && ltb start (get_or times (i + 1) 0)

-- The set of an interval that shares a tick with the span; no jobs for any other.
abbrev pub set_within : (times sets : List ℕ) → (start end : ℕ) → (interval : ℕ) → JobSet
set_within times sets start end i = cond (touches_at times start end i) (set_in sets i) no_jobs

-- The cells of these sets, interval by interval, within an interval by job number.
unfoldable pub cells_within : (times sets : List ℕ) → (intervals start end : ℕ) → List ℕ
cells_within times sets intervals start end = joined intervals (λ i. members_from (i * max_jobs) (set_within times sets start end i))

-- The nearest deadline of the first `count` jobs, or none.
abbrev pub nearest_in : (deadlines : List ℕ) → (count start : ℕ) → Option ℕ
nearest_in deadlines count start = least_below count (λ j. get_or deadlines j 0) (λ j. leb start (get_or deadlines j 0))

-- What touches the span.
unfoldable pub touched_in : (releases deadlines : List ℕ) → (count : ℕ) → (times sets : List ℕ) → (intervals start end : ℕ) → Touched
touched_in releases deadlines count times sets intervals start end = record {
  open_jobs = passing_below count (opens_at releases deadlines start end);
  inside_jobs = passing_below count (inside_at releases deadlines start end);
  steps = cells_within times sets intervals start end;
  deadline = nearest_in deadlines count start;
}

-- Bounds of jobs, as many as there can be at most, stand in an array.
pub record HoldsBounds (jobs : List Job) (times : List ℕ) (count : ℕ) (bounds : List ℕ) : Type 0 where
  pub cuts : Bounds jobs bounds
  pub few : length bounds ≤ max_bounds
  pub holds : HoldsTimes times count bounds
