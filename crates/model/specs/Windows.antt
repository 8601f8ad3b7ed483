-- Windows: the spare, and the earliest overfull one (document 01, refusal 11 and "Spare of a window").
use Rattle.std.specs.Prelude.{ℕ, ◌-◌, ◌*◌, Bool, ◌&&◌, ◌||◌, List, length, ℤ, pos, ◌-ℤ◌, ltb, leb}
use Rattle.std.proofs.Math.Option.{Option, none, some}
use Rattle.model.specs.declared.Job.{Job}
use Rattle.model.specs.declared.Parameters.{Parameters}
use Rattle.model.specs.Limits.{max_deadline}
use Rattle.model.specs.Outcome.{Outcome, answer, refuse_when, and_then}
use Rattle.model.specs.Sum.{sum, only_if}
use Rattle.model.specs.Search.{some_below, least_below}
use Rattle.model.specs.Jobs.{job_of}
use Rattle.model.specs.Processors.{top_of}
use Rattle.model.specs.Sites.{Tables, read_tables}

-- A window's own jobs are those inside it: release ≥ start, deadline ≤ end.
abbrev pub is_inside : (start end : ℕ) → Job → Bool
is_inside start end job = leb start job.release && leb job.deadline end

-- The cycles of the jobs inside a window.
unfoldable pub cycles_inside : List Job → (start end : ℕ) → ℕ
cycles_inside jobs start end = sum (length jobs) (λ j. only_if (is_inside start end (job_of jobs j)) (job_of jobs j).cycles)

-- The spare: length × top frequency less the cycles of the jobs inside; it may be negative.
unfoldable pub spare_of : (top : ℕ) → List Job → (start end : ℕ) → ℤ
spare_of top jobs start end = pos ((end - start) * top) -ℤ pos (cycles_inside jobs start end)

-- Overfull: the jobs inside need more than length × top frequency.
unfoldable pub is_overfull : (top : ℕ) → List Job → (start end : ℕ) → Bool
is_overfull top jobs start end = ltb ((end - start) * top) (cycles_inside jobs start end)

pub record Window : Type 0 where
  pub start : ℕ
  pub end : ℕ

module _ (top : ℕ) (jobs : List Job) where
  -- the deadline of job k is later than start, and the window from start to it is overfull
  unfoldable pub overfull_to : (start k : ℕ) → Bool
  overfull_to start k = ltb start (job_of jobs k).deadline && is_overfull top jobs start (job_of jobs k).deadline

  -- the earliest release from which some window to a later deadline is overfull
  unfoldable pub earliest_start : Option ℕ
  earliest_start =
      least_below (length jobs) (λ j. (job_of jobs j).release)
      (λ j. some_below (length jobs) (overfull_to (job_of jobs j).release))

  -- the earliest deadline later than a start to which the window is overfull
  unfoldable pub earliest_end : (start : ℕ) → Option ℕ
  earliest_end start = least_below (length jobs) (λ k. (job_of jobs k).deadline) (overfull_to start)

-- The window from start to end, if there is an end.
abbrev pub window_to : (start : ℕ) → Option ℕ → Option Window
window_to start none = none
window_to start (some end) = some (record { start = start; end = end })

abbrev pub window_from : (ends : ℕ → Option ℕ) → Option ℕ → Option Window
window_from ends none = none
window_from ends (some start) = window_to start (ends start)

-- Refusal 11: the earliest start that has an overfull window, and then its earliest end.
unfoldable pub earliest_overfull : (top : ℕ) → List Job → Option Window
earliest_overfull top jobs = window_from (earliest_end top jobs) (earliest_start top jobs)

-- 27, and 33 of document 02: start not before end, or end above 1,000,000.
abbrev pub wrong_span : (start end : ℕ) → Bool
wrong_span start end = leb end start || ltb max_deadline end

abbrev pub spare_for : Tables → (start end : ℕ) → Outcome ℤ
spare_for tables start end =
    refuse_when (wrong_span start end) 27
    (answer (spare_of (top_of tables.processor) tables.jobs start end))

-- Spare of a window. Levels, jobs, 35 and 36, then 27. It cuts no intervals, and takes no marks.
unfoldable pub spare : (level_bytes job_bytes : List ℕ) → Parameters → (start end : ℕ) → Outcome ℤ
spare level_bytes job_bytes parameters start end =
    and_then (read_tables level_bytes job_bytes parameters) λ tables.
    spare_for tables start end
