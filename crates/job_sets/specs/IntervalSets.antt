-- A set of jobs for each interval, in one array of words.
use Rattle.std.specs.Prelude.{ℕ, suc, ◌<◌, ◌≤◌, ◌≡◌, Bool, cond, ◌&&◌, List, length, get_or, ltb, leb}
use Rattle.model.specs.Limits.{max_intervals}
use Rattle.model.specs.Entries.{list_of}
use Rattle.job_sets.specs.declared.JobSet.{JobSet}
use Rattle.job_sets.specs.JobSets.{set_of, with_job, without_job, in_first_only}

-- The words of the sets of all intervals.
abbrev pub set_words : ℕ
set_words = max_intervals

-- The set of an interval.
unfoldable pub set_in : (sets : List ℕ) → (interval : ℕ) → JobSet
set_in sets interval = record { word = get_or sets interval 0 }

-- An array with the set of the jobs that pass a test for each interval.
unfoldable pub sets_of : (test : (interval job : ℕ) → Bool) → List ℕ
sets_of test = list_of set_words (λ i. (set_of (test i)).word)

-- The jobs in the set of an interval and not in that of the next one; in the last of `intervals` all of them.
abbrev pub leaving_set : (intervals : ℕ) → (sets : List ℕ) → (interval : ℕ) → JobSet
leaving_set intervals sets i = cond (ltb (suc i) intervals) (in_first_only (set_in sets i) (set_in sets (suc i))) (set_in sets i)

-- One job more in the set of an interval: all other sets stay.
pub record Added (before after : List ℕ) (interval job : ℕ) : Type 0 where
  pub size : length after ≡ set_words
  pub here : set_in after interval ≡ with_job (set_in before interval) job
  pub elsewhere : (i : ℕ) → (i ≡ interval → ⊥) → set_in after i ≡ set_in before i

-- Interval i is one of those from `first` to before `end`.
abbrev pub in_range : (first end i : ℕ) → Bool
in_range first end i = leb first i && ltb i end

-- One job more in the sets of the intervals from `first` to before `end`: all other sets stay.
pub record AddedRange (before after : List ℕ) (first end job : ℕ) : Type 0 where
  pub size : length after ≡ set_words
  pub here : (i : ℕ) → first ≤ i → i < end → set_in after i ≡ with_job (set_in before i) job
  pub elsewhere : (i : ℕ) → (first ≤ i → i < end → ⊥) → set_in after i ≡ set_in before i

-- One job less in the set of an interval: all other sets stay.
pub record Removed (before after : List ℕ) (interval job : ℕ) : Type 0 where
  pub size : length after ≡ set_words
  pub here : set_in after interval ≡ without_job (set_in before interval) job
  pub elsewhere : (i : ℕ) → (i ≡ interval → ⊥) → set_in after i ≡ set_in before i
