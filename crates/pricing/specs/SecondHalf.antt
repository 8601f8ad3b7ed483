-- The second half of the check over plain arrays.
use Rattle.std.specs.Prelude.{ℕ, ◌+◌, ◌-◌, ◌*◌, ◌<◌, ◌≤◌, ◌≡◌, Bool, not, cond, ◌&&◌, ◌||◌, List, length, get_or, ltb, leb, eqb}
use Rattle.model.specs.Limits.{max_points}
use Rattle.model.specs.Entries.{list_of}
use Rattle.model.specs.Search.{some_below}
use Rattle.model.specs.Points.{Point}
use Rattle.model.specs.Prices.{fits_load}
use Rattle.model.specs.Steps.{step_count, step_at}
use Rattle.model.specs.PriceBytes.{price_intervals, end_at}
use Rattle.job_sets.specs.declared.JobSet.{JobSet}
use Rattle.job_sets.specs.JobSets.{is_member, set_of, no_jobs}
use Rattle.job_sets.specs.IntervalSets.{set_in}
use Rattle.fitting.specs.Sums.{interval_loads}

-- A plan whose steps each have one of the jobs and one of the intervals between the bounds, and the loads that they make.
pub record Planned (jobs bounds : ℕ) (plan loads : List ℕ) : Type 0 where
  pub size : length plan ≡ 4 + 6 * step_count plan
  pub step_interval : (s : ℕ) → s < step_count plan → (step_at plan s).interval < bounds - 1
  pub step_job : (s : ℕ) → s < step_count plan → (step_at plan s).job < jobs
  pub loaded : loads ≡ interval_loads plan

-- The price of each interval is the number of a band, counted from 1.
pub record BandNumbers (bands intervals : ℕ) (numbers : List ℕ) : Type 0 where
  pub low : (i : ℕ) → i < intervals → 1 ≤ get_or numbers i 0
  pub high : (i : ℕ) → i < intervals → get_or numbers i 0 ≤ bands

-- Refusal 21: price list under 2 bytes, wrong N, or length not 2 + 5N.
abbrev pub wrong_length_in : (intervals : ℕ) → (prices : List ℕ) → Bool
wrong_length_in intervals prices =
    ltb (length prices) 2 || not (eqb (price_intervals prices) intervals) || not (eqb (length prices) (2 + 5 * intervals))

-- Refusal 22 at an interval, over times and prices in arrays; 0 for none.
abbrev pub entry_fault_in : (bands : ℕ) → (times prices numbers : List ℕ) → (interval : ℕ) → ℕ
entry_fault_in bands times prices numbers i =
    cond (eqb (end_at prices i) (get_or times (i + 1) 0) && (leb 1 (get_or numbers i 0) && leb (get_or numbers i 0) bands)) 0 22

-- Refusal 23 at an interval, over times, loads and prices in arrays; 0 for none.
abbrev pub price_fault_in : List Point → (times loads numbers : List ℕ) → (interval : ℕ) → ℕ
price_fault_in ws times loads numbers i =
    cond (fits_load ws (get_or times (i + 1) 0 - get_or times i 0) (get_or loads i 0) (get_or numbers i 0)) 0 23

-- The jobs that are open in one of the first `count` intervals of a price, and those sets for each price.
abbrev pub priced_set : (count : ℕ) → (sets numbers : List ℕ) → (price : ℕ) → JobSet
priced_set count sets numbers p = set_of (λ j. some_below count (λ i. is_member (set_in sets i) j && eqb (get_or numbers i 0) p))

abbrev pub priced_sets : (count : ℕ) → (sets numbers : List ℕ) → List JobSet
priced_sets count sets numbers = list_of max_points (priced_set count sets numbers)

-- The jobs that the sets of the prices below one have, and those sets for each price.
abbrev pub cheaper_set : (priced : List JobSet) → (price : ℕ) → JobSet
cheaper_set priced p = set_of (λ j. some_below p (λ q. is_member (get_or priced q no_jobs) j))

abbrev pub cheaper_sets : (priced : List JobSet) → List JobSet
cheaper_sets priced = list_of max_points (cheaper_set priced)

-- Refusal 24 at a step: its job is open in an interval of a smaller price than the step's; 0 for none.
abbrev pub cheaper_fault_in : (sets : List ℕ) → (bounds : ℕ) → (numbers plan : List ℕ) → (s : ℕ) → ℕ
cheaper_fault_in sets bounds numbers plan s =
    cond (some_below (bounds - 1)
    (λ i. is_member (set_in sets i) (step_at plan s).job && ltb (get_or numbers i 0) (get_or numbers (step_at plan s).interval 0))) 24 0
