-- Checking a plan and its price list (document 01, "Checking").
use Rattle.std.specs.Prelude.{ℕ, suc, ◌+◌, ◌*◌, Bool, not, cond, ◌||◌, ◌&&◌, List, length, ltb, leb, eqb}
use Rattle.model.specs.declared.Job.{Job}
use Rattle.model.specs.declared.Parameters.{Parameters}
use Rattle.model.specs.Outcome.{Outcome, answer, refuse_when, by_entry, and_then}
use Rattle.model.specs.Search.{some_below}
use Rattle.model.specs.Jobs.{job_of}
use Rattle.model.specs.Processors.{working_of, top_of}
use Rattle.model.specs.Intervals.{interval_count, bound_at, length_of, is_open}
use Rattle.model.specs.Sites.{Site, read_site}
use Rattle.model.specs.Plans.{load}
use Rattle.model.specs.Energy.{energy_figure}
use Rattle.model.specs.Prices.{is_band_number, fits_load}
use Rattle.model.specs.Steps.{Step, plan_intervals, step_count, cell_at, step_at, wrong_plan_length, job_sum, shares_of}
use Rattle.model.specs.PriceBytes.{price_intervals, end_at, prices_of}

-- The pair of a job and an interval exists and is open.
abbrev pub is_open_pair : List Job → (bounds : List ℕ) → Step → Bool
is_open_pair jobs bounds step =
    ltb step.interval (interval_count bounds) && ltb step.job (length jobs)
    && is_open bounds (job_of jobs step.job) step.interval

-- The steps, 15 to 18: each stands in an open pair of its own, with cycles that its job has. Levels do not bear on them.
module _ (jobs : List Job) (bounds plan : List ℕ) where
  -- 17: cell not an open pair, or present earlier.
  abbrev pub wrong_cell : (step : ℕ) → Bool
  wrong_cell s = not (is_open_pair jobs bounds (step_at plan s)) || some_below s (λ r. eqb (cell_at plan r) (cell_at plan s))

  -- 18: cycles 0 or above the job's.
  abbrev pub wrong_cycles : (step : ℕ) → Bool
  wrong_cycles s =
      not (leb 1 (step_at plan s).cycles && leb (step_at plan s).cycles (job_of jobs (step_at plan s).job).cycles)

  unfoldable pub step_fault : (step : ℕ) → ℕ
  step_fault s = cond (wrong_cell s) 17 (cond (wrong_cycles s) 18 0)

  -- 15, 16, then by step 17 and 18.
  abbrev pub stepping : {A : Type 0} → Outcome A → Outcome A
  stepping next =
      refuse_when (wrong_plan_length plan) 15
      (refuse_when (not (eqb (plan_intervals plan) (interval_count bounds))) 16
      (by_entry (step_count plan) step_fault
      next))

-- The first half, 15 to 20: the plan fits the site.
module _ (site : Site) (plan : List ℕ) where
  -- 19: a job whose steps don't add to its cycles.
  unfoldable pub job_sum_fault : (job : ℕ) → ℕ
  job_sum_fault j = cond (eqb (job_sum plan j) (job_of site.jobs j).cycles) 0 19

  -- 20: an interval loaded past its length × top frequency.
  unfoldable pub load_fault : (interval : ℕ) → ℕ
  load_fault i = cond (leb (load site.jobs (shares_of plan) i) (length_of site.bounds i * top_of site.processor)) 0 20

  -- The steps, then 19 by job and 20 by interval.
  unfoldable pub fitting : {A : Type 0} → Outcome A → Outcome A
  fitting next =
      stepping site.jobs site.bounds plan
      (by_entry (length site.jobs) job_sum_fault
      (by_entry (interval_count site.bounds) load_fault
      next))

-- The second half, 21 to 24: the prices fit the plan.
module _ (site : Site) (plan prices : List ℕ) where
  -- 21: price list under 2 bytes, wrong N, or length not 2 + 5N.
  abbrev pub wrong_price_length : Bool
  wrong_price_length =
      ltb (length prices) 2 || not (eqb (price_intervals prices) (interval_count site.bounds))
      || not (eqb (length prices) (2 + 5 * interval_count site.bounds))

  -- 22: wrong end, or price not 1 to m.
  unfoldable pub entry_fault : (interval : ℕ) → ℕ
  entry_fault i = cond (eqb (end_at prices i) (bound_at site.bounds (suc i)) && is_band_number (working_of site.processor) (prices_of prices i)) 0 22

  -- 23: price not fitting the load.
  unfoldable pub price_fault : (interval : ℕ) → ℕ
  price_fault i = cond (fits_load (working_of site.processor) (length_of site.bounds i) (load site.jobs (shares_of plan) i) (prices_of prices i)) 0 23

  -- 24: the job is open in an interval of smaller price.
  unfoldable pub cheaper_fault : (step : ℕ) → ℕ
  cheaper_fault s =
      cond
      (some_below (interval_count site.bounds)
      (λ i. is_open site.bounds (job_of site.jobs (step_at plan s).job) i && ltb (prices_of prices i) (prices_of prices (step_at plan s).interval)))
      24 0

  -- 21, then by interval 22, by interval again 23, by step 24.
  unfoldable pub pricing : {A : Type 0} → Outcome A → Outcome A
  pricing next =
      refuse_when wrong_price_length 21
      (by_entry (interval_count site.bounds) entry_fault
      (by_entry (interval_count site.bounds) price_fault
      (by_entry (step_count plan) cheaper_fault
      next)))

-- The energy figure of a plan for a site.
abbrev pub figure_of : Site → (plan : List ℕ) → ℕ
figure_of site plan = energy_figure (working_of site.processor) site.jobs site.bounds (shares_of plan)

-- The first half alone: what fits is answered with the energy figure.
unfoldable pub fits_for : Site → (plan : List ℕ) → Outcome ℕ
fits_for site plan = fitting site plan (answer (figure_of site plan))

-- Fitting (document 02, Change 8). Levels, jobs, marks, 35 and 36, then the first half.
unfoldable pub fits : (level_bytes job_bytes mark_bytes : List ℕ) → Parameters → (plan : List ℕ) → Outcome ℕ
fits level_bytes job_bytes mark_bytes parameters plan =
    and_then (read_site level_bytes job_bytes mark_bytes parameters) λ site.
    fits_for site plan

-- Both halves, one after the other. Accepted: the energy figure.
unfoldable pub check_for : Site → (plan prices : List ℕ) → Outcome ℕ
check_for site plan prices =
    fitting site plan
    (pricing site plan prices
    (answer (figure_of site plan)))

-- Checking. Levels, jobs, marks, 35 and 36, then both halves.
unfoldable pub check : (level_bytes job_bytes mark_bytes : List ℕ) → Parameters → (plan prices : List ℕ) → Outcome ℕ
check level_bytes job_bytes mark_bytes parameters plan prices =
    and_then (read_site level_bytes job_bytes mark_bytes parameters) λ site.
    check_for site plan prices
